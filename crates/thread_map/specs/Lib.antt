pub mod Mapped
pub use Rattle.thread_map.specs.Mapped.{AreMapped}
