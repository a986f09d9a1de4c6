pub mod DriveStates
pub mod History
pub mod BoardInvariant
pub mod Views
pub mod Examples
pub use Rattle.board.specs.declared.board_view.View.{View}
pub use Rattle.board.specs.History.{entries_of, log_of, with_entry}
pub use Rattle.board.specs.Views.{ChangesBoard, FollowsBoard, IsViewOf, Sees, WaitedFor}
