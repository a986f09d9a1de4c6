pub mod Inode
pub mod InodeReader
