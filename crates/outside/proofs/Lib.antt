pub mod Running
pub mod MemDisk
pub mod Crashed
mod Prelude
