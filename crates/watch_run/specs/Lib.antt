pub mod WatchProgram
pub mod Watching
pub mod WatchLaws
