pub mod Words
pub mod Commands
pub mod Judging
pub mod Parser
pub mod Found
pub mod WatchWords
pub mod WatchOptions
pub mod WatchFound
