pub mod Maps
pub mod Decided
pub mod Entries
pub mod Steps
pub mod Changes
pub mod Refusing
pub mod Closing
pub mod FilesOfLevels
pub mod Marks
pub mod Ranges
pub mod Rules
pub mod Judging
pub mod Running
pub mod Starting
pub mod Contents
mod Prelude
