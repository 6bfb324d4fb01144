pub mod Options
pub mod Names
pub mod OneCommand
pub mod Numbers
pub mod Judging
pub mod Forms
pub mod Shapes
pub mod Reading
pub mod Ordered
pub mod WatchTexts
pub mod WatchWalk
pub mod WatchReading
mod Prelude
