mod Prelude
pub mod Endings
pub mod Published
pub mod Starting
pub mod Stopping
pub mod WatchesAnswered
