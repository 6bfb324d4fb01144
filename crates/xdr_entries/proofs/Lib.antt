pub mod Levels
pub mod BasicLaws
pub mod PredicateLaws
pub mod EntryLaws
pub mod KeyLaws
pub mod AllLaws
mod Prelude
