pub mod WalkLaws
pub mod Merging
pub mod Writing
pub mod Stepping
pub mod Sides
mod Prelude
