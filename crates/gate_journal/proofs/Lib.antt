pub mod Staying
pub mod Pieces
pub mod Blocks
pub mod OneList
pub mod Records
pub mod Crash
pub mod Moments
pub mod Settled
mod Prelude
