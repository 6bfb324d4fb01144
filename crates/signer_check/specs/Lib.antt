pub mod Checks
pub mod Progress
pub mod Weight
pub mod Groups
