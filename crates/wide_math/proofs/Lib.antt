pub mod Roots
pub mod Split
