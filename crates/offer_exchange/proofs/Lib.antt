pub mod Below
pub mod Within
pub mod Adjusting
pub mod Evaluated
mod Prelude
