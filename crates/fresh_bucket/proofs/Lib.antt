pub mod Listed
pub mod Revalued
pub mod Stated
pub mod Encoded
pub mod Nothing
mod Prelude
