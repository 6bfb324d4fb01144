pub mod Amounts
pub mod Empty
mod Extensions
pub mod Plain
mod Sparing
mod Prelude
