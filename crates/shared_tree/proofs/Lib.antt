pub mod Parts
pub mod Changed
pub mod Divided
mod Prelude
