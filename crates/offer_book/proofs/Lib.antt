pub mod Above
pub mod Selling
mod Prelude
