pub mod Needs
pub mod Indices
pub mod Turns
pub mod Uses
pub mod KindsCounted
pub mod Grouped
pub mod Own
mod Prelude
