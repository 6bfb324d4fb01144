pub mod Orders
pub mod Counting
pub mod Ranking
pub mod Ranks
pub mod Indices
pub mod Longer
pub mod Encoded
pub mod Ordered
pub mod Texts
mod Prelude
