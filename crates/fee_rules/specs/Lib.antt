pub mod Envelopes
pub mod Ranking
pub mod Queues
pub mod Runs
pub mod SetHash
pub mod Turns
pub mod Fees
pub mod Encodings
