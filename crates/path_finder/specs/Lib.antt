pub mod Cheapest
pub mod Costs
pub mod Encoding
pub mod Hashing
pub mod Legal
pub mod Query
pub mod Search
