pub mod Ranges
pub mod Premises
pub mod Balances
pub mod Steps
pub mod Walks
pub mod AmountSteps
mod Prelude
