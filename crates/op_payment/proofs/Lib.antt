pub mod Shifts
pub mod LineChanges
pub mod Paying
pub mod Amounts
pub mod HopsMade
pub mod PathLegality
pub mod PathEnds
pub mod PathsHold
pub mod PaymentSteps
pub mod PathSteps
mod Prelude
