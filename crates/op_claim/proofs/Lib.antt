pub mod Removing
pub mod ClaimSteps
mod Prelude
