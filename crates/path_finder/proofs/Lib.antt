mod Considered
mod CostsPaid
mod EncodingLaws
mod FirstInvalid
mod Kept
mod LegalStates
mod Limits
pub mod OneCheapest
mod Order
mod Positions
mod Prelude
mod Steps
