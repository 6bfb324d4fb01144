pub mod Predicates
pub mod CreateClaimableBalance
pub mod ClaimClaimableBalance
pub mod Clawback
pub mod ClawbackClaimableBalance
pub mod Operations
pub use Rattle.hash_ids.specs as hash_ids
pub use Rattle.valid_values.specs as valid_values
