pub mod Dated
pub mod Sponsorships
pub mod EntryKeys
pub mod OfferLiabilities
pub mod Reserves
pub mod Trades
pub mod PoolShares
pub mod Supply
pub mod Aggregates
pub mod OfferIds
pub mod Bounds
pub mod Ranges
pub mod Headers
pub mod Needs
pub mod Legal
pub mod Owing
pub mod Payments
pub mod PaymentLaws
pub mod EntryLaws
pub mod SignerLaws
pub mod Binding
pub mod OfferLaws
pub mod ChangeLaws
pub mod PoolLaws
pub mod Consequences
pub mod FirstStates
pub mod FullStates
pub mod ShareLaws
pub mod Holdings
pub mod OneMore
pub use Rattle.entry_sums.specs as entry_sums
pub use Rattle.sponsor_laws.specs as sponsor_laws
pub use Rattle.valid_values.specs as valid_values
pub use Rattle.hash_ids.specs.xdr_core
