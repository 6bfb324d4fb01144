pub mod Sold
pub mod OutOfBook
pub mod SoldLeft
pub mod Tested
pub mod OutLeft
pub mod NewOffers
pub mod OldOffers
pub mod SoldHold
pub mod ManagedHold
pub mod OfferSteps
mod Ready
mod Begun
mod Loaded
mod Applied
pub use Rattle.offer_exchange.proofs as offer_exchange_proofs
mod Prelude
