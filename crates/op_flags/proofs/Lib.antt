pub mod Went
pub mod OwnOffers
pub mod Cancelling
pub mod FlagNumbers
pub mod Revoked
pub mod Flagged
pub mod Shares
pub mod BalanceLeft
pub mod SharesRevoked
pub mod FlagTests
pub mod Steps
pub mod SharesBeside
pub mod SharesGiven
pub mod RevokedHold
pub mod FlagSteps
pub use Rattle.entry_map.proofs as entry_map_proofs
pub use Rattle.trade_cross.proofs.entry_sums_proofs
pub use Rattle.ledger_types.proofs as ledger_types_proofs
pub use Rattle.trade_cross.proofs.legal_rules_proofs
pub use Rattle.offer_book.proofs as offer_book_proofs
pub use Rattle.pool_shares.proofs as pool_shares_proofs
pub use Rattle.trade_cross.proofs.sponsor_laws_proofs
pub use Rattle.sponsor_rules.proofs as sponsor_rules_proofs
pub use Rattle.trade_cross.proofs as trade_cross_proofs
pub use Rattle.pool_shares.proofs.wide_math_proofs
mod Prelude
