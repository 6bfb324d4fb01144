pub mod Revoking
pub mod Existing
pub mod RevokedShares
pub mod LineFlags
pub mod AllowTrust
pub mod SetTrustLineFlags
pub mod Outcomes
pub mod Operations
pub use Rattle.entry_map.specs as entry_map
pub use Rattle.entry_slots.specs as entry_slots
pub use Rattle.trade_cross.specs.entry_sums
pub use Rattle.ledger_types.specs as ledger_types
pub use Rattle.trade_cross.specs.legal_rules
pub use Rattle.offer_book.specs as offer_book
pub use Rattle.op_form.specs as op_form
pub use Rattle.op_types.specs as op_types
pub use Rattle.pool_shares.specs as pool_shares
pub use Rattle.trade_cross.specs.sponsor_laws
pub use Rattle.sponsor_rules.specs as sponsor_rules
pub use Rattle.trade_cross.specs as trade_cross
pub use Rattle.valid_values.specs as valid_values
pub use Rattle.pool_shares.specs.wide_math
