pub mod Success
pub mod Signing
pub mod Preconditions
pub mod Checks
pub mod Running
pub mod Transaction
pub mod InnerResult
pub mod FeeBump
pub mod Fees
pub mod Contexts
pub mod Operations
pub mod Indices
pub mod Set
pub mod Laws
pub mod EachTransaction
pub mod KeptReserves
pub use Rattle.entry_slots.specs as entry_slots
pub use Rattle.fee_rules.specs as fee_rules
pub use Rattle.op_claim.specs.hash_ids
pub use Rattle.op_laws.specs.legal_rules
pub use Rattle.op_laws.specs.offer_book
pub use Rattle.op_laws.specs.offer_exchange
pub use Rattle.op_account.specs as op_account
pub use Rattle.op_claim.specs as op_claim
pub use Rattle.op_laws.specs.op_flags
pub use Rattle.op_form.specs as op_form
pub use Rattle.op_laws.specs as op_laws
pub use Rattle.op_laws.specs.op_offers
pub use Rattle.op_options.specs as op_options
pub use Rattle.op_laws.specs.op_payment
pub use Rattle.op_laws.specs.op_pool
pub use Rattle.op_sponsor.specs as op_sponsor
pub use Rattle.op_laws.specs.op_trust
pub use Rattle.op_types.specs as op_types
pub use Rattle.op_laws.specs.pool_math
pub use Rattle.op_laws.specs.pool_shares
pub use Rattle.reserve_rules.specs as reserve_rules
pub use Rattle.signer_check.specs as signer_check
pub use Rattle.op_laws.specs.sponsor_laws
pub use Rattle.sponsor_rules.specs as sponsor_rules
pub use Rattle.op_laws.specs.trade_cross
pub use Rattle.op_claim.specs.valid_values
pub use Rattle.value_hashes.specs as value_hashes
pub use Rattle.value_hashes.specs.xdr_results
pub use Rattle.xdr_tx.specs as xdr_tx
