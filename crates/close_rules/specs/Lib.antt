pub mod State
pub mod RuleNumbers
pub mod Refusals
pub mod Close
pub mod EntryRules
pub mod Images
pub use Rattle.bucket_levels.specs.bucket_items
pub use Rattle.entry_changes.specs as entry_changes
pub use Rattle.tx_apply.specs.entry_slots
pub use Rattle.entry_changes.specs.entry_sums
pub use Rattle.tx_apply.specs.fee_rules
pub use Rattle.tx_apply.specs.hash_ids
pub use Rattle.header_chain.specs as header_chain
pub use Rattle.ledger_types.specs as ledger_types
pub use Rattle.tx_apply.specs.legal_rules
pub use Rattle.tx_apply.specs.offer_book
pub use Rattle.tx_apply.specs.offer_exchange
pub use Rattle.tx_apply.specs.op_account
pub use Rattle.tx_apply.specs.op_claim
pub use Rattle.tx_apply.specs.op_flags
pub use Rattle.tx_apply.specs.op_form
pub use Rattle.tx_apply.specs.op_laws
pub use Rattle.tx_apply.specs.op_offers
pub use Rattle.tx_apply.specs.op_options
pub use Rattle.tx_apply.specs.op_payment
pub use Rattle.tx_apply.specs.op_pool
pub use Rattle.tx_apply.specs.op_sponsor
pub use Rattle.tx_apply.specs.op_trust
pub use Rattle.tx_apply.specs.op_types
pub use Rattle.tx_apply.specs.pool_math
pub use Rattle.tx_apply.specs.pool_shares
pub use Rattle.tx_apply.specs.reserve_rules
pub use Rattle.tx_apply.specs.signer_check
pub use Rattle.tx_apply.specs.sponsor_laws
pub use Rattle.tx_apply.specs.sponsor_rules
pub use Rattle.tx_apply.specs.trade_cross
pub use Rattle.tx_apply.specs as tx_apply
pub use Rattle.tx_apply.specs.valid_values
pub use Rattle.tx_apply.specs.value_hashes
pub use Rattle.xdr_core.specs as xdr_core
pub use Rattle.entry_changes.specs.xdr_entries
pub use Rattle.header_chain.specs.xdr_header
pub use Rattle.tx_apply.specs.xdr_results
pub use Rattle.tx_apply.specs.xdr_tx
