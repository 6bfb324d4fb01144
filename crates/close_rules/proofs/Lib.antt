pub use Rattle.entry_changes.proofs.entry_sums_proofs
pub use Rattle.tx_apply.proofs.fee_rules_proofs
pub use Rattle.ledger_types.proofs as ledger_types_proofs
pub use Rattle.tx_apply.proofs.legal_rules_proofs
pub use Rattle.tx_apply.proofs.offer_exchange_proofs
pub use Rattle.tx_apply.proofs.op_offers_proofs
pub use Rattle.tx_apply.proofs.op_payment_proofs
pub use Rattle.tx_apply.proofs.op_pool_proofs
pub use Rattle.tx_apply.proofs.pool_math_proofs
pub use Rattle.tx_apply.proofs.pool_shares_proofs
pub use Rattle.tx_apply.proofs.sponsor_laws_proofs
pub use Rattle.tx_apply.proofs.sponsor_rules_proofs
pub use Rattle.tx_apply.proofs.trade_cross_proofs
pub use Rattle.tx_apply.proofs as tx_apply_proofs
pub use Rattle.header_chain.proofs.xdr_header_proofs
