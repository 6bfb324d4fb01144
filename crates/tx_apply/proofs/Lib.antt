pub mod Settling
pub mod Lawful
pub mod Judging
pub mod Sound
pub mod Placed
pub mod Encoded
pub mod TakenFees
pub mod Applying
pub mod Conserving
pub mod Missing
pub mod Fitting
pub mod Within
pub mod FewOperations
pub mod Drawing
pub mod SetsHold
pub mod EachConserved
pub mod KeptReserves
pub use Rattle.fee_rules.proofs as fee_rules_proofs
pub use Rattle.op_laws.proofs.legal_rules_proofs
pub use Rattle.op_laws.proofs.offer_exchange_proofs
pub use Rattle.op_laws.proofs.op_offers_proofs
pub use Rattle.op_laws.proofs.op_payment_proofs
pub use Rattle.op_laws.proofs.op_pool_proofs
pub use Rattle.op_laws.proofs.pool_math_proofs
pub use Rattle.op_laws.proofs.pool_shares_proofs
pub use Rattle.op_laws.proofs.sponsor_laws_proofs
pub use Rattle.sponsor_rules.proofs as sponsor_rules_proofs
pub use Rattle.op_laws.proofs.trade_cross_proofs
mod Prelude
