pub mod Handing
pub mod Drawing
pub mod Gathering
pub use Rattle.bucket_merge.proofs as bucket_merge_proofs
pub use Rattle.ledger_close.proofs.close_laws_proofs
pub use Rattle.ledger_close.proofs.entry_table_proofs
pub use Rattle.ledger_close.proofs.image_rules_proofs
pub use Rattle.ledger_close.proofs as ledger_close_proofs
mod Prelude
