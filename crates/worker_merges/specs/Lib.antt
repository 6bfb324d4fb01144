pub mod Adopting
pub mod Posting
pub mod WorkerSlots
pub use Rattle.bucket_merge.specs as bucket_merge
pub use Rattle.ledger_close.specs.close_laws
pub use Rattle.ledger_close.specs.image_rules
pub use Rattle.ledger_close.specs as ledger_close
