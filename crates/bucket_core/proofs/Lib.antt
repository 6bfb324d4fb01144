pub mod Scanning
pub mod Keyed
pub mod Rows
pub mod Sound
pub mod Files
pub mod Judging
pub mod Walking
pub mod Texts
pub mod StoredItems
pub mod FileRows
pub mod Indexing
pub mod Halving
pub mod Filtering
pub mod Containing
pub mod IndexOf
pub mod Unencoded
pub mod Bounds
pub use Rattle.bucket_items.proofs as bucket_items_proofs
pub use Rattle.ledger_types.proofs as ledger_types_proofs
mod Prelude
