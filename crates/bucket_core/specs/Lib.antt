pub mod Bucket
pub mod File
pub mod Fault
pub mod Faults
pub mod Reading
pub mod Hash
pub mod Cursor
pub mod Code
pub mod ItemKey
pub mod Judge
pub mod Find
pub mod Stored
pub mod Index
pub mod Filter
pub mod Encoded
pub mod EncodedKey
pub use Rattle.bucket_items.specs as bucket_items
pub use Rattle.hash_ids.specs as hash_ids
pub use Rattle.ledger_types.specs as ledger_types
pub use Rattle.xdr_entries.specs as xdr_entries
