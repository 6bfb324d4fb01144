pub mod Accounts
pub mod Image
pub mod Records
pub mod Rows
pub mod Samples
pub use Rattle.bucket_core.specs as bucket_core
pub use Rattle.bucket_levels.specs as bucket_levels
pub use Rattle.close_rules.specs as close_rules
pub use Rattle.fee_rules.specs as fee_rules
pub use Rattle.hash_ids.specs as hash_ids
pub use Rattle.ledger_types.specs as ledger_types
pub use Rattle.op_types.specs as op_types
pub use Rattle.shared_tree.specs as shared_tree
pub use Rattle.value_hashes.specs as value_hashes
pub use Rattle.xdr_core.specs as xdr_core
pub use Rattle.xdr_header.specs as xdr_header
