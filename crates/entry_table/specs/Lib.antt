pub mod Next
pub mod Rows
pub mod AfterBatch
pub use Rattle.entry_changes.specs as entry_changes
pub use Rattle.shared_tree.specs as shared_tree
