pub mod Walks
pub mod Turns
pub mod Passes
pub mod Positions
pub mod Tables
pub mod Batches
pub mod Stamped
pub mod AfterBatch
pub mod Counts
pub use Rattle.shared_tree.proofs as shared_tree_proofs
mod Prelude
