pub mod KeyMaps
pub mod Lookups
pub mod Layers
pub mod Lists
pub mod Under
pub mod KnownKeys
pub mod Batches
pub mod NumberedOffers
pub mod Positions
pub mod PositionMaps
pub mod Pairs
pub mod Ranks
pub mod Ranking
pub mod Ranked
pub mod Aggregates
pub mod Building
pub mod Rebuilt
pub mod Saved
pub use Rattle.ledger_types.proofs as ledger_types_proofs
pub use Rattle.shared_tree.proofs as shared_tree_proofs
mod Prelude
mod Raised
