pub mod EntryMap
pub mod KeyMaps
pub mod Layers
pub mod Batch
pub mod Noting
pub mod Undo
pub mod Book
pub mod Order
pub mod Positions
pub mod Indexes
pub mod Walk
pub mod Reached
pub use Rattle.ledger_types.specs as ledger_types
