pub mod EachLevel
pub mod Spills
pub mod Pairs
pub mod Step
pub mod Hash
pub mod Size
pub mod Meaning
pub mod Fresh
pub mod Laws
pub mod Pending
pub mod Levels
pub mod Held
pub mod HandIn
pub mod Work
pub mod InOrder
pub mod Planned
pub use Rattle.bucket_core.specs as bucket_core
pub use Rattle.bucket_core.specs.bucket_items
pub use Rattle.bucket_merge.specs as bucket_merge
pub use Rattle.entry_map.specs as entry_map
