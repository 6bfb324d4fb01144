pub mod Existing
pub use Rattle.close_laws.specs.bucket_items
pub use Rattle.close_laws.specs as close_laws
pub use Rattle.close_laws.specs.entry_changes
pub use Rattle.close_laws.specs.entry_map
pub use Rattle.close_laws.specs.entry_slots
pub use Rattle.close_laws.specs.header_chain
pub use Rattle.close_laws.specs.tx_apply
