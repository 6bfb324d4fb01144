pub mod Reserve
pub use Rattle.entry_slots.specs.entry_map
pub use Rattle.entry_slots.specs as entry_slots
