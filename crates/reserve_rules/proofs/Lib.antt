pub mod Bounds
pub mod Changes
pub use Rattle.entry_slots.proofs.entry_map_proofs
pub use Rattle.entry_slots.proofs as entry_slots_proofs
mod Prelude
