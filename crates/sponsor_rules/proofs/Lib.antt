pub mod Ids
pub mod Keeping
pub mod Outcomes
pub mod AccountMaps
pub mod Entries
pub mod Changes
pub mod Charges
pub use Rattle.reserve_rules.proofs.entry_map_proofs
pub use Rattle.reserve_rules.proofs.entry_slots_proofs
pub use Rattle.ledger_types.proofs as ledger_types_proofs
mod Prelude
