pub mod ChangedEntries
pub mod RecordedSponsor
pub use Rattle.entry_map.proofs as entry_map_proofs
mod Prelude
