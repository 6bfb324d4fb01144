pub mod Lists
pub mod Lookups
pub mod Summing
pub use Rattle.entry_map.proofs as entry_map_proofs
mod Prelude
