pub mod Parts
pub mod Files
pub mod Judged
pub mod Works
pub mod Installs
pub mod Finishing
pub mod Counting
pub use Rattle.close_laws.proofs as close_laws_proofs
pub use Rattle.entry_table.proofs as entry_table_proofs
pub use Rattle.image_rules.proofs as image_rules_proofs
mod Prelude
