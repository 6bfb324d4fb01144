pub mod Heads
pub mod Complete
pub mod Chosen
pub mod EachFile
pub mod OneOpening
pub mod EachOpening
pub mod Pieces
pub mod Keeping
pub mod Turned
pub mod Rolled
pub mod Created
pub mod Unmounted
pub mod Words
pub mod Hashed
pub use Rattle.gate_journal.proofs as gate_journal_proofs
mod Prelude
