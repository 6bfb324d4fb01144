pub mod Totals
pub mod Accounts
pub mod Even
pub mod Shifts
pub mod Changes
pub mod Paying
pub mod Settling
pub mod Parts
pub mod Removing
pub mod Bounds
pub mod Adding
pub mod Moving
pub mod Edits
pub mod SignerLists
pub mod SignedAccounts
pub mod AddingSigners
pub mod RemovingSigners
pub mod MovingSigners
pub mod Sponsoring
pub mod Sponsored
pub use Rattle.sponsor_rules.proofs.entry_slots_proofs
pub use Rattle.sponsor_rules.proofs as sponsor_rules_proofs
mod Prelude
