pub mod Charge
pub mod Counting
pub mod Paying
pub mod Payers
pub mod Keeping
pub mod Outcome
pub mod Adding
pub mod Removing
pub mod Moving
pub mod SeqNums
pub mod SignerIndex
pub mod Signers
pub use Rattle.reserve_rules.specs.entry_map
pub use Rattle.reserve_rules.specs.entry_slots
pub use Rattle.ledger_types.specs as ledger_types
pub use Rattle.reserve_rules.specs as reserve_rules
