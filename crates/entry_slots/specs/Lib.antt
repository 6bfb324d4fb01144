pub mod EntryKinds
pub mod Accounts
pub mod AccountFacts
pub mod Lines
pub mod Offers
pub mod DataEntries
pub mod Balances
pub mod Pools
pub mod AccountExtensions
pub mod LineExtensions
pub mod EntrySponsor
pub mod Tests
pub use Rattle.entry_map.specs as entry_map
pub use Rattle.entry_map.specs.ledger_types
