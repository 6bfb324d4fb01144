pub mod FirstEntries
pub mod FirstAccounts
pub mod FirstLevels
pub mod FirstFiles
pub mod FirstStates
pub mod MergesNone
pub mod Unrefused
pub mod GoingOn
mod Prelude
