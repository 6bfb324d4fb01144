pub mod Applied
pub mod Gathering
pub mod GrammarLaws
pub mod Leading
pub mod Made
pub mod Outcomes
pub mod Undoing
mod Prelude
