pub mod FileRows
pub mod JudgedRows
pub mod Newest
pub mod LeftEntries
pub mod Placing
mod Offered
mod Prelude
