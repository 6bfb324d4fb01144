mod Listed
mod Counting
mod Naming
pub mod Aggregated
pub mod Bounded
mod Ids
mod Rising
mod Apart
mod Judged
pub mod Distinct
pub mod Surveying
mod Agreeing
mod Kept
mod Tallying
mod Prelude
