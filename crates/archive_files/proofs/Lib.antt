mod Prelude
pub mod Ascending
pub mod Closes
pub mod EmptySet
pub mod FormLaws
pub mod Judged
pub mod Lengths
pub mod Middles
pub mod Reading
pub mod Reread
pub mod Screened
pub mod Stated
pub mod Verdicts
pub mod Walking
