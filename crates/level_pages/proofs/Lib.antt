pub mod Lookups
pub mod Leasts
pub mod Afters
pub mod Counting
pub mod Unencoded
