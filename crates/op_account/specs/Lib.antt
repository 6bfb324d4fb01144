pub mod CreateAccount
pub mod AccountMerge
pub mod Inflation
pub mod BumpSequence
pub mod Operations
