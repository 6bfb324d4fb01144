pub mod Existing
pub mod Operations
pub mod Sets
