pub mod Quotient
pub mod Root
