pub mod Rules
pub mod Views
pub mod Reads
pub mod Published
