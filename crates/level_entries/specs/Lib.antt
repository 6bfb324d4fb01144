pub mod Judged
pub mod Placed
pub mod Rows
