pub mod Newest
pub mod Next
pub mod Above
pub mod Represented
pub mod Last
