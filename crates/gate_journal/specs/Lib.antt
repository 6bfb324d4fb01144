pub mod Records
pub mod Calls
pub mod Reading
pub mod Laws
