pub mod Exchange
pub mod Laws
pub mod Calls
pub mod Parts
