pub mod Header
pub mod Vouches
pub mod Records
pub mod Image
