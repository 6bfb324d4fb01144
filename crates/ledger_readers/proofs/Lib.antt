pub mod Prefixes
pub mod Appending
pub mod ReadOfAll
