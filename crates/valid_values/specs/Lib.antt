pub mod Texts
pub mod Assets
pub mod Predicates
