pub mod Encodable
pub mod Items
pub mod ItemRefs
