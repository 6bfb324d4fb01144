pub mod KeyRef
pub mod KeyText
pub mod Item
pub mod MarkedItem
