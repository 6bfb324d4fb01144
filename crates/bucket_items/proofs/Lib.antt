pub mod ByteOrder
pub mod OrderLaws
pub mod KeyBytes
pub mod RefOrder
pub mod EntryKeys
pub mod Holding
pub mod Marking
pub mod RecordLaws
pub mod KeysInRecords
mod Prelude
