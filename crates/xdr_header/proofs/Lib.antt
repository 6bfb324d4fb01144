pub mod Files
pub mod HeaderLaws
pub mod RecordLaws
pub mod ImageLaws
pub mod AllLaws
mod Prelude
