pub mod Layouts
mod Prelude
