pub mod Walking
mod Prelude
