pub mod Applying
pub mod Changes
pub mod Grammar
pub mod Laws
pub mod Making
