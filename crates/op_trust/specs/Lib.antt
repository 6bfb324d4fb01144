pub mod ChangeTrust
pub mod ShareTrust
pub mod Operations
