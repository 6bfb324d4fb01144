pub mod OptionTests
pub mod OptionSigner
pub mod SetOptions
pub mod ManageData
pub mod Operations
