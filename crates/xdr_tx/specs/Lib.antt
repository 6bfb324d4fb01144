pub mod Operations
pub mod Transactions
pub use Rattle.xdr_entries.specs as xdr_entries
