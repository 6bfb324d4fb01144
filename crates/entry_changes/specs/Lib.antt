pub mod Next
pub mod Encodable
pub use Rattle.entry_sums.specs as entry_sums
pub use Rattle.xdr_entries.specs as xdr_entries
