pub mod Bodies
pub mod Bytes
pub mod Entries
pub mod Envelopes
pub mod Few
pub mod Headers
pub mod Keys
pub mod Lengths
pub mod Listed
pub mod Parts
pub mod Rows
pub mod Short
pub use Rattle.bucket_core.proofs as bucket_core_proofs
pub use Rattle.bucket_levels.proofs as bucket_levels_proofs
pub use Rattle.ledger_types.proofs as ledger_types_proofs
pub use Rattle.xdr_header.proofs as xdr_header_proofs
mod Prelude
