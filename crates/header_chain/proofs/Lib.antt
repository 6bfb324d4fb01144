pub mod Indices
pub mod Asked
pub use Rattle.xdr_header.proofs as xdr_header_proofs
mod Prelude
