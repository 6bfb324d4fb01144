pub use Rattle.xdr_core.proofs as xdr_core_proofs
