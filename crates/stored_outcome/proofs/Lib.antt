pub use Rattle.sample_ledger.proofs.bucket_core_proofs
pub use Rattle.sample_ledger.proofs.bucket_levels_proofs
pub use Rattle.run_outcome.proofs.entry_sums_proofs
