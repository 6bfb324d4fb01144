pub use Rattle.entry_sums.proofs as entry_sums_proofs
