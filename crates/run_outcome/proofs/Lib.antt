pub use Rattle.close_rules.proofs.entry_sums_proofs
