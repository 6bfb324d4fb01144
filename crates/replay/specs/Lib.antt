pub mod Following
pub mod Keeping
pub mod Stored
pub mod Starting
pub mod ClosingAgain
pub mod StoredRuns
pub mod Outcomes
pub mod Completeness
pub mod Initing
pub mod StoredLaws
pub mod Machine
pub mod PossibleEvents
pub mod LedgerEvents
pub mod Beside
pub mod Showing
pub mod Asking
pub mod PathLaws
pub mod Sampling
pub mod CommandLaws
pub mod VerifyLaws
pub mod FileLaws
pub mod Warming
pub use Rattle.stored_outcome.specs.bucket_core
pub use Rattle.worker_merges.specs.bucket_merge
pub use Rattle.stored_outcome.specs.entry_sums
pub use Rattle.hash_ids.specs as hash_ids
pub use Rattle.worker_merges.specs.image_rules
pub use Rattle.stored_outcome.specs.reserve_rules
pub use Rattle.stored_outcome.specs.run_outcome
pub use Rattle.stored_outcome.specs as stored_outcome
pub use Rattle.stored_outcome.specs.valid_values
pub use Rattle.xdr_core.specs as xdr_core
