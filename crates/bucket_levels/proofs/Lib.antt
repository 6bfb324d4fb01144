pub mod Halves
pub mod Starts
pub mod Marks
pub mod Joined
pub mod Climb
pub mod Existing
pub mod Planning
pub mod Inputs
pub mod Working
pub mod Renewing
pub mod Drawing
pub mod Differing
pub mod Ordering
pub mod Unmerged
pub mod Represented
pub use Rattle.bucket_core.proofs as bucket_core_proofs
pub use Rattle.entry_map.proofs as entry_map_proofs
mod Prelude
