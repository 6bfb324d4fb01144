pub mod Beside
pub mod Uses
pub mod Holding
pub mod Sound
pub mod Sharing
pub mod Gone
pub mod Counted
pub mod GoneLeft
pub mod Shared
pub mod Loaded
pub mod Parts
pub mod PoolsBeside
pub mod SharesHold
pub use Rattle.pool_math.proofs.wide_math_proofs
mod Prelude
