pub mod Fitting
pub mod Deposits
pub mod Withdrawals
pub mod PoolSteps
pub use Rattle.pool_math.proofs as pool_math_proofs
mod Prelude
