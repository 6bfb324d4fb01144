pub mod SwapLaws
pub mod DepositLaws
pub mod WithdrawalLaws
pub mod Evaluated
pub use Rattle.wide_math.proofs as wide_math_proofs
