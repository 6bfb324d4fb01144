pub mod Fits
pub mod Withdrawing
pub mod ShareLines
pub mod AccountPools
pub mod Held
pub mod Premises
pub mod Laws
pub use Rattle.pool_math.specs.wide_math
