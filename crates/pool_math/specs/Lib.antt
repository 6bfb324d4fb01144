pub mod Pools
pub mod Laws
pub mod Calls
pub mod Parts
pub use Rattle.wide_math.specs as wide_math
