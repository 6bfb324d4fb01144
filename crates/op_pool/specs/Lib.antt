pub mod Deposit
pub mod Withdraw
pub mod Calls
pub mod Operations
pub use Rattle.pool_math.specs as pool_math
pub use Rattle.reserve_rules.specs as reserve_rules
