pub mod Asked
pub mod Selling
pub mod Managing
pub mod Operations
pub mod SellingLaws
pub mod Calls
pub use Rattle.offer_exchange.specs as offer_exchange
