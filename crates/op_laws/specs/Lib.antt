pub mod AnyOperation
pub mod Underway
pub mod Moves
pub mod Laws
pub mod Steps
pub mod Premises
pub mod CrossedBooks
pub use Rattle.op_flags.specs.entry_sums
pub use Rattle.op_flags.specs.legal_rules
pub use Rattle.op_flags.specs.offer_book
pub use Rattle.op_offers.specs.offer_exchange
pub use Rattle.op_flags.specs as op_flags
pub use Rattle.op_offers.specs as op_offers
pub use Rattle.op_payment.specs as op_payment
pub use Rattle.op_pool.specs as op_pool
pub use Rattle.op_trust.specs as op_trust
pub use Rattle.op_pool.specs.pool_math
pub use Rattle.op_flags.specs.pool_shares
pub use Rattle.op_flags.specs.sponsor_laws
pub use Rattle.op_flags.specs.trade_cross
