pub mod Holdings
pub mod Crossing
pub mod Accounts
pub mod CrossingLaws
pub mod Locations
pub mod Sides
pub mod Plans
pub mod Steps
pub mod Crossable
pub mod Progressing
pub mod Amounts
pub mod Cancelling
pub mod Hop
pub mod HopCalls
pub mod HopLaws
pub use Rattle.legal_rules.specs.entry_sums
pub use Rattle.legal_rules.specs as legal_rules
pub use Rattle.offer_book.specs as offer_book
pub use Rattle.offer_exchange.specs as offer_exchange
pub use Rattle.legal_rules.specs.sponsor_laws
