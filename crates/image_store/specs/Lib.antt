pub mod ImageFiles
pub mod Opening
pub mod State
pub mod Calls
pub mod Turning
pub mod Reading
pub mod Laws
pub use Rattle.gate_journal.specs as gate_journal
pub use Rattle.outside.specs as outside
