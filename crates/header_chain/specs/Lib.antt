pub mod Upgrades
pub mod SkipList
pub use Rattle.xdr_header.specs as xdr_header
