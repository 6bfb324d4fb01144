pub use Rattle.op_types.specs as op_types
