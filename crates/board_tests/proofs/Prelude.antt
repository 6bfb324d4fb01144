-- Names that several proofs of this crate use.
pub use Rattle.std.proofs.Common.{List, [], ap, arith, length, length-append, subst, sym, vec_len, ◌++◌, ◌+◌, ◌∙◌, ◌∷◌}
pub use Rattle.std.proofs.Common.{◌≡◌}
pub use Rattle.std.specs.List.{AllByRecursion}
pub use Rattle.merge_board.specs.Parts.{IsBoardEndIn, IsBoardIn, IsCollectorIn, IsWorkerEndOf, IsWorkerOf}
pub use Rattle.merge_board.specs.Parts.{board_end_parts, board_parts, collector_parts}
