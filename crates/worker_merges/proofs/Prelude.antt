-- Names that several proofs of this crate use.
pub use Rattle.std.proofs.Common.{Err, List, Ok, Result, Some, [], ap, append-nil, append_assoc, arith, false, inl, inr}
pub use Rattle.std.proofs.Common.{length, map, refl, rules, set, subst, suc, sym, true, vec_len, zero, ℕ, ◌++◌, ◌+◌}
pub use Rattle.std.proofs.Common.{◌<◌, ◌∙◌, ◌∷◌, ◌≡◌, ◌≤◌}
pub use Rattle.std.proofs.lemmas.List.Elements.{All-pop, All-push}
pub use Rattle.std.specs.List.{AllByRecursion}
pub use Rattle.std.specs.Prelude.{All, Bool, IfErr, IfSome, OnOk, Option, cond, vec_capacity, ◌⊎◌}
pub use Rattle.bucket_merge.specs.Job.{Job}
pub use Rattle.ledger_close.specs.States.{LedgerAt, levels_at}
pub use Rattle.ledger_close.specs.bucket_levels.HandIn.{Draws, IsRefusedFor, TakesIn, drawn}
pub use Rattle.merge_board.proofs.Lists.{every_prefix, every_snoc}
pub use Rattle.merge_board.specs.Parts.{Grew, IsBoardIn, IsCollectorIn, IsWorkerEndOf, IsWorkerOf, board_parts}
pub use Rattle.merge_board.specs.Parts.{collected_by, collector_parts, empty_looks_of, posted_by, returned_to}
pub use Rattle.merge_board.specs.declared.parts.Room.{Room}
pub use Rattle.worker_merges.specs.Adopting.{Adopts, AreHandedIn, IsHandedIn}
pub use Rattle.worker_merges.specs.Posting.{Became, waiting_in}
pub use Rattle.worker_merges.specs.WorkerSlots.{HasEnded, IsManned}
