-- Names that several proofs of this crate use.
pub use Rattle.std.proofs.Common.{Bool, List, [], ap, append_assoc, arith, cond, eqb, false, inl, inr, length}
pub use Rattle.std.proofs.Common.{length-append, map, refl, rules, set, subst, suc, sym, true, true≢false, vec_len}
pub use Rattle.std.proofs.Common.{zero, ℕ, ⊎_elim, ◌++◌, ◌+◌, ◌-◌, ◌<◌, ◌^◌, ◌∙◌, ◌∷◌, ◌≡◌, ◌≢◌, ◌≤◌, ◌⊎◌}
pub use Rattle.std.proofs.lemmas.List.{append-nil, length-map, map-append, nil_from_length}
pub use Rattle.std.proofs.lemmas.List.Sums.{sum_by-cons, sum_by_push}
pub use Rattle.std.specs.List.{AllByRecursion, filter, sum_by}
pub use Rattle.crossbeam_queue.proofs.Lists.{at_last, at_longer, at_set}
pub use Rattle.crossbeam_queue.specs.Fifo.{Forks, Held, Learns, Merges, Pops, Pushes}
pub use Rattle.counted_queue.specs.Seats.{IsSeatOf, view}
pub use Rattle.merge_board.specs.Hands.{TakesJob, drawn, first_hand, hand_with, new_hand, numbers_of, spent_hand}
pub use Rattle.merge_board.specs.Lists.{Has, IsRising}
pub use Rattle.merge_board.specs.Logs.{first_log, known_of, log_with, new_log, pushed_count, spent_log}
pub use Rattle.merge_board.specs.OutOrder.{Accounts, FitsLog, OutsInOrder, outs_of}
pub use Rattle.merge_board.specs.Parts.{AreNumbered, IsWorkerEndOf, IsWorkerOf, KeepsOrder, end_number, number_of}
pub use Rattle.merge_board.specs.Parts.{pushed_by}
pub use Rattle.merge_board.specs.Settling.{AreTakenIn, IsDrained, end_known}
pub use Rattle.merge_board.specs.Work.{AreApart, AreDealt, HasInHand, IsAtWork, IsDealt}
pub use Rattle.merge_board.specs.declared.hand.Hand.{Hand}
pub use Rattle.merge_board.specs.declared.log.Known.{Known}
pub use Rattle.merge_board.specs.declared.log.Log.{Log}
pub use Rattle.merge_board.specs.declared.log.Sent.{Sent}
pub use Rattle.merge_board.specs.declared.posted.PostedJob.{PostedJob}
pub use mathlib.Core.Option.{some, some-injective, some-ne-none}
