-- Names that several proofs of this crate use.
pub use Rattle.std.proofs.Common.{Bool, IfSome, List, None, Option, Some, [], add-one, ap, arith, below_more, cond}
pub use Rattle.std.proofs.Common.{eq-eqb, eqb, false, get_or, inl, inr, is_some, length, lit<, ltb, map, min, refl, set}
pub use Rattle.std.proofs.Common.{subst, suc, sym, take, true, zero, zero-add, ℕ, ◌%◌, ◌*◌, ◌++◌, ◌+◌, ◌-◌, ◌/◌, ◌<◌}
pub use Rattle.std.proofs.Common.{◌^◌, ◌∙◌, ◌∷◌, ◌≡◌, ◌≤◌, ◌⊎◌}
pub use Rattle.std.proofs.Math.Nat.{mod-eq_of_lt, mod-le, mod_self, mul-add-mod_self_right, one-le-pow}
pub use Rattle.std.proofs.Math.Nat.{pow-le-pow_right, pow-suc}
pub use Rattle.std.proofs.lemmas.Bool.{and_parts, cases_eq, cases_lt, eqb-true, lt-ltb, ltb-true}
pub use Rattle.std.proofs.lemmas.List.{get_or-map, get_or-set_other, get_or-set_same, get_or_append_left, get_or_past}
pub use Rattle.std.proofs.lemmas.List.{get_or_push, length-map, length-set, length_push, map-append, map-set, take_all}
pub use Rattle.std.proofs.lemmas.List.Folds.{flat_map-map, fold-map}
pub use Rattle.std.proofs.lemmas.Option.{none-some, same_Some, slice_get-get_or, slice_get_past}
pub use Rattle.std.specs.List.{flat_map, range_with_len, sum_by}
pub use Rattle.std.specs.Prelude.{if◌then◌else◌, nat_eq, not, option_and_then, slice_get, ◌&&◌}
pub use Rattle.bucket_core.specs.Bucket.{Change, Contents, Dead, Init, Live, change_at}
pub use Rattle.bucket_levels.specs.HandIn.{DifferAt, Draws, NoneWaits, TakesIn, drawn, handed_in}
pub use Rattle.bucket_levels.specs.Hash.{level_hash, list_hash}
pub use Rattle.bucket_levels.specs.Held.{AllRenewed, AreBegun, AreHeld, AreRenewedTo, AreUndrawn, IsBegun}
pub use Rattle.bucket_levels.specs.Held.{IsFirstWaiting, IsHeld, IsJobIf, IsReadyFor, IsUndrawn, NoneWaitsAbove}
pub use Rattle.bucket_levels.specs.Held.{nothing_pending, pending_of, renewed}
pub use Rattle.bucket_levels.specs.Levels.{LevelsAfter, LevelsAt, pair_of}
pub use Rattle.bucket_levels.specs.Meaning.{AreWellMarked, MayFollow, Represent, entry_after, entry_by, files_of}
pub use Rattle.bucket_levels.specs.Meaning.{prepended}
unfoldable pub use Rattle.bucket_levels.specs.Meaning.{AreMarkedWell, changes_of}
pub use Rattle.bucket_levels.specs.Pairs.{Pair, empty_pair, pair_at}
pub use Rattle.bucket_levels.specs.Pending.{AreRenewed, AreUndrawnAt, IsPending, PendingAt, begun, commit_of}
pub use Rattle.bucket_levels.specs.Pending.{not_pending, pending_at, renews, start_of}
pub use Rattle.bucket_levels.specs.Planned.{ArePlanned}
pub use Rattle.bucket_levels.specs.Size.{pair_size}
unfoldable pub use Rattle.bucket_levels.specs.Size.{file_total}
pub use Rattle.bucket_levels.specs.Spills.{half, level_count, size, spills, upper}
pub use Rattle.bucket_levels.specs.Step.{IsCurrAfter, IsMergedIf, IsPairAfter, IsStep, base_at, snap_after}
pub use Rattle.bucket_levels.specs.Work.{work_at}
unfoldable pub use Rattle.bucket_levels.specs.Work.{work_above}
pub use Rattle.bucket_levels.specs.declared.pair.LevelPair.{LevelPair}
pub use Rattle.bucket_levels.specs.declared.pending.PendingMerge.{PendingMerge}
pub use Rattle.bucket_merge.specs.Job.{Job}
pub use Rattle.bucket_merge.specs.Merge.{IsMerge, joined, kept, merged_change}
pub use Rattle.ledger_types.specs.declared.entry.LedgerEntry.{LedgerEntry}
pub use Rattle.ledger_types.specs.declared.key.LedgerKey.{LedgerKey}
