-- Names that several proofs of this crate use.
pub use Rattle.std.proofs.Common.{Bool, Contains, IfOk, List, None, Option, Some, [], ap, arith, cond, drop, eq-eqb}
pub use Rattle.std.proofs.Common.{false, get_or, inl, inr, leb, length, map, nat_eq, option_map, refl, subst, suc, sym}
pub use Rattle.std.proofs.Common.{take, take-suc, take_all, true, zero, ℕ, ◌&&◌, ◌*◌, ◌++◌, ◌+◌, ◌-◌, ◌<◌, ◌^◌, ◌∙◌}
pub use Rattle.std.proofs.Common.{◌∷◌, ◌≡◌, ◌≢◌, ◌≤◌, ◌⊎◌}
pub use Rattle.std.proofs.lemmas.Cmp.{eq_by_cmp_equiv, nat_cmp_total}
pub use Rattle.std.proofs.lemmas.List.{get_or-map, get_or_default, length-map, length-set, length-take-le, map-append}
pub use Rattle.std.proofs.lemmas.List.{take_more_set}
pub use Rattle.std.proofs.lemmas.List.Elements.{All-append, All-cons, All-from_recursion, All-map, All-nil}
pub use Rattle.std.proofs.lemmas.List.Elements.{Contains-get_or}
pub use Rattle.std.proofs.lemmas.List.Sorted.{Contains-permutation, IsPermutation-map, IsPermutation-sym}
pub use Rattle.std.proofs.lemmas.List.Sorted.{IsPermutation-trans, length_permutation, ranks_by, sorted_far}
pub use Rattle.std.proofs.lemmas.List.Sorted.{sum_by-IsPermutation}
pub use Rattle.std.proofs.lemmas.Map.Keys.{IsDistinct-IsPermutation, IsDistinct-from_apart, apart_from_distinct}
pub use Rattle.std.specs.Cmp.{Equal-is, IsTotalOrder, nat_cmp_is}
pub use Rattle.std.specs.List.{All, count_by, find, sum_by}
unfoldable pub use Rattle.std.specs.List.{IsDistinct}
pub use Rattle.std.specs.List.Sorted.{IsPermutation, IsSorted}
pub use Rattle.std.specs.Ordering.{eq_by_cmp, int_cmp, is_eq, is_lt, nat_cmp, ordering_reverse, ordering_then}
pub use Rattle.std.specs.Prelude.{bit_xor, slice_index}
pub use Rattle.std.specs.declared.cmp.Ordering.{Ordering}
pub use Rattle.std.specs.declared.cmp.Ordering.TheVariants.{Equal, Greater, Less}
pub use Rattle.fee_rules.specs.Encodings.{text_at, text_if, texts_by_hash, texts_of}
pub use Rattle.fee_rules.specs.Queues.{all_queued, all_queued_from, has_index_of, is_ahead, queue_cmp, queue_rank}
pub use Rattle.fee_rules.specs.Queues.{queued_cmp, queued_of}
pub use Rattle.fee_rules.specs.Ranking.{at_most_one, at_rank, rank_of, ranked}
unfoldable pub use Rattle.fee_rules.specs.Ranking.{first_ranked}
pub use Rattle.fee_rules.specs.Runs.{IsRun, at, no_tx}
pub use Rattle.fee_rules.specs.SetHash.{encoding_at, encoding_if, encodings_by_hash, hashed_cmp, hashed_of}
unfoldable pub use Rattle.fee_rules.specs.SetHash.{hash_of_set}
pub use Rattle.fee_rules.specs.Turns.{apply_order_of, mixed_hash, turn_cmp, turn_of, turns_of}
unfoldable pub use Rattle.fee_rules.specs.Turns.{indices_in_order, mixed_bytes}
pub use Rattle.fee_rules.specs.declared.hashed.Hashed.{Hashed}
pub use Rattle.fee_rules.specs.declared.queued.Queued.{Queued}
pub use Rattle.fee_rules.specs.declared.turn.Turn.{Turn}
pub use Rattle.ledger_types.specs.KeyOrder.{account_cmp, hash_cmp}
pub use Rattle.ledger_types.specs.declared.ids.Hash.{Hash}
pub use Rattle.op_types.specs.declared.transaction.TransactionEnvelope.{TransactionEnvelope}
pub use Rattle.op_types.specs.declared.transaction.TransactionSet.{TransactionSet}
unfoldable pub use Rattle.xdr_tx.specs.Transactions.{transaction_envelope, transaction_set}
