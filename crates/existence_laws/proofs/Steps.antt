-- Levels take a fresh bucket.
use Rattle.existence_laws.proofs.Prelude.{ℕ, zero, suc, Bool, true, false, List, map, refl, sym, subst, zero-add}
use Rattle.existence_laws.proofs.Prelude.{range_with_len, Contents, level_count, spills, Pair, empty_pair, pair_at}
use Rattle.std.proofs.lemmas.List.FromFn.{length-map-range_with_len, get_or-map-range_with_len}
use Rattle.replay.specs.bucket_merge.Walk.{merge_of}
use Rattle.replay.proofs.bucket_merge_proofs.Merging.{pass_is_merge}
use Rattle.close_laws.specs.bucket_levels.Step.{base_at, snap_after, IsMergedIf, IsCurrAfter, IsPairAfter, IsStep}

abbrev merged_if : Bool → (level : ℕ) → (older newer was : Contents) → Contents
merged_if true level older newer was = merge_of level older newer
merged_if false level older newer was = was

is_merged_if : (b : Bool) (level : ℕ) (older newer was : Contents)
    → IsMergedIf b level older newer was (merged_if b level older newer was)
is_merged_if true level older newer was = pass_is_merge level older newer
is_merged_if false level older newer was = refl

module _ (seq : ℕ) (fresh : Contents) (old : List Pair) where
  abbrev curr_after : ℕ → Contents
  curr_after zero = merge_of 0 (base_at seq old 0) fresh
  curr_after (suc i) =
      merged_if (spills i seq) (suc i) (base_at seq old (suc i)) (pair_at old i).snap (pair_at old (suc i)).curr

  is_curr_after : (i : ℕ) → IsCurrAfter seq fresh old i (curr_after i)
  is_curr_after zero = pass_is_merge 0 (base_at seq old 0) fresh
  is_curr_after (suc i) =
      is_merged_if (spills i seq) (suc i) (base_at seq old (suc i)) (pair_at old i).snap (pair_at old (suc i)).curr

  abbrev pair_after : ℕ → Pair
  pair_after i = record { curr = curr_after i; snap = snap_after seq old i }

  is_pair_after : (i : ℕ) → IsPairAfter seq fresh old i (pair_after i)
  is_pair_after i = record { curr = is_curr_after i; snap = refl }

  pub some_step : (new : List Pair) × IsStep seq fresh old new
  some_step = (
    map pair_after (range_with_len 0 level_count),
    record {
      count = length-map-range_with_len pair_after 0 level_count;
      pairs = λ i within. subst (IsPairAfter seq fresh old i)
          (sym (get_or-map-range_with_len pair_after 0 level_count i i empty_pair within (zero-add i)))
          (is_pair_after i);
    },
  )
