-- A bucket of the items that an exact batch states says exactly what changed.
use Rattle.fresh_bucket.proofs.Prelude.{◌≡◌, inl, inr, ℕ, true, false, List, [], ◌∷◌, Option, Some, None, IfSome, map}
use Rattle.fresh_bucket.proofs.Prelude.{option_map, refl, sym, ap, subst, ◌∙◌, option_or, get, get-from_sorted}
use Rattle.fresh_bucket.proofs.Prelude.{LedgerKey, LedgerEntry, BucketEntry, key_cmp, key_of, Batch, EntryMap, IsKeyed}
use Rattle.fresh_bucket.proofs.Prelude.{AreRising, IsExactBatch, value_at, IsOverlaid, Sorted, Change, Init, Live, Dead}
use Rattle.fresh_bucket.proofs.Prelude.{change_at, BecameOf, IsFresh, IsItemRow, stated, bucket_of, made, changed, gone}
use Rattle.entry_map.specs.Batch.{IsNew, IsChanged, IsGone, IsBatch}
use Rattle.ledger_types.specs.declared.bucket.BucketEntry.TheVariants as bucket
use Rattle.entry_table.proofs.Batches.{same_parts}
use Rattle.fresh_bucket.proofs.Listed.{there, source, nowhere}
use Rattle.fresh_bucket.proofs.Revalued.{sorted, found}

-- ---- keys of keys

pub themselves : (ks : List LedgerKey) → map (λ k. k) ks ≡ ks
themselves [] = refl
themselves (k ∷ ks) = ap (λ r. k ∷ r) (themselves ks)

-- ---- the changes of a row

abbrev pub changes_of : List (LedgerKey × BucketEntry) → List (LedgerKey × Change)
changes_of row = map (λ x. (x.0, stated x.1)) row

pub changes_sorted : (row : List (LedgerKey × BucketEntry)) → Sorted row → Sorted (changes_of row)
changes_sorted = sorted stated

pub change_is : (version : ℕ) (row : List (LedgerKey × BucketEntry)) (k : LedgerKey) → Sorted row
    → change_at (bucket_of version row) k ≡ option_map stated (value_at k row)
change_is version row k s = get-from_sorted key_cmp (changes_of row) k (changes_sorted row s) ∙ found stated k row

-- ---- what an item says

-- an item says what became of the entry under a key
abbrev pub States : EntryMap → EntryMap → LedgerKey → BucketEntry → Type 0
States before after k (bucket.Meta version) = ⊥
States before after k (bucket.Live e) = (key_of e ≡ k) × IsChanged before after e
States before after k (bucket.Dead g) = (g ≡ k) × IsGone before after k
States before after k (bucket.Init e) = (key_of e ≡ k) × IsNew before after e

pub became : (before after : EntryMap) (k : LedgerKey) (it : BucketEntry) → States before after k it
    → BecameOf before after k (stated it)
became before after k (bucket.Meta version) h = absurd h
became before after k (bucket.Live e) h = h
became before after k (bucket.Dead g) h = h.1
became before after k (bucket.Init e) h = h

module _ (before after : EntryMap) (batch : Batch) (x : IsExactBatch before after batch)
    (row : List (LedgerKey × BucketEntry)) (r : IsItemRow batch row) where
  b : IsBatch before after batch
  b = x.batch

  dead_rises : AreRising (map (λ k. k) batch.dead)
  dead_rises = subst AreRising (sym (themselves batch.dead)) b.dead_rises

  row_is : (k : LedgerKey) (d l i : Option BucketEntry) → value_at k (map gone batch.dead) ≡ d
      → value_at k (map changed batch.live) ≡ l → value_at k (map made batch.init) ≡ i
      → value_at k row ≡ option_or d (option_or l i)
  row_is k d l i p q s = r.each k ∙ (λ j. option_or (p j) (option_or (q j) (s j)))

  no_dead : (k : LedgerKey) → (IsGone before after k → ⊥) → value_at k (map gone batch.dead) ≡ None
  no_dead k never = nowhere (λ q. q) (λ q. bucket.Dead q) (IsGone before after) batch.dead dead_rises b.dead k
      (λ q same h. never (subst (IsGone before after) same h))

  no_live : (k : LedgerKey) → ((e : LedgerEntry) → key_of e ≡ k → IsChanged before after e → ⊥)
      → value_at k (map changed batch.live) ≡ None
  no_live = nowhere key_of (λ e. bucket.Live e) (IsChanged before after) batch.live b.live_rises b.live

  gone_there : (k : LedgerKey) → IsGone before after k → value_at k row ≡ Some (bucket.Dead k)
  gone_there k h = row_is k (Some (bucket.Dead k)) _ _
      (there (λ q. q) (λ q. bucket.Dead q) (IsGone before after) batch.dead dead_rises b.dead k h) refl refl

  changed_there : (e : LedgerEntry) → IsChanged before after e → value_at (key_of e) row ≡ Some (bucket.Live e)
  changed_there e h = row_is (key_of e) None (Some (bucket.Live e)) _
      (no_dead (key_of e) (λ g. cc (sym h.0 ∙ g.1)))
      (there key_of (λ e. bucket.Live e) (IsChanged before after) batch.live b.live_rises b.live e h) refl

  new_there : (e : LedgerEntry) → IsNew before after e → value_at (key_of e) row ≡ Some (bucket.Init e)
  new_there e h = row_is (key_of e) None None (Some (bucket.Init e))
      (no_dead (key_of e) (λ g. cc (sym h.0 ∙ g.1)))
      (no_live (key_of e) (λ y same c. cc (sym c.1.1 ∙ ap (get before) same ∙ h.1)))
      (there key_of (λ e. bucket.Init e) (IsNew before after) batch.init b.init_rises b.init e h)

  pub each_states : (k : LedgerKey) (it : BucketEntry) → value_at k row ≡ Some it → States before after k it
  each_states k it h =
      elim (value_at k (map gone batch.dead)) as (λ d. value_at k (map gone batch.dead) ≡ d
      → option_or d (option_or (value_at k (map changed batch.live)) (value_at k (map made batch.init))) ≡ Some it
      → States before after k it) [
        | Some y ↦ λ p is.
            let s = source (λ q. q) (λ q. bucket.Dead q) (IsGone before after) batch.dead dead_rises b.dead k y p in
            let same : bucket.Dead s.0 ≡ it = cc (sym s.3, is) in
            subst (States before after k) same (s.2, subst (IsGone before after) s.2 s.1)
        | None ↦ λ p. elim (value_at k (map changed batch.live)) as (λ l. value_at k (map changed batch.live) ≡ l
            → option_or l (value_at k (map made batch.init)) ≡ Some it → States before after k it) [
              | Some y ↦ λ q is.
                  let s = source key_of (λ e. bucket.Live e)
                  (IsChanged before after) batch.live b.live_rises b.live k y q in
                  let same : bucket.Live s.0 ≡ it = cc (sym s.3, is) in
                  subst (States before after k) same (s.2, s.1)
              | None ↦ λ q is.
                  let s = source key_of (λ e. bucket.Init e)
                  (IsNew before after) batch.init b.init_rises b.init k it is in
                  subst (States before after k) (sym s.3) (s.2, s.1)
            ] refl
      ] refl (sym (r.each k) ∙ h)

  -- ---- the bucket

  said : (version : ℕ) (k : LedgerKey) (change : Change) → change_at (bucket_of version row) k ≡ Some change
      → BecameOf before after k change
  said version k change h =
      elim (value_at k row) as (λ o. value_at k row ≡ o → option_map stated o ≡ Some change
      → BecameOf before after k change) [
        | None ↦ λ p is. absurd (cc)
        | Some it ↦ λ p is.
            let same : stated it ≡ change = cc in
            subst (BecameOf before after k) same (became before after k it (each_states k it p))
      ] refl (sym (change_is version row k r.rises) ∙ h)

  says : (version : ℕ) (k : LedgerKey) (it : BucketEntry) → value_at k row ≡ Some it
      → change_at (bucket_of version row) k ≡ Some (stated it)
  says version k it h = change_is version row k r.rises ∙ ap (option_map stated) h

  known : (version : ℕ) (k : LedgerKey) (change : Change) → BecameOf before after k change
      → change_at (bucket_of version row) k ≡ Some change
  known version k (Init e) h =
      says version k (bucket.Init e) (ap (λ q. value_at q row) (sym h.0) ∙ new_there e h.1)
  known version k (Live e) h =
      says version k (bucket.Live e) (ap (λ q. value_at q row) (sym h.0) ∙ changed_there e h.1)
  known version k Dead h = says version k (bucket.Dead k) (gone_there k h)

  -- what the bucket doesn't say is as it was
  not_said : (version : ℕ) (k : LedgerKey) → IsKeyed after → change_at (bucket_of version row) k ≡ None
      → (change : Change) → BecameOf before after k change → ⊥
  not_said version k keyed h change c = cc (sym h ∙ known version k change c)

  stays : (version : ℕ) (k : LedgerKey) → IsKeyed after → change_at (bucket_of version row) k ≡ None
      → (was now : Option LedgerEntry) → get before k ≡ was → get after k ≡ now → get after k ≡ get before k
  stays version k keyed h None None p q = q ∙ sym p
  stays version k keyed h (Some was) None p q =
      absurd (not_said version k keyed h Dead ((λ e. cc (sym p ∙ e)), q))
  stays version k keyed h None (Some e) p q =
      let own : key_of e ≡ k = subst (λ o. IfSome o (λ y. key_of y ≡ k)) q (keyed k) in
      absurd (not_said version k keyed h (Init e) (own, (ap (get after) own ∙ q, ap (get before) own ∙ p)))
  stays version k keyed h (Some was) (Some e) p q =
      let own : key_of e ≡ k = subst (λ o. IfSome o (λ y. key_of y ≡ k)) q (keyed k) in
      elim (same_parts was e) [
        | inl same ↦ q ∙ ap Some (sym (x.others k was e p q same)) ∙ sym p
        | inr differ ↦ absurd (not_said version k keyed h (Live e)
            (own, (ap (get after) own ∙ q, (was, ap (get before) own ∙ p, differ))))
      ]

  pub is_fresh : (version : ℕ) → IsKeyed after → IsFresh before after (bucket_of version row)
  is_fresh version keyed = record {
    changes = λ k change. (said version k change, known version k change);
    others = λ k h. stays version k keyed h (get before k) (get after k) refl refl;
  }

-- ---- the row

pub all_items : (batch : Batch) (older newer there gone_row all : List (LedgerKey × BucketEntry))
    → older ≡ map made batch.init → newer ≡ map changed batch.live → gone_row ≡ map gone batch.dead
    → IsOverlaid older newer there → IsOverlaid there gone_row all → IsItemRow batch all
all_items batch older newer there gone_row all p q s o a = record {
  rises = a.rises;
  each = λ k. a.each k ∙ (λ i. option_or (value_at k (s i)) (o.each k i))
      ∙ (λ i. option_or (value_at k (map gone batch.dead)) (option_or (value_at k (q i)) (value_at k (p i))));
}
