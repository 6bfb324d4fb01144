-- A bucket of such items has a file.
use Rattle.fresh_bucket.proofs.Prelude.{◌≡◌, ◌≢◌, ℕ, ◌≤◌, ◌<◌, ◌^◌, pos, List, [], ◌∷◌, ◌++◌, Some, None, map, length}
use Rattle.fresh_bucket.proofs.Prelude.{refl, sym, ap, subst, ◌∙◌, arith, All, IfSome, option_map, AllByRecursion}
use Rattle.fresh_bucket.proofs.Prelude.{flat_map, get, entries-from_sorted, All-from_recursion, LedgerKey, LedgerEntry}
use Rattle.fresh_bucket.proofs.Prelude.{BucketEntry, key_cmp, key_of, Batch, EntryMap, IsKeyed, IsExactBatch}
use Rattle.fresh_bucket.proofs.Prelude.{IsEntryEncodable, AreEncodable, value_at, IsEncodable, record_of, max_item_len}
use Rattle.fresh_bucket.proofs.Prelude.{Change, IsUnderKey, IsItemRow, stated, bucket_of}
use Rattle.std.proofs.lemmas.List.{length-append}
use Rattle.ledger_types.specs.declared.bucket.BucketEntry.TheVariants as bucket
use Rattle.xdr_core.specs.Leaves.{u32, i32}
use Rattle.xdr_core.specs.Combinators.{constant}
use Rattle.xdr_entries.specs.Entries.{ledger_entry}
use Rattle.xdr_entries.specs.Keys.{ledger_key, bucket_entry}
use Rattle.bucket_core.proofs.bucket_items_proofs.EntryKeys.{entry_holds_key, entry_key_within, entry_key_sized}
use Rattle.bucket_core.proofs.bucket_items_proofs.Holding.{i32_len}
use Rattle.bucket_core.specs.File.{item_of, items_of, file_of, HasFile}
use Rattle.fresh_bucket.proofs.Listed.{each_found}
use Rattle.fresh_bucket.proofs.Stated.{States, each_states, changes_of, changes_sorted, change_is}

-- ---- items

pub meta_encoded : (version : ℕ) → version < 2 ^ 32 → IsEncodable (bucket.Meta version)
unfolding bucket_entry u32 i32 constant
meta_encoded version h = record {
  within = (tt, tt);
  sized = (h, tt);
  short = let room : 12 ≤ max_item_len = omega arith in room;
}

live_encoded : (e : LedgerEntry) → IsEntryEncodable e → IsEncodable (bucket.Live e)
unfolding bucket_entry
live_encoded e h = record {
  within = h.within;
  sized = h.sized;
  short = omega (arith, h.short, length-append (i32.encoding (pos 0)) (ledger_entry.encoding e), i32_len (pos 0));
}

init_encoded : (e : LedgerEntry) → IsEntryEncodable e → IsEncodable (bucket.Init e)
unfolding bucket_entry
init_encoded e h = record {
  within = h.within;
  sized = h.sized;
  short = omega (arith, h.short, length-append (i32.encoding (pos 2)) (ledger_entry.encoding e), i32_len (pos 2));
}

-- the key of an entry is encoded within it
dead_encoded : (e : LedgerEntry) → IsEntryEncodable e → IsEncodable (bucket.Dead (key_of e))
unfolding bucket_entry
dead_encoded e h =
    let b = entry_holds_key e in
    let key : List ℕ = ledger_key.encoding (key_of e) in
    let seq : List ℕ = u32.encoding e.last_modified_ledger_seq in
    record {
      within = entry_key_within e h.within;
      sized = entry_key_sized e h.sized;
      short = omega (
        arith,
        h.short,
        ap length b.1,
        length-append seq (key ++ b.0),
        length-append key b.0,
        length-append (i32.encoding (pos 1)) key,
        i32_len (pos 1),
      );
    }

entry_at : (m : EntryMap) (k : LedgerKey) → get m k ≢ None → (e : LedgerEntry) × (get m k ≡ Some e)
entry_at m k h =
    elim (get m k) as (λ o. get m k ≡ o → (e : LedgerEntry) × (get m k ≡ Some e)) [
      | None ↦ λ p. absurd (h p)
      | Some e ↦ λ p. (e, p)
    ] refl

pub stating_encoded : (before after : EntryMap) (k : LedgerKey) (it : BucketEntry) → IsKeyed before
    → AreEncodable before → AreEncodable after → States before after k it → IsEncodable it
stating_encoded before after k (bucket.Meta version) keyed sb sa h = absurd h
stating_encoded before after k (bucket.Live e) keyed sb sa h = live_encoded e (sa (key_of e) e h.1.0)
stating_encoded before after k (bucket.Init e) keyed sb sa h = init_encoded e (sa (key_of e) e h.1.0)
stating_encoded before after k (bucket.Dead g) keyed sb sa h =
    let was = entry_at before k h.1.0 in
    let own : key_of was.0 ≡ k = subst (λ o. IfSome o (λ y. key_of y ≡ k)) was.1 (keyed k) in
    subst (λ (q : LedgerKey). IsEncodable (bucket.Dead q)) (own ∙ sym h.0) (dead_encoded was.0 (sb k was.0 was.1))

-- ---- the file

under_key : (before after : EntryMap) (k : LedgerKey) (it : BucketEntry) → States before after k it
    → IsUnderKey k (stated it)
under_key before after k (bucket.Meta version) h = absurd h
under_key before after k (bucket.Live e) h = h.0
under_key before after k (bucket.Dead g) h = tt
under_key before after k (bucket.Init e) h = h.0

same_item : (before after : EntryMap) (k : LedgerKey) (it : BucketEntry) → States before after k it
    → item_of (k, stated it) ≡ it
same_item before after k (bucket.Meta version) h = absurd h
same_item before after k (bucket.Live e) h = refl
same_item before after k (bucket.Dead g) h = ap bucket.Dead (sym h.0)
same_item before after k (bucket.Init e) h = refl

same_items : (row : List (LedgerKey × BucketEntry)) → AllByRecursion (λ x. item_of (x.0, stated x.1) ≡ x.1) row
    → map item_of (changes_of row) ≡ map (λ x. x.1) row
same_items [] h = refl
same_items (x ∷ xs) h = λ i. h.0 i ∷ same_items xs h.1 i

all_second : (row : List (LedgerKey × BucketEntry)) → AllByRecursion (λ x. IsEncodable x.1) row
    → AllByRecursion IsEncodable (map (λ x. x.1) row)
all_second [] h = tt
all_second (x ∷ xs) h = (h.0, all_second xs h.1)

module _ (version : ℕ) (fits : version < 2 ^ 32) (before after : EntryMap) (batch : Batch)
    (x : IsExactBatch before after batch) (keyed : IsKeyed before) (sb : AreEncodable before) (sa : AreEncodable after)
    (row : List (LedgerKey × BucketEntry)) (r : IsItemRow batch row) where
  pub row_encoded : AllByRecursion (λ y. IsEncodable y.1) row
  row_encoded = each_found (λ k it. IsEncodable it) row r.rises
      (λ k it h. stating_encoded before after k it keyed sb sa (each_states before after batch x row r k it h))

  items_are : items_of (bucket_of version row) ≡ bucket.Meta version ∷ map (λ y. y.1) row
  items_are = ap (λ (es : List (LedgerKey × Change)). bucket.Meta version ∷ map item_of es)
      (entries-from_sorted key_cmp (changes_of row) (changes_sorted row r.rises))
      ∙ ap (λ (its : List BucketEntry). bucket.Meta version ∷ its) (same_items row
      (each_found (λ k it. item_of (k, stated it) ≡ it) row r.rises
      (λ k it h. same_item before after k it (each_states before after batch x row r k it h))))

  pub has_file : HasFile (bucket_of version row)
  has_file = record {
    keyed = λ k c h.
        elim (value_at k row) as (λ o. value_at k row ≡ o → option_map stated o ≡ Some c → IsUnderKey k c) [
          | None ↦ λ p is. absurd (cc)
          | Some it ↦ λ p is.
              let same : stated it ≡ c = cc in
              subst (IsUnderKey k) same (under_key before after k it (each_states before after batch x row r k it p))
        ] refl (sym (change_is version row k r.rises) ∙ h);
    encoded = subst (All IsEncodable) (sym items_are)
        (All-from_recursion IsEncodable (bucket.Meta version ∷ map (λ y. y.1) row)
        (meta_encoded version fits, all_second row row_encoded));
  }

  pub file_is : record_of (bucket.Meta version) ++ flat_map record_of (map (λ y. y.1) row)
      ≡ file_of (bucket_of version row)
  file_is = sym (ap (flat_map record_of) items_are)

  -- the row's items after META are the file of a bucket that has one
  pub stated_file : (slice : List (LedgerKey × BucketEntry)) (file : List ℕ) → slice ≡ row
      → file ≡ record_of (bucket.Meta version) ++ flat_map record_of (map (λ y. y.1) slice)
      → HasFile (bucket_of version row) × (file ≡ file_of (bucket_of version row))
  stated_file slice file same is = (
    has_file,
    is ∙ ap (λ (r : List (LedgerKey × BucketEntry)). record_of (bucket.Meta version)
        ++ flat_map record_of (map (λ y. y.1) r)) same ∙ file_is,
  )
