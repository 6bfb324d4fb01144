-- What is stated of items where they exist in their files.
use Rattle.std.proofs.Common.{◌≡◌, List, [], ◌∷◌, ℕ, Option, Some, None, Ok, refl, sym, ap, subst, ◌∙◌, unwrap_or}
use Rattle.std.specs.Prelude.{IsSomeAnd}
use Rattle.xdr_core.specs.declared.fault.XdrFault.{XdrFault}
use Rattle.xdr_core.specs.Position.{Position, Reading, start_of}
use Rattle.ledger_types.specs.declared.bucket.BucketEntry.{BucketEntry}
use Rattle.ledger_types.specs.declared.bucket.BucketEntry.TheVariants as bucket
use Rattle.ledger_types.specs.declared.key.LedgerKey.{LedgerKey}
use Rattle.ledger_types.specs.declared.key.LedgerKey.TheVariants as key
use Rattle.bucket_items.specs.declared.item.BucketItem.{BucketItem}
use Rattle.bucket_items.specs.declared.item.BucketEntryType.TheVariants as mark
use Rattle.ledger_types.specs.Keys.{key_of}
use Rattle.bucket_items.specs.Item.{item_type, Shows, BeginsWithItemKey, IsItemText}
use Rattle.bucket_items.specs.KeyText.{BeginsWithKey, IsKeyText}
use Rattle.bucket_items.specs.MarkedItem.{item_at, TakesItem}
use Rattle.bucket_core.specs.Faults.{key_in}
use Rattle.bucket_core.proofs.Judging.{shown_key, shown_meta}
use Rattle.bucket_core.specs.Stored.{item_or_meta, under_key, stored_in, IsStored, rows_of, under_if}

-- ---- what is stored

stored_as : (text : List ℕ) (item : BucketEntry) (after : Position) (k : LedgerKey)
    → item_at (start_of text) ≡ Ok (item, after) → key_in item ≡ Some k → stored_in text ≡ (k, item)
unfolding stored_in
stored_as text item after k reads keyed =
    ap (λ (r : Reading XdrFault BucketEntry). under_key (item_or_meta r)) reads
    ∙ ap (λ (o : Option LedgerKey). (unwrap_or o (key.LiquidityPool (record { 0 = [] })), item)) keyed

pub is_stored : (text : List ℕ) (s : IsStored text) → stored_in text ≡ (s.key, s.item)
is_stored text s = stored_as text s.item s.after s.key s.reads s.keyed

-- ---- what is shown

shown_by : (r : Option BucketItem) (new after : Position) (item : BucketEntry) → TakesItem r new item after
    → IsSomeAnd r (λ here. Shows here here.bytes.now item)
shown_by None new after item h = absurd h
shown_by (Some here) new after item h = h.1

pub shown_item : (text : List ℕ) (v : LedgerKey × BucketEntry) (p new : Position) (r : Option BucketItem)
    → IsStored text → stored_in text ≡ v → p ≡ start_of text
    → ((e : BucketEntry) (q : Position) → item_at p ≡ Ok (e, q) → TakesItem r new e q)
    → IsSomeAnd r (λ here. Shows here here.bytes.now v.1)
shown_item text v p new r s is start takes =
    subst (λ (w : LedgerKey × BucketEntry). IsSomeAnd r (λ here. Shows here here.bytes.now w.1))
    (sym (is_stored text s) ∙ is)
    (shown_by r new s.after s.item (takes s.item s.after (ap item_at start ∙ s.reads)))

same_key : (k m : LedgerKey) → ◌≡◌ {A = Option LedgerKey} (Some k) (Some m) → k ≡ m
same_key k m e = cc

pub key_shown : (text : List ℕ) (v : LedgerKey × BucketEntry) (item : BucketItem) → IsStored text → stored_in text ≡ v
    → Shows item item.bytes.now v.1 → IsKeyText item.key.now v.0
key_shown text v item s is shows =
    let entire : (s.key, s.item) ≡ v = sym (is_stored text s) ∙ is in
    let here : Shows item item.bytes.now s.item =
    subst (λ (w : LedgerKey × BucketEntry). Shows item item.bytes.now w.1) (sym entire) shows in
    let found = shown_key item item.bytes.now s.item here
    (λ m. let none = shown_meta item item.bytes.now s.item here m in cc (none, s.keyed)) in
    subst (λ (w : LedgerKey × BucketEntry). IsKeyText item.key.now w.0) entire
    (subst (λ (k : LedgerKey). IsKeyText item.key.now k) (same_key found.0 s.key (sym found.1 ∙ s.keyed)) found.2)

begins_by : (text : List ℕ) (item : BucketEntry) (k : LedgerKey) → key_in item ≡ Some k → BeginsWithItemKey text item
    → BeginsWithKey text k
begins_by text (bucket.Meta version) k is h = absurd (cc (is))
begins_by text (bucket.Live e) k is h = subst (BeginsWithKey text) (same_key (key_of e) k is) h
begins_by text (bucket.Dead gone) k is h = subst (BeginsWithKey text) (same_key gone k is) h
begins_by text (bucket.Init e) k is h = subst (BeginsWithKey text) (same_key (key_of e) k is) h

-- the text of the item whose record is a prefix is that of what is stored there
pub text_of_stored : (text bytes : List ℕ) (v : LedgerKey × BucketEntry) → IsStored text → stored_in text ≡ v
    → ((e : BucketEntry) (q : Position) → item_at (start_of text) ≡ Ok (e, q) → IsItemText bytes e)
    → IsItemText bytes v.1
text_of_stored text bytes v s is reads =
    subst (λ (w : LedgerKey × BucketEntry). IsItemText bytes w.1) (sym (is_stored text s) ∙ is)
    (reads s.item s.after s.reads)

-- the key comes first in what was found from the key on
pub begins_with_key : (text rest : List ℕ) (v : LedgerKey × BucketEntry) → IsStored text → stored_in text ≡ v
    → ((e : BucketEntry) (q : Position) → item_at (start_of text) ≡ Ok (e, q) → BeginsWithItemKey rest e)
    → BeginsWithKey rest v.0
begins_with_key text rest v s is begins =
    subst (λ (w : LedgerKey × BucketEntry). BeginsWithKey rest w.0) (sym (is_stored text s) ∙ is)
    (begins_by rest s.item s.key s.keyed (begins s.item s.after s.reads))

-- ---- what is put into a row

keyed_by : (e : BucketEntry) → (item_type e ≡ mark.Meta → ⊥) → (k : LedgerKey) × (key_in e ≡ Some k)
keyed_by (bucket.Meta version) other = absurd (other refl)
keyed_by (bucket.Live e) other = (_, refl)
keyed_by (bucket.Dead k) other = (k, refl)
keyed_by (bucket.Init e) other = (_, refl)

pub stored_by : (text : List ℕ) (e : BucketEntry) (q : Position) → item_at (start_of text) ≡ Ok (e, q)
    → (item_type e ≡ mark.Meta → ⊥) → IsStored text
stored_by text e q reads other =
    let k = keyed_by e other in
    record { item = e; after = q; reads = reads; key = k.0; keyed = k.1 }

pub stored_row : (text : List ℕ) (e : BucketEntry) (q : Position) → item_at (start_of text) ≡ Ok (e, q)
    → (item_type e ≡ mark.Meta → ⊥) → stored_in text ∷ [] ≡ rows_of (e ∷ [])
stored_row text e q reads other =
    let k = keyed_by e other in
    ap (λ (x : LedgerKey × BucketEntry). x ∷ []) (stored_as text e q k.0 reads k.1)
    ∙ ap (λ (o : Option LedgerKey). under_if o e []) (sym k.1)

pub meta_row : (e : BucketEntry) → item_type e ≡ mark.Meta → rows_of (e ∷ []) ≡ []
meta_row (bucket.Meta version) is = refl
meta_row (bucket.Live e) is = absurd (cc (is))
meta_row (bucket.Dead k) is = absurd (cc (is))
meta_row (bucket.Init e) is = absurd (cc (is))
