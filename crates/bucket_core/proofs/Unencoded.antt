-- Keys without an encoding: no file has an item under one.
use Rattle.std.proofs.Common.{◌≢◌}
use Rattle.bucket_core.proofs.Prelude.{◌≡◌, List, [], ◌∷◌, Option, Some, None, All, true, false, cond, refl, sym, ap}
use Rattle.bucket_core.proofs.Prelude.{subst}
use Rattle.bucket_core.proofs.Prelude.{◌∙◌, option_map, All-head, All-tail, eq_by_cmp, Contents, change_at, HasFile}
use Rattle.bucket_core.proofs.Prelude.{item_of}
use Rattle.bucket_core.proofs.Prelude.{items_of, key_in, IsEncodable, same_keys, key_cmp, key_of, BucketEntry}
use Rattle.bucket_core.proofs.Prelude.{LedgerKey}
use Rattle.bucket_core.proofs.Prelude.{ledger_key}
use Rattle.ledger_types.specs.declared.bucket.BucketEntry.TheVariants as bucket
use Rattle.bucket_items.specs.KeyText.{IsKeyText}
use Rattle.bucket_core.specs.Encoded.{IsEncoded}
use Rattle.bucket_core.specs.Index.{value_at}
use Rattle.bucket_core.specs.Stored.{rows_of, under_if}
use Rattle.bucket_core.proofs.Judging.{entry_key_text, init_key_text, dead_key_text}
use Rattle.bucket_core.proofs.FileRows.{value_is_under}
use Rattle.bucket_core.proofs.Walking.{item_of_change}

as_encoded : (k m : LedgerKey) → IsKeyText (ledger_key.encoding k) k → k ≡ m → IsEncoded ledger_key m
as_encoded k m text same = subst (IsEncoded ledger_key) same (record { within = text.within; sized = text.sized })

-- the key of an item that has an encoding has one
key_encoded : (item : BucketEntry) (k : LedgerKey) → IsEncodable item → key_in item ≡ Some k → IsEncoded ledger_key k
key_encoded (bucket.Meta version) k h is = absurd (cc (is))
key_encoded (bucket.Live e) k h is =
    as_encoded (key_of e) k (entry_key_text (ledger_key.encoding (key_of e)) e refl (h.within, h.sized)) (cc (is))
key_encoded (bucket.Dead gone) k h is =
    as_encoded gone k (dead_key_text (ledger_key.encoding gone) gone refl (h.within, h.sized)) (cc (is))
key_encoded (bucket.Init e) k h is =
    as_encoded (key_of e) k (init_key_text (ledger_key.encoding (key_of e)) e refl (h.within, h.sized)) (cc (is))

found_encoded : (k : LedgerKey) (item : BucketEntry) (items : List BucketEntry) → IsEncodable item
    → (value_at k (rows_of items) ≢ None → IsEncoded ledger_key k) → (o : Option LedgerKey) → key_in item ≡ o
    → value_at k (under_if o item (rows_of items)) ≢ None → IsEncoded ledger_key k
found_encoded k item items h others None is some = others some
found_encoded k item items h others (Some m) is some =
    elim (eq_by_cmp key_cmp k m) as (λ b. eq_by_cmp key_cmp k m ≡ b
    → cond b (Some item) (value_at k (rows_of items)) ≢ None → IsEncoded ledger_key k) [
      | true ↦ λ e _. subst (IsEncoded ledger_key) (sym (same_keys k m e)) (key_encoded item m h is)
      | false ↦ λ e there. others there
    ] refl some

-- a key under which there is an item has an encoding
all_encoded : (k : LedgerKey) (items : List BucketEntry) → All IsEncodable items → value_at k (rows_of items) ≢ None
    → IsEncoded ledger_key k
all_encoded k [] all some = absurd (some refl)
all_encoded k (item ∷ items) all some =
    found_encoded k item items (All-head IsEncodable item items all)
    (all_encoded k items (All-tail IsEncodable item items all)) (key_in item) refl some

some_mapped : {A B : Type 0} (f : A → B) (o : Option A) → o ≢ None → option_map f o ≢ None
some_mapped f None some = absurd (some refl)
some_mapped f (Some a) some = λ none. absurd (cc (none))

-- a key of which a bucket says something has an encoding
pub said_encoded : (contents : Contents) (k : LedgerKey) → HasFile contents → change_at contents k ≢ None
    → IsEncoded ledger_key k
said_encoded contents k file some =
    all_encoded k (items_of contents) file.encoded (λ none.
    some_mapped (λ change. item_of (k, change)) (change_at contents k) some
    (sym (value_is_under k (items_of contents) ∙ item_of_change k contents file.keyed) ∙ none))

none_by : {A : Type 0} (o : Option A) → (o ≢ None → ⊥) → o ≡ None
none_by None h = refl
none_by (Some a) h = absurd (h (λ none. absurd (cc (none))))

-- a bucket says nothing of a key without an encoding
pub nothing_said : (contents : Contents) (k : LedgerKey) → HasFile contents → (IsEncoded ledger_key k → ⊥)
    → None ≡ option_map (λ change. item_of (k, change)) (change_at contents k)
nothing_said contents k file none =
    sym (ap (option_map (λ change. item_of (k, change)))
    (none_by (change_at contents k) (λ some. none (said_encoded contents k file some))))
