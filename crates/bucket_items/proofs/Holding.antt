-- Where the key of an item lies in the item's text, and what comes before it.
use Rattle.bucket_items.proofs.Prelude.{◌≡◌, ℕ, ◌≤◌, ℤ, pos, List, ◌++◌, length, drop, take, Ok, Err, refl}
use Rattle.bucket_items.proofs.Prelude.{sym, ap, subst, ◌∙◌, append_assoc, arith, length-append, w32, cast_unsigned}
use Rattle.bucket_items.proofs.Prelude.{XdrFault, Position, start_of, IsBytes, u32, i32, wide4, LedgerKey, LedgerEntry}
use Rattle.bucket_items.proofs.Prelude.{BucketEntry, key_of, ledger_key, bucket_entry, ledger_entry, ledger_key_laws}
use Rattle.bucket_items.proofs.Prelude.{item_type, item_key_text, IsItemText, drop_at, take_at}
use Rattle.ledger_types.specs.declared.bucket.BucketEntry.TheVariants as bucket
use Rattle.bucket_items.specs.declared.item.BucketEntryType.TheVariants as mark
use Rattle.bucket_items.proofs.EntryKeys.{entry_holds_key, entry_key_within, entry_key_sized}
use Rattle.bucket_items.proofs.RefOrder.{after_key, key_is_read}

-- after n bytes of a text comes a key's encoding
pub record HoldsKey (text : List ℕ) (n : ℕ) (k : LedgerKey) : Type 0 where
  pub room : n ≤ length text
  pub tail : List ℕ
  pub parts : drop n text ≡ ledger_key.encoding k ++ tail
  pub within : ledger_key.within k
  pub sized : ledger_key.sized k

held_after : (text prefix : List ℕ) (n : ℕ) (k : LedgerKey) (tail : List ℕ)
    → text ≡ prefix ++ (ledger_key.encoding k ++ tail) → length prefix ≡ n → ledger_key.within k → ledger_key.sized k
    → HoldsKey text n k
held_after text prefix n k tail e len within sized = record {
  room = subst (λ (t : List ℕ). n ≤ length t) (sym e)
      (omega (arith, len, length-append prefix (ledger_key.encoding k ++ tail)));
  tail = tail;
  parts = ap (drop n) e ∙ drop_at prefix (ledger_key.encoding k ++ tail) n len;
  within = within;
  sized = sized;
}

pub i32_len : (v : ℤ) → length (i32.encoding v) ≡ 4
unfolding i32
i32_len v = wide4.len (cast_unsigned w32 v)

u32_len : (v : ℕ) → length (u32.encoding v) ≡ 4
unfolding u32
u32_len v = wide4.len v

entry_after : (text : List ℕ) (mark : ℤ) (e : LedgerEntry) → text ≡ i32.encoding mark ++ ledger_entry.encoding e
    → ledger_entry.within e → ledger_entry.sized e → HoldsKey text 8 (key_of e)
entry_after text mark e h within sized =
    let b = entry_holds_key e in
    let seq : List ℕ = u32.encoding e.last_modified_ledger_seq in
    held_after text (i32.encoding mark ++ seq) 8 (key_of e) b.0 (
    h ∙ ap (λ (t : List ℕ). i32.encoding mark ++ t) b.1
    ∙ sym (append_assoc (i32.encoding mark) seq (ledger_key.encoding (key_of e) ++ b.0))
    ) (omega (arith, length-append (i32.encoding mark) seq, i32_len mark, u32_len e.last_modified_ledger_seq))
    (entry_key_within e within) (entry_key_sized e sized)

pub live_holds : (text : List ℕ) (e : LedgerEntry) → IsItemText text (bucket.Live e) → HoldsKey text 8 (key_of e)
unfolding bucket_entry
live_holds text e h = entry_after text (pos 0) e h.encoded h.within h.sized

pub init_holds : (text : List ℕ) (e : LedgerEntry) → IsItemText text (bucket.Init e) → HoldsKey text 8 (key_of e)
unfolding bucket_entry
init_holds text e h = entry_after text (pos 2) e h.encoded h.within h.sized

pub dead_holds : (text : List ℕ) (k : LedgerKey) → IsItemText text (bucket.Dead k)
    → (4 ≤ length text) × (drop 4 text ≡ ledger_key.encoding k)
unfolding bucket_entry
dead_holds text k h =
    let len = i32_len (pos 1) in (
      subst (λ (t : List ℕ). 4 ≤ length t) (sym h.encoded)
          (omega (arith, len, length-append (i32.encoding (pos 1)) (ledger_key.encoding k))),
      ap (drop 4) h.encoded ∙ drop_at (i32.encoding (pos 1)) (ledger_key.encoding k) 4 len,
    )

-- ---- a key as a text's prefix

-- a key that was read there ends within the text
pub key_ends : (text : List ℕ) (v : LedgerKey) (p q : Position) → IsBytes text → p ≡ start_of text
    → ledger_key.read p ≡ Ok (v, q) → q.at ≤ length text
key_ends text v p q fits a e =
    let r : ledger_key.read (start_of text) ≡ Ok (v, q) = ap (λ (x : Position). ledger_key.read x) (sym a) ∙ e in
    let t = (ledger_key_laws.lawful.takes (start_of text) q v fits r).taken in
    omega (arith, t.at, ap (λ (x : List ℕ). length x) t.parts, length-append (ledger_key.encoding v) q.rest)

prefix_is_read : (text : List ℕ) (k : LedgerKey) (tail : List ℕ) → text ≡ ledger_key.encoding k ++ tail
    → ledger_key.within k → ledger_key.sized k → ledger_key.read (start_of text) ≡ Ok (k, after_key k tail)
prefix_is_read text k tail e within sized =
    key_is_read text k (record { tail = tail; parts = e; within = within; sized = sized })

-- reading it ends after it
pub prefix_is_key : (text : List ℕ) (k v : LedgerKey) (tail : List ℕ) (p q : Position)
    → text ≡ ledger_key.encoding k ++ tail → ledger_key.within k → ledger_key.sized k → p ≡ start_of text
    → ledger_key.read p ≡ Ok (v, q) → take q.at text ≡ ledger_key.encoding k
prefix_is_key text k v tail p q e within sized a r =
    let s : ledger_key.read (start_of text) ≡ Ok (v, q) = ap (λ (x : Position). ledger_key.read x) (sym a) ∙ r in
    let same : (v, q) ≡ (k, after_key k tail) = cc (s, prefix_is_read text k tail e within sized) in
    let at : q.at ≡ length (ledger_key.encoding k) = ap (λ (y : LedgerKey × Position). y.1.at) same ∙ omega arith in
    (λ i. take (at i) (e i)) ∙ take_at (ledger_key.encoding k) tail (length (ledger_key.encoding k)) refl

pub prefix_no_fault : {A : Type 0} (text : List ℕ) (k : LedgerKey) (tail : List ℕ) (f : XdrFault) (p : Position)
    → text ≡ ledger_key.encoding k ++ tail → ledger_key.within k → ledger_key.sized k → p ≡ start_of text
    → ledger_key.read p ≡ Err f → A
prefix_no_fault text k tail f p e within sized a r = absurd (cc (prefix_is_read text k tail e within sized, a, r))

-- ---- the key of an item of a type

-- what is the key's encoding wherever the text begins with one
abbrev pub PrefixKey : List ℕ → List ℕ → Type 0
PrefixKey text prefix = (k : LedgerKey) (tail : List ℕ) → text ≡ ledger_key.encoding k ++ tail → ledger_key.within k
    → ledger_key.sized k → prefix ≡ ledger_key.encoding k

key_held : (text rest prefix : List ℕ) (n : ℕ) (k : LedgerKey) → HoldsKey text n k
    → (n ≤ length text → rest ≡ drop n text) → PrefixKey rest prefix → prefix ≡ ledger_key.encoding k
key_held text rest prefix n k h after prefix_is = prefix_is k h.tail (after h.room ∙ h.parts) h.within h.sized

pub live_key : (text rest prefix : List ℕ) (e : BucketEntry) → IsItemText text e → item_type e ≡ mark.Live
    → (8 ≤ length text → rest ≡ drop 8 text) → PrefixKey rest prefix → prefix ≡ item_key_text e
live_key text rest prefix (bucket.Meta version) h t after prefix_is = absurd (cc (t))
live_key text rest prefix (bucket.Live e) h t after prefix_is =
    key_held text rest prefix 8 (key_of e) (live_holds text e h) after prefix_is
live_key text rest prefix (bucket.Dead gone) h t after prefix_is = absurd (cc (t))
live_key text rest prefix (bucket.Init e) h t after prefix_is = absurd (cc (t))

pub init_key : (text rest prefix : List ℕ) (e : BucketEntry) → IsItemText text e → item_type e ≡ mark.Init
    → (8 ≤ length text → rest ≡ drop 8 text) → PrefixKey rest prefix → prefix ≡ item_key_text e
init_key text rest prefix (bucket.Meta version) h t after prefix_is = absurd (cc (t))
init_key text rest prefix (bucket.Live e) h t after prefix_is = absurd (cc (t))
init_key text rest prefix (bucket.Dead gone) h t after prefix_is = absurd (cc (t))
init_key text rest prefix (bucket.Init e) h t after prefix_is =
    key_held text rest prefix 8 (key_of e) (init_holds text e h) after prefix_is

pub dead_key : (text rest : List ℕ) (e : BucketEntry) → IsItemText text e → item_type e ≡ mark.Dead
    → (4 ≤ length text → rest ≡ drop 4 text) → rest ≡ item_key_text e
dead_key text rest (bucket.Meta version) h t after = absurd (cc (t))
dead_key text rest (bucket.Live e) h t after = absurd (cc (t))
dead_key text rest (bucket.Dead gone) h t after = let d = dead_holds text gone h in after d.0 ∙ d.1
dead_key text rest (bucket.Init e) h t after = absurd (cc (t))
