-- What is written of items.
use Rattle.bucket_merge.proofs.Prelude.{◌≡◌, ℕ, ◌+◌, ◌≤◌, pos, Bool, true, false, List, [], ◌∷◌, ◌++◌, length, drop}
use Rattle.bucket_merge.proofs.Prelude.{Option, Some, None, refl, sym, ap, subst, ◌∙◌, eqb, arith, option_and_then}
use Rattle.bucket_merge.proofs.Prelude.{Result, OnOk, if◌then◌else◌, append-nil, length-append, on_ok_weaker, i32, mark}
use Rattle.bucket_merge.proofs.Prelude.{ledger_entry, bucket_entry, LedgerKey, LedgerEntry, BucketEntry, BucketItem}
use Rattle.bucket_merge.proofs.Prelude.{IsItemText, item_type, max_item_len, record_of, IsEncodable, i32_len, Change}
use Rattle.bucket_merge.proofs.Prelude.{Init, Live, Dead, item_of, kept, joined, put, States, records_of, drop_at}
use Rattle.bucket_core.specs.ledger_types.declared.bucket.BucketEntry.TheVariants as bucket
use Rattle.bucket_merge.specs.declared.joining.Joining.{Joining}
use Rattle.bucket_merge.specs.declared.joining.Joining.TheVariants as give
use Rattle.bucket_merge.specs.Joining.{joining_of, is_dropped}

-- ---- records

pub text_is_short : (text : List ℕ) (e : BucketEntry) → IsItemText text e → IsEncodable e → length text ≤ max_item_len
text_is_short text e h s = subst (λ (t : List ℕ). length t ≤ max_item_len) (sym h.encoded) s.short

-- a file that grew by the record of a text
pub grew_by_item : {E : Type 0} (r : Result (Unit {0}) E) (new old text : List ℕ) (e : BucketEntry)
    → text ≡ bucket_entry.encoding e → OnOk r (new ≡ old ++ (mark max_item_len).encoding text)
    → OnOk r (new ≡ old ++ record_of e)
grew_by_item r new old text e is h =
    on_ok_weaker r (λ w. w ∙ ap (λ (t : List ℕ). old ++ (mark max_item_len).encoding t) is) h

pub init_parts : (text : List ℕ) (e : LedgerEntry) → IsItemText text (bucket.Init e)
    → (4 ≤ length text) × (drop 4 text ≡ ledger_entry.encoding e)
unfolding bucket_entry
init_parts text e h = (
  subst (λ (t : List ℕ). 4 ≤ length t) (sym h.encoded)
      (omega (arith, i32_len (pos 2), length-append (i32.encoding (pos 2)) (ledger_entry.encoding e))),
  ap (drop 4) h.encoded ∙ drop_at (i32.encoding (pos 2)) (ledger_entry.encoding e) 4 (i32_len (pos 2)),
)

pub live_parts : (text : List ℕ) (e : LedgerEntry) → IsItemText text (bucket.Live e)
    → (4 ≤ length text) × (drop 4 text ≡ ledger_entry.encoding e)
unfolding bucket_entry
live_parts text e h = (
  subst (λ (t : List ℕ). 4 ≤ length t) (sym h.encoded)
      (omega (arith, i32_len (pos 0), length-append (i32.encoding (pos 0)) (ledger_entry.encoding e))),
  ap (drop 4) h.encoded ∙ drop_at (i32.encoding (pos 0)) (ledger_entry.encoding e) 4 (i32_len (pos 0)),
)

pub live_text : (back : List ℕ) (e : LedgerEntry) → back ≡ ledger_entry.encoding e
    → (0 ∷ 0 ∷ 0 ∷ 0 ∷ []) ++ back ≡ bucket_entry.encoding (bucket.Live e)
unfolding bucket_entry i32
live_text back e is = ap (λ (t : List ℕ). (0 ∷ 0 ∷ 0 ∷ 0 ∷ []) ++ t) is

pub init_text : (back : List ℕ) (e : LedgerEntry) → back ≡ ledger_entry.encoding e
    → (0 ∷ 0 ∷ 0 ∷ 2 ∷ []) ++ back ≡ bucket_entry.encoding (bucket.Init e)
unfolding bucket_entry i32
init_text back e is = ap (λ (t : List ℕ). (0 ∷ 0 ∷ 0 ∷ 2 ∷ []) ++ t) is

-- ---- kept or dropped

-- what is put before nothing
pub records_of_one : (k : LedgerKey) (c : Change) → records_of (put k (Some c) []) ≡ record_of (item_of (k, c))
records_of_one k c = append-nil (record_of (item_of (k, c)))

dead_kept : (level : ℕ) (b : Bool) → eqb level 10 ≡ b → kept level Dead ≡ (if b then None else Some Dead)
dead_kept level b e = ap (λ (t : Bool). if t then None else Some Dead) e

pub dropped_is : (level : ℕ) (item : BucketItem) (k : LedgerKey) (c : Change) → States item k c
    → is_dropped level item.mark ≡ true → kept level c ≡ None
dropped_is level item k (Init e) t d = absurd (cc (ap (is_dropped level) (sym t.shown.mark) ∙ d))
dropped_is level item k (Live e) t d = absurd (cc (ap (is_dropped level) (sym t.shown.mark) ∙ d))
dropped_is level item k Dead t d = dead_kept level true (ap (is_dropped level) (sym t.shown.mark) ∙ d)

pub kept_is : (level : ℕ) (item : BucketItem) (k : LedgerKey) (c : Change) → States item k c
    → is_dropped level item.mark ≡ false → kept level c ≡ Some c
kept_is level item k (Init e) t d = refl
kept_is level item k (Live e) t d = refl
kept_is level item k Dead t d = dead_kept level false (ap (is_dropped level) (sym t.shown.mark) ∙ d)

-- a file that grew by nothing
pub grew_by_none : (k : LedgerKey) (o : Option Change) (old : List ℕ) → o ≡ None → old ≡ old ++ records_of (put k o [])
grew_by_none k o old is = sym (append-nil old) ∙ ap (λ (x : Option Change). old ++ records_of (put k x [])) (sym is)

-- a file that grew by the record of a change
pub grew_by_change : {E : Type 0} (r : Result (Unit {0}) E) (new old : List ℕ) (k : LedgerKey) (o : Option Change)
    (c : Change) → o ≡ Some c → OnOk r (new ≡ old ++ record_of (item_of (k, c)))
    → OnOk r (new ≡ old ++ records_of (put k o []))
grew_by_change r new old k o c is h = on_ok_weaker r (λ w. w ∙ ap (λ (t : List ℕ). old ++ t) (sym (records_of_one k c))
    ∙ ap (λ (x : Option Change). old ++ records_of (put k x [])) (sym is)) h

-- ---- joined

-- what the types of two items determine of what they say
abbrev pub Gives : Joining → Change → Change → Type 0
Gives give.NewerAsLive c d = (e : LedgerEntry) × (c ≡ Dead) × (d ≡ Init e)
Gives give.NewerAsInit c d = (w : LedgerEntry) × (e : LedgerEntry) × (c ≡ Init w) × (d ≡ Live e)
Gives give.Nothing c d = joined c d ≡ None
Gives give.Newer c d = joined c d ≡ Some d

by_types : (c d : Change) (k : LedgerKey)
    → Gives (joining_of (item_type (item_of (k, c))) (item_type (item_of (k, d)))) c d
by_types Dead (Init e) k = (e, refl, refl)
by_types Dead (Live e) k = refl
by_types Dead Dead k = refl
by_types (Init w) (Live e) k = (w, e, refl, refl)
by_types (Init w) (Init e) k = refl
by_types (Init w) Dead k = refl
by_types (Live w) (Live e) k = refl
by_types (Live w) (Init e) k = refl
by_types (Live w) Dead k = refl

pub joining_gives : (j : Joining) (c d : Change) (k : LedgerKey) (older newer : BucketItem) → States older k c
    → States newer k d
    → joining_of older.mark newer.mark ≡ j → Gives j c d
joining_gives j c d k older newer t u is =
    let types :
    joining_of (item_type (item_of (k, c))) (item_type (item_of (k, d))) ≡ joining_of older.mark newer.mark =
    λ i. joining_of (sym t.shown.mark i) (sym u.shown.mark i) in
    subst (λ (x : Joining). Gives x c d) (types ∙ is) (by_types c d k)

-- an item that says a change, stated otherwise
pub states_init : (item : BucketItem) (k : LedgerKey) (d : Change) (e : LedgerEntry) → States item k d → d ≡ Init e
    → States item k (Init e)
states_init item k d e t is = subst (States item k) is t

pub states_live : (item : BucketItem) (k : LedgerKey) (d : Change) (e : LedgerEntry) → States item k d → d ≡ Live e
    → States item k (Live e)
states_live item k d e t is = subst (States item k) is t

pub as_live : (level : ℕ) (c d : Change) (e : LedgerEntry) → c ≡ Dead → d ≡ Init e
    → option_and_then (kept level) (joined c d) ≡ Some (Live e)
as_live level c d e a b = λ i. option_and_then (kept level) (joined (a i) (b i))

pub as_init : (level : ℕ) (c d : Change) (w e : LedgerEntry) → c ≡ Init w → d ≡ Live e
    → option_and_then (kept level) (joined c d) ≡ Some (Init e)
as_init level c d w e a b = λ i. option_and_then (kept level) (joined (a i) (b i))
