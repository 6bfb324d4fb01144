-- The filter of a file's keys.
use Rattle.std.proofs.Common.{◌≡◌, ◌<◌, ℕ, true, false, List, [], ◌∷◌, ◌++◌, Some, None, take, drop}
use Rattle.std.proofs.Common.{length}
use Rattle.std.proofs.Common.{refl, sym, ap, subst, ◌∙◌, get_or, cond, arith, zero, suc, ◌+◌}
use Rattle.std.proofs.lemmas.List.{take_more}
use Rattle.std.specs.Ordering.{eq_by_cmp}
use Rattle.ledger_types.specs.declared.key.LedgerKey.{LedgerKey}
use Rattle.ledger_types.specs.declared.bucket.BucketEntry.{BucketEntry}
use Rattle.ledger_types.specs.KeyOrder.{key_cmp}
use Rattle.xdr_entries.specs.Keys.{ledger_key}
use Rattle.bucket_items.specs.KeyText.{IsKeyText}
use Rattle.bucket_core.specs.Filter.{may_contain, fingerprint}
use Rattle.bucket_core.specs.Stored.{stored_in}
use Rattle.bucket_core.specs.Index.{Row, value_at, IsItemAt, AreItemsAt, row_at, MayContainAll, IsFilter}
use Rattle.ledger_types.proofs.KeyOrdering.{same_keys}
use Rattle.bucket_core.proofs.Indexing.{row_more}

-- ---- one key more

abbrev Keeps : List ℕ → List ℕ → Type 0
Keeps old new = (other : ℕ) → may_contain old other ≡ true → may_contain new other ≡ true

still : (old new : List ℕ) (row : Row) → Keeps old new → MayContainAll old row → MayContainAll new row
still old new [] keeps h = tt
still old new (x ∷ xs) keeps h = (keeps (fingerprint (ledger_key.encoding x.0)) h.0, still old new xs keeps h.1)

more : (words : List ℕ) (row : Row) (x : LedgerKey × BucketEntry) → MayContainAll words row
    → may_contain words (fingerprint (ledger_key.encoding x.0)) ≡ true → MayContainAll words (row ++ x ∷ [])
more words [] x h p = (p, tt)
more words (y ∷ ys) x h p = (h.0, more words ys x h.1 p)

pub one_more : (file offsets old new text : List ℕ) (i : ℕ) (x : LedgerKey × BucketEntry) (h : ℕ) → i < length offsets
    → x ≡ stored_in (drop (get_or offsets i 0) file) → IsKeyText text x.0 → h ≡ fingerprint text
    → IsFilter old (row_at file (take i offsets)) → may_contain new h ≡ true → Keeps old new
    → length new ≡ length old → IsFilter new (row_at file (take (i + 1) offsets))
one_more file offsets old new text i x h w is key hash filter noted keeps len =
    let row : row_at file (take (i + 1) offsets) ≡ row_at file (take i offsets) ++ x ∷ [] =
    ap (row_at file) (take_more offsets i 0 w) ∙ row_more file (take i offsets) (get_or offsets i 0 ∷ [])
    ∙ ap (λ (y : LedgerKey × BucketEntry). row_at file (take i offsets) ++ y ∷ []) (sym is) in
    subst (IsFilter new) (sym row) (record {
      some = subst (λ n. 0 < n) (sym len) filter.some;
      all = more new (row_at file (take i offsets)) x (still old new (row_at file (take i offsets)) keeps filter.all)
          (ap (may_contain new) (ap fingerprint (sym key.encoded) ∙ sym hash) ∙ noted);
    })

-- a position among others
pub stands_in : (file offsets : List ℕ) (i : ℕ) → i < length offsets → AreItemsAt file offsets
    → IsItemAt file (get_or offsets i 0)
stands_in file (p ∷ ps) zero w h = h.0
stands_in file (p ∷ ps) (suc i) w h = stands_in file ps i (omega (arith, w)) h.1
stands_in file [] i w h = absurd (omega (arith, w))

-- ---- what doesn't pass

-- a key that doesn't pass is in no row that may_contain
pub none_there : (words : List ℕ) (row : Row) (k : LedgerKey) → MayContainAll words row
    → may_contain words (fingerprint (ledger_key.encoding k)) ≡ false → value_at k row ≡ None
none_there words [] k h p = refl
none_there words (x ∷ xs) k h p =
    elim (eq_by_cmp key_cmp k x.0) as (λ b. eq_by_cmp key_cmp k x.0 ≡ b
    → cond b (Some x.1) (value_at k xs) ≡ None) [
      | true ↦ λ e. let same =
          ap (λ (m : LedgerKey). may_contain words (fingerprint (ledger_key.encoding m))) (same_keys k x.0 e) in
          absurd (cc (p, same, h.0))
      | false ↦ λ e. none_there words xs k h.1 p
    ] refl
