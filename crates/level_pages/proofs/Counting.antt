-- Fewer items have keys above one of which files say something than above a lesser one.
use Rattle.std.proofs.Common.{◌≡◌, ◌≢◌, ℕ, ◌≤◌, ◌<◌, true, false, List, [], ◌∷◌, Option, Some, None, cond}
use Rattle.std.proofs.Common.{refl, sym}
use Rattle.std.proofs.Common.{ap, subst, ◌∙◌, arith, append-nil}
use Rattle.std.specs.FinMap.{entries, get-entries}
use Rattle.std.specs.FinMap.Entries.{find}
use Rattle.std.specs.Cmp.{tied_itself}
use Rattle.std.specs.Ordering.{is_lt, eq_by_cmp}
use Rattle.std.specs.declared.cmp.Ordering.{Ordering}
use Rattle.std.specs.declared.cmp.Ordering.TheVariants.{Less, Equal, Greater}
use Rattle.ledger_types.specs.declared.key.LedgerKey.{LedgerKey}
use Rattle.ledger_types.specs.KeyOrder.{key_cmp}
use Rattle.ledger_types.proofs.KeyOrdering.{keys_total, same_keys}
use Rattle.xdr_core.specs.declared.fault.XdrFault.{XdrFault}
use Rattle.xdr_core.specs.Position.{Reading, start_of}
use Rattle.xdr_entries.specs.Keys.{ledger_key}
use Rattle.xdr_entries.proofs.KeyLaws.{ledger_key_laws}
use Rattle.bucket_items.specs.KeyText.{IsKeyText}
use Rattle.bucket_core.specs.Bucket.{Change, Contents, change_at}
use Rattle.bucket_levels.specs.Meaning.{prepended, changes_of}
use Rattle.level_pages.specs.Above.{one_if, above_among, above_in, count_above, key_read, key_at}
use Rattle.level_pages.specs.Newest.{first_of}

module _ (j x : LedgerKey) (less : key_cmp j x ≡ Less) where
  head_by : (k : LedgerKey) (o : Ordering) → key_cmp x k ≡ o
      → one_if (is_lt o) ≤ one_if (is_lt (key_cmp j k))
  head_by k Less is =
      subst (λ (p : Ordering). 1 ≤ one_if (is_lt p)) (sym (keys_total.trans j x k less is)) (omega arith)
  head_by k Equal is = omega arith
  head_by k Greater is = omega arith

  head : (k : LedgerKey) → one_if (is_lt (key_cmp x k)) ≤ one_if (is_lt (key_cmp j k))
  head k = head_by k (key_cmp x k) refl

  none_more : (es : List (LedgerKey × Change)) → above_among x es ≤ above_among j es
  none_more [] = omega arith
  none_more (e ∷ es) = let first = head e.0 in let others = none_more es in omega (arith, first, others)

  -- an item under the greater key is above the lesser one alone
  own : (k : LedgerKey) → eq_by_cmp key_cmp x k ≡ true → one_if (is_lt (key_cmp x k)) < one_if (is_lt (key_cmp j k))
  own k tied = subst (λ (m : LedgerKey). one_if (is_lt (key_cmp x m)) < one_if (is_lt (key_cmp j m)))
      (same_keys x k tied)
      (subst (λ (p : Ordering). one_if (is_lt p) < one_if (is_lt (key_cmp j x))) (sym (tied_itself keys_total x))
      (subst (λ (p : Ordering). 0 < one_if (is_lt p)) (sym less) (omega arith)))

  fewer : (es : List (LedgerKey × Change)) → find key_cmp x es ≢ None → above_among x es < above_among j es
  fewer [] some = absurd (some refl)
  fewer (e ∷ es) some =
      elim (eq_by_cmp key_cmp x e.0) as (λ b. eq_by_cmp key_cmp x e.0 ≡ b
      → cond b (Some e.1) (find key_cmp x es) ≢ None → above_among x (e ∷ es) < above_among j (e ∷ es)) [
        | true ↦ λ tied _. let first = own e.0 tied in let others = none_more es in omega (arith, first, others)
        | false ↦ λ _ there. let first = head e.0 in let others = fewer es there in omega (arith, first, others)
      ] refl some

  none_more_in : (c : Contents) → above_in x c ≤ above_in j c
  none_more_in None = omega arith
  none_more_in (Some filled) = none_more (entries filled.changes)

  fewer_in : (c : Contents) → change_at c x ≢ None → above_in x c < above_in j c
  fewer_in None some = absurd (some refl)
  fewer_in (Some filled) some =
      fewer (entries filled.changes) (λ none. some (get-entries filled.changes x ∙ none))

  none_more_of : (files : List Contents) → count_above x files ≤ count_above j files
  none_more_of [] = omega arith
  none_more_of (c ∷ cs) = let first = none_more_in c in let others = none_more_of cs in omega (arith, first, others)

  fewer_by : (c : Contents) (cs : List Contents) (o : Option Change) → change_at c x ≡ o
      → first_of (prepended o (changes_of cs x)) ≢ None
      → (first_of (changes_of cs x) ≢ None → count_above x cs < count_above j cs)
      → count_above x (c ∷ cs) < count_above j (c ∷ cs)
  fewer_by c cs None is some later =
      let first = none_more_in c in let others = later some in omega (arith, first, others)
  fewer_by c cs (Some change) is some later =
      let first = fewer_in c (λ none. absurd (cc (is, none))) in
      let others = none_more_of cs in omega (arith, first, others)

  pub fewer_above : (files : List Contents) → first_of (changes_of files x) ≢ None
      → count_above x files < count_above j files
  unfolding changes_of
  fewer_above [] some = absurd (some refl)
  fewer_above (c ∷ cs) some = fewer_by c cs (change_at c x) refl some (fewer_above cs)

-- the key of a text is the one whose text it is
pub key_of_text : (text : List ℕ) (k : LedgerKey) → IsKeyText text k → key_at text ≡ k
key_of_text text k h =
    ap (λ (t : List ℕ). key_read (ledger_key.read (start_of t))) (h.encoded ∙ sym (append-nil (ledger_key.encoding k)))
    ∙ ap (λ (r : Reading XdrFault LedgerKey). key_read r) (ledger_key_laws.lawful.again 0 k [] h.within h.sized)
