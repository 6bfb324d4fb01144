-- Maps whose entries agree at each key, but for the ledgers of their last changes, have the same sums.
use Rattle.close_laws.proofs.Prelude.{◌≡◌, ℕ, refl, sym, ap, subst, ◌∙◌, Bool, true, false, inl, inr, ◌&&◌, T, cond, []}
use Rattle.close_laws.proofs.Prelude.{◌∷◌, Option, Some, None, ◌+ℤ◌, is_lt, eq_by_cmp, get, entries, entries_sorted}
use Rattle.close_laws.proofs.Prelude.{from_sorted, entries-from_sorted, get-from_sorted, get-entries, same_map}
use Rattle.close_laws.proofs.Prelude.{LedgerEntry, LedgerKey, key_cmp, keys_total, keys_exact, EntryMap, parts_of}
use Rattle.close_laws.proofs.Prelude.{Weight, sum_over, total, stamped, IsNextAt, AreNextEntries}
use Rattle.std.specs.FinMap.Entries.{find, is_sorted, below_all}
use Rattle.close_rules.proofs.entry_sums_proofs.Lists.{Pairs}

-- ---- alike

-- the same entry, but for the ledger of its last change
abbrev pub AreAlike : Option LedgerEntry → Option LedgerEntry → Type 0
AreAlike None None = Unit {0}
AreAlike (Some a) (Some b) = parts_of a ≡ parts_of b
AreAlike a b = ⊥

abbrev pub AreMapsAlike : EntryMap → EntryMap → Type 0
AreMapsAlike m n = (k : LedgerKey) → AreAlike (get m k) (get n k)

alike_next : (seq : ℕ) (before worked after : Option LedgerEntry) → IsNextAt seq before worked after
    → AreAlike worked after
alike_next seq None None after is = subst (AreAlike None) (sym is) tt
alike_next seq (Some was) None after is = subst (AreAlike None) (sym is) tt
alike_next seq None (Some e) after is = subst (AreAlike (Some e)) (sym is) refl
alike_next seq (Some was) (Some e) after is =
    elim is [
      | inl h ↦ subst (AreAlike (Some e)) (sym h.1) (sym h.0)
      | inr h ↦ subst (AreAlike (Some e)) (sym h.1) refl
    ]

-- the entries after a close are those that its transactions left
pub next_alike : (seq : ℕ) (before worked after : EntryMap) → AreNextEntries seq before worked after
    → AreMapsAlike worked after
next_alike seq before worked after next k =
    alike_next seq (get before k) (get worked k) (get after k) (next.each k)

-- what exists after existed before
pub existed : (was now : Option LedgerEntry) (e : LedgerEntry) → AreAlike was now → now ≡ Some e
    → (x : LedgerEntry) × (was ≡ Some x) × (parts_of x ≡ parts_of e)
existed None None e alike is = absurd (none_is is)
  where
    none_is : None ≡ Some e → ⊥
    none_is h = absurd (cc)
existed (Some a) (Some b) e alike is = (a, refl, alike ∙ ap parts_of (some_is is))
  where
    some_is : Some b ≡ Some e → b ≡ e
    some_is h = cc
existed None (Some b) e alike is = absurd alike
existed (Some a) None e alike is = absurd alike

-- ---- entries without the ledgers of their last changes

abbrev pub unmarked : LedgerEntry → LedgerEntry
unmarked e = stamped 0 e

abbrev unmarked_in : Option LedgerEntry → Option LedgerEntry
unmarked_in None = None
unmarked_in (Some e) = Some (unmarked e)

abbrev unmarked_all : Pairs → Pairs
unmarked_all [] = []
unmarked_all (p ∷ ps) = (p.0, unmarked p.1) ∷ unmarked_all ps

below_unmarked : (k : LedgerKey) (ps : Pairs) → below_all key_cmp k (unmarked_all ps) ≡ below_all key_cmp k ps
below_unmarked k [] = refl
below_unmarked k (p ∷ ps) = ap (λ b. is_lt (key_cmp k p.0) && b) (below_unmarked k ps)

sorted_unmarked : (ps : Pairs) → is_sorted key_cmp (unmarked_all ps) ≡ is_sorted key_cmp ps
sorted_unmarked [] = refl
sorted_unmarked (p ∷ ps) =
    ap (λ b. b && is_sorted key_cmp (unmarked_all ps)) (below_unmarked p.0 ps)
    ∙ ap (λ b. below_all key_cmp p.0 ps && b) (sorted_unmarked ps)

either_unmarked : (b : Bool) (e : LedgerEntry) (o : Option LedgerEntry)
    → cond b (Some (unmarked e)) (unmarked_in o) ≡ unmarked_in (cond b (Some e) o)
either_unmarked b e o = elim b as (λ b. cond b (Some (unmarked e)) (unmarked_in o) ≡ unmarked_in (cond b (Some e) o))
    [ true ↦ refl | false ↦ refl ]

find_unmarked : (k : LedgerKey) (ps : Pairs) → find key_cmp k (unmarked_all ps) ≡ unmarked_in (find key_cmp k ps)
find_unmarked k [] = refl
find_unmarked k (p ∷ ps) =
    ap (cond (eq_by_cmp key_cmp k p.0) (Some (unmarked p.1))) (find_unmarked k ps)
    ∙ either_unmarked (eq_by_cmp key_cmp k p.0) p.1 (find key_cmp k ps)

-- a weight of the body and the extension alone
abbrev pub IsByParts : Weight → Type 0
IsByParts f = (e : LedgerEntry) → f (unmarked e) ≡ f e

sum_unmarked : (f : Weight) → IsByParts f → (ps : Pairs) → sum_over f (unmarked_all ps) ≡ sum_over f ps
sum_unmarked f same [] = refl
sum_unmarked f same (p ∷ ps) =
    ap (λ n. n +ℤ sum_over f (unmarked_all ps)) (same p.1) ∙ ap (λ n. f p.1 +ℤ n) (sum_unmarked f same ps)

-- the map, whose entries have no such ledgers
unmarked_map : EntryMap → EntryMap
unmarked_map m = from_sorted (unmarked_all (entries m))

are_sorted : (m : EntryMap) → T (is_sorted key_cmp (unmarked_all (entries m)))
are_sorted m = subst T (sym (sorted_unmarked (entries m))) (entries_sorted m)

get_unmarked : (m : EntryMap) (k : LedgerKey) → get (unmarked_map m) k ≡ unmarked_in (get m k)
unfolding unmarked_map
get_unmarked m k = get-from_sorted key_cmp (unmarked_all (entries m)) k (are_sorted m)
    ∙ find_unmarked k (entries m) ∙ ap unmarked_in (sym (get-entries m k))

total_unmarked : (f : Weight) (m : EntryMap) → IsByParts f → total f (unmarked_map m) ≡ total f m
unfolding unmarked_map total
total_unmarked f m same =
    ap (sum_over f) (entries-from_sorted key_cmp (unmarked_all (entries m)) (are_sorted m))
    ∙ sum_unmarked f same (entries m)

same_unmarked : (a b : Option LedgerEntry) → AreAlike a b → unmarked_in a ≡ unmarked_in b
same_unmarked None None alike = refl
same_unmarked (Some a) (Some b) alike =
    λ i. Some (record { last_modified_ledger_seq = 0; body = (alike i).0; ext = (alike i).1 })
same_unmarked None (Some b) alike = absurd alike
same_unmarked (Some a) None alike = absurd alike

same_map_unmarked : (m n : EntryMap) → AreMapsAlike m n → unmarked_map m ≡ unmarked_map n
same_map_unmarked m n alike = same_map keys_total keys_exact _ _
    (λ k. get_unmarked m k ∙ same_unmarked (get m k) (get n k) (alike k) ∙ sym (get_unmarked n k))

-- such maps have the same sums
pub total_alike : (f : Weight) (m n : EntryMap) → AreMapsAlike m n → IsByParts f → total f m ≡ total f n
total_alike f m n alike same =
    sym (total_unmarked f m same) ∙ ap (total f) (same_map_unmarked m n alike) ∙ total_unmarked f n same
