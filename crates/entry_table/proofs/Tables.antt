-- The rows of tables.
use Rattle.entry_table.proofs.Prelude as prelude
use prelude.{◌≡◌, Bool, true, false, cond, List, [], ◌∷◌, Option, Some, None, IfSome, map, refl, sym, ap, subst, ◌∙◌}
use prelude.{◌++◌, length, take, drop, All, Less, is_lt, eq_by_cmp}
use prelude.{get, entries, from_entries, entries-from_sorted, get-from_sorted, get-from_entries}
use prelude.{same_map, find, below_all, All-head, All-tail, LedgerKey, LedgerEntry, key_cmp, key_of}
use prelude.{keys_total, keys_exact, EntryMap, IsKeyed, AreRising, map_of, with_key, AreOwn}
use prelude.{IsTableRow, same_keys}
use Rattle.entry_table.proofs.Walks.{both, is_less, Sorted, Above}

take_prefix : {X Y : Type 0} (f : X → Y) (xs : List X) (zs : List Y) → take (length xs) (map f xs ++ zs) ≡ map f xs
take_prefix f [] zs = refl
take_prefix f (x ∷ xs) zs = ap (λ r. f x ∷ r) (take_prefix f xs zs)

-- what is written back to an entire list is all of it
pub prefix_is : {X : Type 0} (f : X → X) (old new : List X) → new ≡ map f old
    → take (length old) (new ++ drop (length new) old) ≡ map f old
prefix_is f old new is =
    ap (λ r. take (length old) (r ++ drop (length new) old)) is ∙ take_prefix f old (drop (length new) old)

above_keys : (k : LedgerKey) (es : List LedgerEntry) → All (λ q. key_cmp k q ≡ Less) (map key_of es)
    → Above k (map with_key es)
above_keys k [] h = tt
above_keys k (e ∷ es) h =
    both (is_lt (key_cmp k (key_of e))) (below_all key_cmp k (map with_key es))
    (is_less (key_cmp k (key_of e)) (All-head (λ q. key_cmp k q ≡ Less) (key_of e) (map key_of es) h))
    (above_keys k es (All-tail (λ q. key_cmp k q ≡ Less) (key_of e) (map key_of es) h))

pub sorted_keys : (es : List LedgerEntry) → AreRising (map key_of es) → Sorted (map with_key es)
sorted_keys [] h = tt
sorted_keys (e ∷ es) h = both _ _ (above_keys (key_of e) es h.0) (sorted_keys es h.1)

pub own_keys : (es : List LedgerEntry) → AreOwn (map with_key es)
own_keys [] = tt
own_keys (e ∷ es) = (refl, own_keys es)

pub row_made : (es : List LedgerEntry) → AreRising (map key_of es) → IsTableRow (map with_key es)
row_made es h = record { rises = sorted_keys es h; own = own_keys es }

pub map_made : (row : List (LedgerKey × LedgerEntry)) → Sorted row → map_of row ≡ from_entries row
map_made row s = same_map keys_total keys_exact _ _
    (λ q. get-from_sorted key_cmp row q s ∙ sym (get-from_entries keys_total row q))

pub entries_of : (row : List (LedgerKey × LedgerEntry)) (m : EntryMap) → Sorted row → map_of row ≡ m → entries m ≡ row
entries_of row m s is = ap (λ n. entries n) (sym is) ∙ entries-from_sorted key_cmp row s

-- ---- each under its own key

own_at : (x : LedgerKey × LedgerEntry) (k : LedgerKey) (e : LedgerEntry) (others : Option LedgerEntry)
    → key_of x.1 ≡ x.0
    → (others ≡ Some e → key_of e ≡ k) → (b : Bool) → eq_by_cmp key_cmp k x.0 ≡ b → cond b (Some x.1) others ≡ Some e
    → key_of e ≡ k
own_at x k e others own later true tied is =
    let same : x.1 ≡ e = cc in ap key_of (sym same) ∙ own ∙ sym (same_keys k x.0 tied)
own_at x k e others own later false tied is = later is

pub own_found : (row : List (LedgerKey × LedgerEntry)) → AreOwn row → (k : LedgerKey) (e : LedgerEntry)
    → find key_cmp k row ≡ Some e → key_of e ≡ k
own_found [] own k e h = absurd (cc)
own_found (x ∷ xs) own k e h =
    own_at x k e (find key_cmp k xs) own.0 (λ g. own_found xs own.1 k e g) (eq_by_cmp key_cmp k x.0) refl h

pub get_in : (row : List (LedgerKey × LedgerEntry)) (m : EntryMap) (k : LedgerKey) → IsTableRow row → map_of row ≡ m
    → find key_cmp k row ≡ get m k
get_in row m k t is = sym (get-from_sorted key_cmp row k t.rises) ∙ ap (λ n. get n k) is

pub keyed_row : (row : List (LedgerKey × LedgerEntry)) (m : EntryMap) → IsTableRow row → map_of row ≡ m → IsKeyed m
keyed_row row m t is k =
    subst (λ o. IfSome o (λ e. key_of e ≡ k)) (get_in row m k t is)
    (elim (find key_cmp k row) as (λ o. find key_cmp k row ≡ o → IfSome o (λ e. key_of e ≡ k)) [
      | None ↦ λ e. tt
      | Some v ↦ λ e. own_found row t.own k v e
    ] refl)
