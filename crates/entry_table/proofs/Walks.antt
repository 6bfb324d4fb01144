-- Rows in the order of entries' keys.
use Rattle.entry_table.proofs.Prelude.{◌≡◌, true, T, List, None, eq_by_cmp, find, is_sorted, below_all}
use Rattle.entry_table.proofs.Prelude.{LedgerKey, key_cmp, keys_total, none_above, Equal-is}
pub use Rattle.shared_tree.proofs.Parts.{both, first, second, less, is_less}

abbrev pub Sorted : {X : Type 0} → List (LedgerKey × X) → Type 0
Sorted row = T (is_sorted key_cmp row)

abbrev pub Above : {X : Type 0} → LedgerKey → List (LedgerKey × X) → Type 0
Above k row = T (below_all key_cmp k row)

-- nothing is found under a key that is below all
pub none_found : {X : Type 0} (q k : LedgerKey) (row : List (LedgerKey × X)) → eq_by_cmp key_cmp q k ≡ true
    → Above k row → find key_cmp q row ≡ None
none_found q k row e h = none_above keys_total q k row ((Equal-is (key_cmp q k)).0 e) h
