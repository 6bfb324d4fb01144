-- The map that files of levels represent is theirs alone.
use Rattle.std.proofs.Common.{◌≡◌, true, false, cond, List, [], ◌∷◌, Option, Some, None, map, refl, sym, ap, subst, ◌∙◌}
use Rattle.std.specs.FinMap.{entries, get, get-empty, get-entries, get-insert, get-remove, same_map}
use Rattle.std.specs.FinMap.Entries.{find}
use Rattle.std.specs.Ordering.{eq_by_cmp}
use Rattle.ledger_types.specs.declared.key.LedgerKey.{LedgerKey}
use Rattle.ledger_types.specs.declared.entry.LedgerEntry.{LedgerEntry}
use Rattle.ledger_types.specs.KeyOrder.{key_cmp}
use Rattle.ledger_types.proofs.KeyOrdering.{keys_total, keys_exact}
use Rattle.entry_map.specs.EntryMap.{EntryMap}
use Rattle.bucket_core.specs.Bucket.{Change, Init, Live, Dead, Contents, change_at}
use Rattle.bucket_levels.specs.declared.pair.LevelPair.{LevelPair}
use Rattle.bucket_levels.specs.Levels.{pair_of}
use Rattle.bucket_levels.specs.Pairs.{Pair}
use Rattle.bucket_levels.specs.Meaning.{changes_of, prepended, entry_after, entry_by, files_of, Represent}
use Rattle.bucket_levels.specs.Meaning.{changed, all_changed, entries_in, entries_of}

-- what a change leaves where there is one
abbrev left : Option Change → Option LedgerEntry → Option LedgerEntry
left None before = before
left (Some c) before = entry_after c

get_changed : (m : EntryMap) (k : LedgerKey) (c : Change) (q : LedgerKey)
    → get (changed m (k, c)) q ≡ cond (eq_by_cmp key_cmp q k) (entry_after c) (get m q)
get_changed m k (Init e) q = get-insert keys_total m k e q
get_changed m k (Live e) q = get-insert keys_total m k e q
get_changed m k Dead q = get-remove keys_total m k q

get_all_changed : (m : EntryMap) (xs : List (LedgerKey × Change)) (q : LedgerKey)
    → get (all_changed m xs) q ≡ left (find key_cmp q xs) (get m q)
get_all_changed m [] q = refl
get_all_changed m (x ∷ xs) q =
    get_changed (all_changed m xs) x.0 x.1 q
    ∙ ap (cond (eq_by_cmp key_cmp q x.0) (entry_after x.1)) (get_all_changed m xs q)
    ∙ elim (eq_by_cmp key_cmp q x.0) as (λ b. cond b (entry_after x.1) (left (find key_cmp q xs) (get m q))
    ≡ left (cond b (Some x.1) (find key_cmp q xs)) (get m q)) [
      | true ↦ refl
      | false ↦ refl
    ]

newest_left : (o : Option Change) (older : List Change) → left o (entry_by older) ≡ entry_by (prepended o older)
newest_left None older = refl
newest_left (Some c) older = refl

entries_are : (files : List Contents) (q : LedgerKey) → get (entries_in files) q ≡ entry_by (changes_of files q)
unfolding entries_in changes_of
entries_are [] q = get-empty key_cmp q
entries_are (None ∷ older) q = entries_are older q
entries_are (Some filled ∷ older) q =
    get_all_changed (entries_in older) (entries filled.changes) q
    ∙ ap (λ (o : Option Change). left o (get (entries_in older) q)) (sym (get-entries filled.changes q))
    ∙ ap (left (change_at (Some filled) q)) (entries_are older q)
    ∙ newest_left (change_at (Some filled) q) (changes_of older q)

pub represented : (pairs : List Pair) → Represent pairs (entries_of pairs)
represented pairs = entries_are (files_of pairs)

-- files represent one map
pub one_map : (pairs : List Pair) (m : EntryMap) → Represent pairs m → entries_of pairs ≡ m
one_map pairs m h = same_map keys_total keys_exact (entries_of pairs) m (λ k. represented pairs k ∙ sym (h k))

-- the map of some files is represented by the same ones elsewhere
pub represents_view : (pairs kept : List LevelPair) (m : EntryMap) → pairs ≡ kept → entries_of (map pair_of kept) ≡ m
    → Represent (map pair_of pairs) m
represents_view pairs kept m same is =
    subst (λ (n : EntryMap). Represent (map pair_of pairs) n)
    (ap (λ (ps : List LevelPair). entries_of (map pair_of ps)) same ∙ is) (represented (map pair_of pairs))
