-- The first levels represent the first entries, and are well marked: one file has them, as new entries.
use Rattle.sample_laws.proofs.Prelude.{◌≡◌, ℕ, cond, List, [], ◌∷◌, map, Option, Some, None, refl, sym, ap, ◌∙◌}
use Rattle.sample_laws.proofs.Prelude.{range_with_len, Less, Equal, Greater, is_eq, get, get-from_entries, find}
use Rattle.sample_laws.proofs.Prelude.{LedgerKey, key_of, key_cmp, keys_total, ledger_entry, new_account, first_changes}
use Rattle.sample_laws.proofs.Prelude.{first_bucket, levels_with, keyed_entry, entries_of, first_entries}
use Rattle.sample_ledger.specs.bucket_core.Bucket.{Change, Init, Live, Dead}
use Rattle.sample_ledger.specs.bucket_levels.Meaning.{changes_of, files_of, prepended, entry_by}
use Rattle.sample_ledger.specs.bucket_levels.Meaning.{AreMarkedWell, Represent, AreWellMarked}
use Rattle.sample_ledger.specs.Image as image

-- what the files say of a key is what the first one says
said_first : (seed : ℕ) (k : LedgerKey)
    → changes_of (files_of (levels_with (first_bucket seed))) k ≡ prepended (get (first_changes seed) k) []
unfolding changes_of
said_first seed k = refl

-- ---- marks

marked_alone : (said : Option Change) → AreMarkedWell (prepended said [])
unfolding AreMarkedWell
marked_alone None = tt
marked_alone (Some (Init entry)) = (tt, tt)
marked_alone (Some (Live entry)) = (tt, tt)
marked_alone (Some Dead) = (tt, tt)

pub first_marks : (seed : ℕ) → AreWellMarked (levels_with (first_bucket seed))
unfolding changes_of
first_marks seed = record { marks = λ k. marked_alone (get (first_changes seed) k); deepest = refl }

-- ---- entries

found_alike : (seed : ℕ) (accounts : List ℕ) (k : LedgerKey) → find key_cmp k (map (keyed_entry seed) accounts)
    ≡ entry_by (prepended (find key_cmp k (map (new_account seed) accounts)) [])
found_alike seed [] k = refl
found_alike seed (a ∷ others) k =
    let e = ledger_entry seed a in
    elim (key_cmp k (key_of e)) as (λ r. cond (is_eq r) (Some e) (find key_cmp k (map (keyed_entry seed) others))
    ≡ entry_by (prepended (cond (is_eq r) (Some (Init e)) (find key_cmp k (map (new_account seed) others))) [])) [
      | Less ↦ found_alike seed others k
      | Equal ↦ refl
      | Greater ↦ found_alike seed others k
    ]

pub first_represent : (seed : ℕ) → Represent (levels_with (first_bucket seed)) (first_entries seed)
unfolding entries_of image.changes_of
first_represent seed k =
    get-from_entries keys_total (map (keyed_entry seed) (range_with_len 0 9)) k
    ∙ found_alike seed (range_with_len 0 9) k
    ∙ ap (λ (said : Option Change). entry_by (prepended said []))
    (sym (get-from_entries keys_total (map (new_account seed) (range_with_len 0 9)) k))
    ∙ ap entry_by (sym (said_first seed k))
