-- The first file is that of a bucket, and short.
use Rattle.sample_laws.proofs.Prelude as prelude
use prelude.{◌≡◌, ℕ, zero, suc, ◌-◌, ◌*◌, ◌<◌, ◌≤◌, List, [], ◌∷◌, ◌++◌, length, map, replicate, Some, None, refl, sym}
use prelude.{ap, subst, ◌∙◌, arith, add-one, length-append, AllByRecursion, flat_map, Less, Equal, Greater, entries}
use prelude.{by_order, AccountId, LedgerEntry, account_cmp, HasFile, file_of, empty_pair, account_id, ledger_entry}
use prelude.{changes_of, first_bucket, levels_with, item_encodable, item_record_short, meta_record_short}
use Rattle.sample_ledger.specs.shared_tree.Rows.{changed}
use Rattle.sample_ledger.specs.Rows.{as_change}
use Rattle.std.proofs.lemmas.List.Sums.{sum_by-cons}
use Rattle.sample_ledger.specs.ledger_types.declared.bucket.BucketEntry.TheVariants as item
use Rattle.account_laws.specs.bucket_items.MarkedItem.{record_of, IsEncodable}
use Rattle.sample_ledger.specs.bucket_levels.Size.{file_total, pair_size}
use Rattle.sample_ledger.proofs.Rows.{Row, init_record, next_row, no_changes, has_file, file_is}

-- ---- the accounts in the order of their ids

-- the last ones first
row_of : (seed done : ℕ) → Row
row_of seed zero = []
row_of seed (suc done) =
    changed account_cmp (account_id seed (9 - 1 - done)) (Some (ledger_entry seed (9 - 1 - done))) (row_of seed done)

row_is : (seed done : ℕ) → done ≤ 9 → map as_change (row_of seed done) ≡ entries (changes_of seed (9 - done) done)
unfolding row_of changes_of
row_is seed zero below = sym (no_changes seed 9)
row_is seed (suc done) below =
    subst (λ (n : ℕ). map as_change (row_of seed (suc done)) ≡ entries (changes_of seed (9 - n) n)) (add-one done)
    (next_row seed done (row_of seed done) (row_of seed (suc done)) (omega (arith, below))
    (row_is seed done (omega (arith, below))) refl)

-- ---- what holds of each of them

IsOfEach : (LedgerEntry → Type 0) → Row → Type 0
IsOfEach P row = AllByRecursion (λ (x : AccountId × LedgerEntry). P x.1) row

one_more : (P : LedgerEntry → Type 0) (id : AccountId) (e : LedgerEntry) (row : Row) → P e → IsOfEach P row
    → IsOfEach P (changed account_cmp id (Some e) row)
unfolding IsOfEach
one_more P id e [] one all = (one, tt)
one_more P id e (x ∷ xs) one all =
    elim (account_cmp x.0 id) as (λ r. IsOfEach P
    (by_order r (x ∷ changed account_cmp id (Some e) xs) ((id, e) ∷ xs) ((id, e) ∷ x ∷ xs))) [
      | Less ↦ (all.0, one_more P id e xs one all.1)
      | Equal ↦ (one, all.1)
      | Greater ↦ (one, all)
    ]

each_in : (P : LedgerEntry → Type 0) (seed done : ℕ) → ((a : ℕ) → a < 9 → P (ledger_entry seed a))
    → IsOfEach P (row_of seed done)
unfolding IsOfEach row_of
each_in P seed zero all = tt
each_in P seed (suc done) all =
    one_more P (account_id seed (9 - 1 - done)) (ledger_entry seed (9 - 1 - done)) (row_of seed done)
    (all (9 - 1 - done) (omega arith)) (each_in P seed done all)

longer_by_one : (id : AccountId) (e : LedgerEntry) (row : Row)
    → length (changed account_cmp id (Some e) row) ≤ suc (length row)
longer_by_one id e [] = omega arith
longer_by_one id e (x ∷ xs) =
    elim (account_cmp x.0 id) as (λ r. length
    (by_order r (x ∷ changed account_cmp id (Some e) xs) ((id, e) ∷ xs) ((id, e) ∷ x ∷ xs))
    ≤ suc (suc (length xs))) [
      | Less ↦ omega (arith, longer_by_one id e xs)
      | Equal ↦ omega arith
      | Greater ↦ omega arith
    ]

row_len : (seed done : ℕ) → length (row_of seed done) ≤ done
unfolding row_of
row_len seed zero = omega arith
row_len seed (suc done) =
    omega (
      arith,
      row_len seed done,
      longer_by_one (account_id seed (9 - 1 - done)) (ledger_entry seed (9 - 1 - done)) (row_of seed done),
    )

-- ---- the file

pub first_has_file : (seed : ℕ) → HasFile (first_bucket seed)
unfolding IsOfEach
first_has_file seed =
    has_file seed (row_of seed 9) (row_is seed 9 (omega arith))
    (each_in (λ e. IsEncodable (item.Init e)) seed 9 (λ a below. item_encodable seed a below))

IsRecordShort : LedgerEntry → Type 0
IsRecordShort e = length (init_record e) ≤ 152

records_len : (row : Row) → IsOfEach IsRecordShort row
    → length (flat_map (λ (x : AccountId × LedgerEntry). init_record x.1) row) ≤ 152 * length row
unfolding IsOfEach IsRecordShort
records_len [] all = omega arith
records_len (x ∷ xs) all =
    omega (
      arith,
      all.0,
      records_len xs all.1,
      length-append (init_record x.1) (flat_map (λ (y : AccountId × LedgerEntry). init_record y.1) xs),
    )

first_file_len : (seed : ℕ) → length (file_of (first_bucket seed)) ≤ 2000
unfolding IsRecordShort
first_file_len seed =
    let row = row_of seed 9 in
    let after = flat_map (λ (x : AccountId × LedgerEntry). init_record x.1) row in
    let is : length (file_of (first_bucket seed)) ≡ length (record_of (item.Meta 18) ++ after) =
    ap (λ (bytes : List ℕ). length bytes) (file_is seed row (row_is seed 9 (omega arith))) in
    omega (
      arith,
      is,
      length-append (record_of (item.Meta 18)) after,
      meta_record_short,
      records_len row (each_in IsRecordShort seed 9 (λ a below. item_record_short seed a below)),
      row_len seed 9,
    )

pub first_files_len : (seed : ℕ) → file_total (levels_with (first_bucket seed)) ≤ 2000
unfolding file_total
first_files_len seed =
    omega (
      arith,
      first_file_len seed,
      sum_by-cons pair_size (record { curr = first_bucket seed; snap = None }) (replicate 10 empty_pair),
    )
