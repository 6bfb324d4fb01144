-- What is in the map of the first accounts: the entries that are made from their numbers, and their lumens.
use Rattle.sample_laws.proofs.Prelude as prelude
use prelude.{◌≡◌, ◌≢◌, ℕ, zero, suc, ◌+◌, ◌*◌, ◌<◌, ◌≤◌, cond, List, [], ◌∷◌, ◌++◌, length, map, take, get_or, Option}
use prelude.{Some, None, ℤ, pos, ◌+ℤ◌, refl, sym, ap, subst, ◌∙◌, arith, ints, AllByRecursion, range_with_len, Less}
use prelude.{Equal, Greater, is_eq, codes, get, get-from_entries, find, length-sha256, LedgerEntry, LedgerKey, key_of}
use prelude.{key_cmp, keys_total, keys_exact, EntryMap, put, account_at, account_of, HasAccount, sample_text, key_bytes}
use prelude.{account_id, account_entry, ledger_entry, keyed_entry, entries_of, first_entries}
use Rattle.std.proofs.lemmas.List.{length-take-le}
use Rattle.sha2.specs.Sha256.{sha256}
use Rattle.sample_ledger.specs.ledger_types.declared.asset.Asset.TheVariants as asset
use Rattle.sample_ledger.specs.ledger_types.declared.key.LedgerKey.TheVariants as key
use Rattle.legal_rules.specs.entry_sums.Sums.{EachEntry, part, total}
use Rattle.legal_rules.proofs.entry_sums_proofs.Summing.{total_put, total_none}
use Rattle.legal_rules.specs.Supply.{held}
use Rattle.legal_rules.proofs.entry_map_proofs.Lookups.{put_elsewhere, put_there}

-- ---- what holds of each

found : (P : LedgerKey → LedgerEntry → Type 0) (seed : ℕ) (accounts : List ℕ) (k : LedgerKey) (e : LedgerEntry)
    → AllByRecursion (λ a. P (key_of (ledger_entry seed a)) (ledger_entry seed a)) accounts
    → find key_cmp k (map (keyed_entry seed) accounts) ≡ Some e → P k e
found P seed [] k e all there = absurd (cc)
found P seed (a ∷ others) k e all there =
    let x = ledger_entry seed a in
    elim (key_cmp k (key_of x)) as (λ r. key_cmp k (key_of x) ≡ r
    → cond (is_eq r) (Some x) (find key_cmp k (map (keyed_entry seed) others)) ≡ Some e → P k e) [
      | Less ↦ λ p h. found P seed others k e all.1 h
      | Equal ↦ λ p h.
          let same : x ≡ e = cc in
          subst (P k) same (subst (λ (q : LedgerKey). P q x) (sym (keys_exact k (key_of x) p)) all.0)
      | Greater ↦ λ p h. found P seed others k e all.1 h
    ] refl there

each_number : (P : ℕ → Type 0) (from n : ℕ) → ((a : ℕ) → from ≤ a → a < from + n → P a)
    → AllByRecursion P (range_with_len from n)
each_number P from zero all = tt
each_number P from (suc n) all = (
  all from (omega arith) (omega arith),
  each_number P (from + 1) n (λ a low high. all a (omega (arith, low)) (omega (arith, high))),
)

-- of each entry under its key, where it holds of each that is made from a number
pub each_entry : (P : LedgerKey → LedgerEntry → Type 0) (seed from n : ℕ)
    → ((a : ℕ) → from ≤ a → a < from + n → P (key_of (ledger_entry seed a)) (ledger_entry seed a))
    → EachEntry P (entries_of seed from n)
unfolding entries_of
each_entry P seed from n all k e there =
    found P seed (range_with_len from n) k e
    (each_number (λ a. P (key_of (ledger_entry seed a)) (ledger_entry seed a)) from n all)
    (sym (get-from_entries keys_total (map (keyed_entry seed) (range_with_len from n)) k) ∙ there)

pub each_first : (P : LedgerKey → LedgerEntry → Type 0) (seed : ℕ)
    → ((a : ℕ) → a < 9 → P (key_of (ledger_entry seed a)) (ledger_entry seed a)) → EachEntry P (first_entries seed)
each_first P seed all = each_entry P seed 0 9 (λ a low high. all a high)

-- ---- numbers distinguish keys

last_item : (xs : List ℕ) (a n : ℕ) → length xs ≡ n → get_or (xs ++ a ∷ []) n 0 ≡ a
last_item [] a zero is = refl
last_item [] a (suc n) is = absurd (omega (arith, is))
last_item (x ∷ xs) a zero is = absurd (omega (arith, is))
last_item (x ∷ xs) a (suc n) is = last_item xs a n (omega (arith, is))

last_byte : (seed a : ℕ) → get_or (key_bytes seed a) 31 0 ≡ a
last_byte seed a =
    let digest = sha256 (sample_text (codes "account") (seed ∷ a ∷ [])) in
    let long : length digest ≡ 32 = length-sha256 _ in
    last_item (take 31 digest) a 31 (length-take-le 31 digest (omega (arith, long)))

id_bytes : LedgerKey → List ℕ
id_bytes (key.Account id) = id.0
id_bytes other = []

same_number : (seed a b : ℕ) → key_of (ledger_entry seed a) ≡ key_of (ledger_entry seed b) → a ≡ b
unfolding id_bytes
same_number seed a b same =
    sym (last_byte seed a) ∙ ap (λ (k : LedgerKey). get_or (id_bytes k) 31 0) same ∙ last_byte seed b

none_among : (seed a : ℕ) (accounts : List ℕ) → AllByRecursion (λ b. a ≢ b) accounts
    → find key_cmp (key_of (ledger_entry seed a)) (map (keyed_entry seed) accounts) ≡ None
none_among seed a [] all = refl
none_among seed a (b ∷ others) all =
    let k = key_of (ledger_entry seed a) in
    let x = ledger_entry seed b in
    elim (key_cmp k (key_of x)) as (λ r. key_cmp k (key_of x) ≡ r
    → cond (is_eq r) (Some x) (find key_cmp k (map (keyed_entry seed) others)) ≡ None) [
      | Less ↦ λ p. none_among seed a others all.1
      | Equal ↦ λ p. absurd (all.0 (same_number seed a b (keys_exact k (key_of x) p)))
      | Greater ↦ λ p. none_among seed a others all.1
    ] refl

later_numbers : (a from n : ℕ) → a < from → AllByRecursion (λ b. a ≢ b) (range_with_len from n)
later_numbers a from zero below = tt
later_numbers a from (suc n) below =
    ((λ same. omega (arith, same, below)), later_numbers a (from + 1) n (omega (arith, below)))

first_is_new : (seed from n : ℕ) → get (entries_of seed (from + 1) n) (key_of (ledger_entry seed from)) ≡ None
unfolding entries_of
first_is_new seed from n =
    get-from_entries keys_total (map (keyed_entry seed) (range_with_len (from + 1) n)) (key_of (ledger_entry seed from))
    ∙ none_among seed from (range_with_len (from + 1) n) (later_numbers from (from + 1) n (omega arith))

-- ---- lumens

one_more : (seed from n : ℕ)
    → entries_of seed from (suc n) ≡ put (entries_of seed (from + 1) n) (ledger_entry seed from)
unfolding entries_of
one_more seed from n = refl

more_lumens : (a b : ℤ) (n : ℕ) → (a +ℤ pos 0) ≡ (b +ℤ pos 1000000000000) → b ≡ pos (1000000000000 * n)
    → a ≡ pos (1000000000000 * suc n)
more_lumens a b n more before = omega (arith, ints, more, before)

lumens_of_all : (seed from n : ℕ) → total (held asset.Native) (entries_of seed from n) ≡ pos (1000000000000 * n)
lumens_of_all seed from zero =
    total_none (held asset.Native) (entries_of seed from 0)
    (each_entry (λ k e. held asset.Native e ≡ pos 0) seed from 0 (λ a low high. absurd (omega (arith, low, high))))
lumens_of_all seed from (suc n) =
    let m = entries_of seed (from + 1) n in
    let e = ledger_entry seed from in
    let more : (total (held asset.Native) (put m e) +ℤ pos 0) ≡ (total (held asset.Native) m +ℤ pos 1000000000000) =
    ap (λ (o : Option LedgerEntry). total (held asset.Native) (put m e) +ℤ part (held asset.Native) o)
    (sym (first_is_new seed from n)) ∙ total_put (held asset.Native) m e in
    ap (total (held asset.Native)) (one_more seed from n)
    ∙ more_lumens (total (held asset.Native) (put m e)) (total (held asset.Native) m) n more
    (lumens_of_all seed (from + 1) n)

pub first_lumens : (seed : ℕ) → total (held asset.Native) (first_entries seed) ≡ pos 9000000000000
first_lumens seed = lumens_of_all seed 0 9

-- ---- accounts

exists : (seed a from d n : ℕ) → a ≡ from + d → d < n
    → get (entries_of seed from n) (key_of (ledger_entry seed a)) ≡ Some (ledger_entry seed a)
exists seed a from d zero is below = absurd (omega (arith, below))
exists seed a from zero (suc n) is below =
    let same : from ≡ a = omega (arith, is) in
    subst (λ (b : ℕ). get (entries_of seed from (suc n)) (key_of (ledger_entry seed b)) ≡ Some (ledger_entry seed b))
    same
    (ap (λ (m : EntryMap). get m (key_of (ledger_entry seed from))) (one_more seed from n)
    ∙ put_there (entries_of seed (from + 1) n) (ledger_entry seed from))
exists seed a from (suc d) (suc n) is below =
    let k = key_of (ledger_entry seed a) in
    ap (λ (m : EntryMap). get m k) (one_more seed from n)
    ∙ put_elsewhere (entries_of seed (from + 1) n) (ledger_entry seed from) k
    (λ same. omega (arith, is, same_number seed a from same))
    ∙ exists seed a (from + 1) d n (omega (arith, is)) (omega (arith, below))

pub first_accounts : (seed account : ℕ) → account < 9 → HasAccount (first_entries seed) (account_id seed account)
unfolding account_at
first_accounts seed account below =
    (account_entry seed account, ap account_of (exists seed account 0 account 9 (omega arith) below))
