-- Counts under keys, as far as 64 bits hold them.
use Rattle.std.specs.Prelude.{◌≡◌, ℕ, min, ℤ, pos, ◌+ℤ◌, unwrap_or}
use Rattle.std.specs.BTreeMap.{BTreeMap, get}
use Rattle.ledger_types.specs.declared.key.LedgerKey.{LedgerKey}
use Rattle.ledger_types.specs.KeyOrder.{key_cmp}

abbrev pub greatest_count : ℕ
greatest_count = 18446744073709551615

abbrev pub CountMap : Type 0
CountMap = BTreeMap LedgerKey ℕ

-- a key that isn't there counts 0
abbrev pub count_at : CountMap → LedgerKey → ℕ
count_at counts k = unwrap_or (get key_cmp counts k) 0

-- the count of a sum: the sum itself, or the greatest count where the sum passes that
pub record IsCountOf (n : ℕ) (sum : ℤ) : Type 0 where
  pub exact : ℕ
  pub is : sum ≡ pos exact
  pub capped : n ≡ min exact greatest_count

-- each count takes what a key has more
abbrev pub Adds : CountMap → CountMap → (LedgerKey → ℤ) → Type 0
Adds old new more =
    (k : LedgerKey) (sum : ℤ) → IsCountOf (count_at old k) sum → IsCountOf (count_at new k) (sum +ℤ more k)
