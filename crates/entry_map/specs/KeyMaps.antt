-- Finite maps under the keys of entries.
use Rattle.std.specs.Prelude.{◌≡◌, ◌≢◌, ◌↔◌, true, Some, None, List, [], ◌∷◌, All, Contains}
use Rattle.std.specs.declared.cmp.Ordering.TheVariants.{Less, Greater}
use Rattle.std.specs.FinMap.{FinMap, get, contains_key}
use Rattle.ledger_types.specs.declared.key.LedgerKey.{LedgerKey}
use Rattle.ledger_types.specs.KeyOrder.{key_cmp}

abbrev pub KeyedMap : Type 0 → Type 0
KeyedMap V = FinMap key_cmp V

-- no key above k has a value
abbrev pub NoneAbove : {V : Type 0} → KeyedMap V → LedgerKey → Type 0
NoneAbove m k = (q : LedgerKey) → key_cmp k q ≡ Less → get m q ≡ None

-- least is the least key above k that has a value, and v is its value
pub record IsLeastAt {V : Type 0} (m : KeyedMap V) (k least : LedgerKey) (v : V) : Type 0 where
  pub there : get m least ≡ Some v
  pub above : key_cmp k least ≡ Less
  pub least_of : (q : LedgerKey) → key_cmp k q ≡ Less → get m q ≢ None → key_cmp least q ≢ Greater

-- each key is above those before it
abbrev pub AreRising : List LedgerKey → Type 0
AreRising [] = Unit {0}
AreRising (k ∷ ks) = All (λ q. key_cmp k q ≡ Less) ks × AreRising ks

-- ks are the keys that have a value, in their order
pub record AreKeysOf {V : Type 0} (m : KeyedMap V) (ks : List LedgerKey) : Type 0 where
  pub rises : AreRising ks
  pub all : (q : LedgerKey) → Contains ks q ↔ (contains_key m q ≡ true)
