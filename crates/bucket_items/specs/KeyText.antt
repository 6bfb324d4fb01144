-- The text of a key (LedgerKey in Stellar-ledger-entries.x, over RFC 4506).
use Rattle.std.specs.Prelude.{◌≡◌, ◌++◌, ℕ, ℤ, pos, List}
use Rattle.std.specs.declared.cmp.Ordering.{Ordering}
use Rattle.ledger_types.specs.declared.key.LedgerKey.{LedgerKey}
use Rattle.ledger_types.specs.declared.key.LedgerKey.TheVariants as key
use Rattle.ledger_types.specs.KeyOrder.{key_cmp}
use Rattle.xdr_entries.specs.Keys.{ledger_key}

-- these bytes are the encoding of the key, and nothing else
pub record IsKeyText (text : List ℕ) (k : LedgerKey) : Type 0 where
  pub encoded : text ≡ ledger_key.encoding k
  pub within : ledger_key.within k
  pub sized : ledger_key.sized k

-- the encoding of the key is a prefix of these bytes
pub record BeginsWithKey (text : List ℕ) (k : LedgerKey) : Type 0 where
  pub tail : List ℕ
  pub parts : text ≡ ledger_key.encoding k ++ tail
  pub within : ledger_key.within k
  pub sized : ledger_key.sized k

-- two texts that begin with keys compare as the keys do; nothing is said of other texts
abbrev pub OrdersPrefixes : List ℕ → List ℕ → Ordering → Type 0
OrdersPrefixes a b answer = (k m : LedgerKey) → BeginsWithKey a k → BeginsWithKey b m → answer ≡ key_cmp k m

-- two texts of keys compare as the keys do; nothing is said of other texts
abbrev pub OrdersKeys : List ℕ → List ℕ → Ordering → Type 0
OrdersKeys a b answer = (k m : LedgerKey) → IsKeyText a k → IsKeyText b m → answer ≡ key_cmp k m

-- two numbers that aren't negative
abbrev pub HaveNoSign : ℤ → ℤ → Type 0
HaveNoSign (pos n) (pos m) = Unit {0}
HaveNoSign n m = ⊥

-- two keys whose encodings are in the keys' order, byte by byte: not two offers of which one has a negative id, nor two
-- names, whose lengths come first
abbrev pub AreByBytes : LedgerKey → LedgerKey → Type 0
AreByBytes (key.Offer a n) (key.Offer b m) = HaveNoSign n m
AreByBytes (key.Data a n) (key.Data b m) = ⊥
AreByBytes a b = Unit {0}
