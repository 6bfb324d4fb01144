-- Keys without an encoding, and the keys with one that are above them.
use Rattle.std.specs.Prelude.{◌≡◌, ◌<◌, ◌↔◌, ℕ, List, length}
use Rattle.std.specs.declared.cmp.Ordering.TheVariants.{Less}
use Rattle.ledger_types.specs.declared.ids.AccountId.{AccountId}
use Rattle.ledger_types.specs.declared.key.LedgerKey.{LedgerKey}
use Rattle.ledger_types.specs.declared.key.LedgerKey.TheVariants as key
use Rattle.ledger_types.specs.KeyOrder.{key_cmp}
use Rattle.xdr_entries.specs.Keys.{ledger_key}
use Rattle.bucket_items.specs.KeyText.{IsKeyText}
use Rattle.bucket_core.specs.Encoded.{IsEncoded}

-- the key of data under a name that is longer than 64 bytes, the most that an encoding has
pub record HasLongName (k : LedgerKey) (account : AccountId) (name : List ℕ) : Type 0 where
  pub key : k ≡ key.Data account name
  pub long : 64 < length name

-- the keys with an encoding that are above one are those above the other
abbrev pub HaveSameAbove : LedgerKey → LedgerKey → Type 0
HaveSameAbove k m = (q : LedgerKey) → IsEncoded ledger_key q → (key_cmp k q ≡ Less) ↔ (key_cmp m q ≡ Less)

-- the encoding of a key that the same keys with an encoding are above
pub record IsBoundText (text : List ℕ) (k : LedgerKey) : Type 0 where
  pub bound : LedgerKey
  pub is : IsKeyText text bound
  pub same : HaveSameAbove k bound
