-- What a key is looked up by in files.
use Rattle.std.specs.Prelude.{◌≡◌, Option, Some, None}
use Rattle.ledger_types.specs.declared.key.LedgerKey.{LedgerKey}
use Rattle.bucket_items.specs.KeyText.{IsKeyText}
use Rattle.bucket_core.specs.Encoded.{IsEncoded}
use Rattle.bucket_core.specs.Filter.{fingerprint}
use Rattle.bucket_core.specs.xdr_entries.Keys.{ledger_key}
use Rattle.page_cache.specs.declared.sought.SoughtKey.{SoughtKey}

-- the text of a key with its fingerprint, or none where the key has no encoding
abbrev pub IsSought : LedgerKey → Option SoughtKey → Type 0
IsSought k None = IsEncoded ledger_key k → ⊥
IsSought k (Some sought) = IsKeyText sought.text.items k × (sought.fingerprint ≡ fingerprint sought.text.items)
