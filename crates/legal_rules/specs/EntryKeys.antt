-- Numbers that are for the entry under one key.
use Rattle.std.specs.Prelude.{ℕ, ℤ, pos, Bool, Option, Some, None, if◌then◌else◌}
use Rattle.std.specs.Option.{option_map}
use Rattle.std.specs.Ordering.{eq_by_cmp}
use Rattle.hash_ids.specs.ledger_types.declared.ids.AccountId.{AccountId}
use Rattle.hash_ids.specs.ledger_types.declared.key.LedgerKey.{LedgerKey}
use Rattle.hash_ids.specs.ledger_types.declared.key.LedgerKey.TheVariants as key
use Rattle.hash_ids.specs.ledger_types.KeyOrder.{key_cmp}

abbrev pub is_key : LedgerKey → LedgerKey → Bool
is_key a b = eq_by_cmp key_cmp a b

-- n for the entry under a key, where that is the one named
abbrev pub for_key : LedgerKey → Option LedgerKey → ℤ → ℤ
for_key k None n = pos 0
for_key k (Some named) n = if is_key named k then n else pos 0

-- n for an account, where that is under the key
abbrev pub for_account : LedgerKey → Option AccountId → ℕ → ℤ
for_account k id n = for_key k (option_map key.Account id) (pos n)
