-- The last key that is asked for.
use Rattle.std.specs.Prelude.{ℕ, ⊤, Bool, false, List, Option, Some, None}
use Rattle.std.specs.Ordering.{is_gt}
use Rattle.ledger_types.specs.declared.key.LedgerKey.{LedgerKey}
use Rattle.ledger_types.specs.KeyOrder.{key_cmp}
use Rattle.bucket_items.specs.KeyText.{IsKeyText}

-- a text is that of a key, where there are both
abbrev pub IsTextOf : Option (List ℕ) → Option LedgerKey → Type 0
IsTextOf None None = ⊤
IsTextOf None (Some k) = ⊥
IsTextOf (Some text) None = ⊥
IsTextOf (Some text) (Some k) = IsKeyText text k

-- whether a key is above the last one
abbrev pub is_behind : LedgerKey → Option LedgerKey → Bool
is_behind k None = false
is_behind k (Some last) = is_gt (key_cmp k last)
