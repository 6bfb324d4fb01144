use Rattle.entry_map.proofs.Prelude.{◌≡◌, ◌||◌, list_any, eq_by_cmp, contains_key, LedgerKey, key_cmp}
use Rattle.entry_map.proofs.key_map.KeyMap.add_keys_to.Given as goal

-- with the keys that are left, all are there
abbrev pub invariant-loop-key : goal.invariant-loop-key
invariant-loop-key g l = (q : LedgerKey)
    → (contains_key l.keys q || list_any (eq_by_cmp key_cmp q) l.key-iterator)
    ≡ (contains_key l.initial.keys q || contains_key l.self q)
