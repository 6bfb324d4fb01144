use Rattle.entry_map.proofs.Prelude.{◌++◌, AreKeysOf}
use Rattle.entry_map.proofs.key_map.KeyMap.keys.Given as goal

-- the keys so far, which the others follow
abbrev pub invariant-loop-key : goal.invariant-loop-key
invariant-loop-key g l = AreKeysOf l.self (l.keys.items ++ l.key-iterator)
