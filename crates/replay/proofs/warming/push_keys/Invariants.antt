use Rattle.std.proofs.Common.{◌≡◌, ◌++◌, map, take}
use Rattle.ledger_types.specs.Keys.{key_of}
use Rattle.replay.proofs.warming.push_keys.Given as goal

-- the keys of the entries so far
abbrev pub invariant-loop-entry : goal.invariant-loop-entry
invariant-loop-entry l = l.keys.items ≡ l.fn.keys.items ++ map key_of (take l.entry-index l.entries)
