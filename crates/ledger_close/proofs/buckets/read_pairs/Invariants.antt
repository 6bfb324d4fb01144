use Rattle.ledger_close.proofs.Prelude.{◌≡◌, ◌*◌, drop, map, pair_of}
use Rattle.ledger_close.proofs.Files.{AreRead}
use Rattle.ledger_close.proofs.buckets.read_pairs.Given as goal

-- the levels so far, and the files after theirs
abbrev pub invariant-loop-level : goal.invariant-loop-level
invariant-loop-level l = record {
  read : AreRead l.fn.files.items (map pair_of l.pairs.items) l.level;
  left : l.files.items ≡ drop (2 * l.level) l.fn.files.items;
}
