use Rattle.ledger_close.proofs.Prelude.{◌≡◌, map, take, pair_of}
use Rattle.ledger_close.proofs.view.share_pairs.Given as goal

-- the files of the levels so far
abbrev pub invariant-loop-level : goal.invariant-loop-level
invariant-loop-level l = map pair_of l.pairs.items ≡ take l.level l.fn.levels.pairs
