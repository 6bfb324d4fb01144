use Rattle.bucket_levels.proofs.Prelude.{◌+◌, ◌≤◌, map, pair_of, work_above, ArePlanned}
use Rattle.bucket_levels.proofs.levels.Levels.plan_batch.Given as goal

abbrev pub invariant-loop-level : goal.invariant-loop-level
invariant-loop-level g l = record {
  planned : ArePlanned l.seq l.fresh.value l.self.pairs l.level (map pair_of l.pairs.items);
  most : l.steps ≤ l.initial.steps + work_above l.seq l.fresh.value l.self l.level;
}
