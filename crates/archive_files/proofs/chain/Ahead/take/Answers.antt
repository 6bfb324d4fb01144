use Rattle.archive_files.proofs.Prelude.{arith, ◌∙◌}
use Rattle.archive_files.proofs.Walking.{none_here}
use Rattle.archive_files.proofs.chain.Ahead.take.Goals.{in-len1-up+then-first-seq, in_default}
use Rattle.archive_files.proofs.chain.Ahead.take.Goals as goal

pub returns-in_default-rest-2-clause-hash : goal.returns-in_default-rest-2-clause-hash
returns-in_default-rest-2-clause-hash c = elim c.if-self-lt1.branch [
  | in_default w ↦ absurd (omega (arith, w.in_default.len_below, c.in-len1-up-rest.len_at_least))
  | in-len1-up+then-first-seq w ↦
      none_here c.loop-self.self.rest.now c.args.seq _ c.loop-self.invariant.rising c.in-len1-up-rest.len_at_least
      w.if-first-seq.true c.if-first-seq-2.false
      ∙ c.loop-self.invariant.same c.args.seq (omega arith)
]
