use Rattle.archive_files.proofs.Prelude.{IsWalkedTo}
use Rattle.archive_files.proofs.chain.walk.Given as goal

abbrev pub invariant-loop-header : goal.invariant-loop-header
invariant-loop-header l = IsWalkedTo l.fn.sets l.fn.results l.fn.first l.fn.before l.headers l.header-index l.want
    l.last l.sets_ahead.rest.now l.results_ahead.rest.now
