use Rattle.bucket_levels.proofs.Prelude.{◌+◌, List, Option, None, map, sym, subst, Job, pair_of, IsBegun, AreBegun}
use Rattle.bucket_levels.proofs.Planning.{one_more_level}
use Rattle.bucket_levels.proofs.jobs.begun_jobs.Goals as goal

pub loop-level-preserved : goal.loop-level-preserved
loop-level-preserved c =
    let pairs = map pair_of c.args.pairs.now in
    subst (λ (jobs : List (Option Job)). AreBegun pairs c.args.seq (c.loop-level.level + 1) jobs)
    (sym c.in_ok-push.ensures.items)
    (one_more_level None (IsBegun pairs c.args.seq) c.loop-level.level c.loop-level.jobs.items
    c.in_ok-begun_job.field-0 c.loop-level.invariant c.in_ok-begun_job.ensures)
