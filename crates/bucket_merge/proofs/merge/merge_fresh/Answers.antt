use Rattle.bucket_merge.proofs.Prelude.{sym, subst, IsMerge}
use Rattle.bucket_merge.proofs.Merging.{pass_is_merge}
use Rattle.bucket_merge.proofs.merge.merge_fresh.Goals as goal

pub returns-clause-merge : goal.returns-clause-merge
returns-clause-merge g c =
    subst (IsMerge 0 c.args.curr.now c.args.fresh.now) (sym c.in_ok-bucket.ensures.merge)
    (pass_is_merge 0 c.args.curr.now c.args.fresh.now)
