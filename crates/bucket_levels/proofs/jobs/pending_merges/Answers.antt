use Rattle.bucket_levels.proofs.Prelude.{◌+◌, List, map, sym, subst, pair_of, nothing_pending, IsUndrawn, AreUndrawn}
use Rattle.bucket_levels.proofs.Prelude.{PendingMerge}
use Rattle.bucket_levels.proofs.Planning.{one_more_level}
use Rattle.bucket_levels.proofs.jobs.pending_merges.Goals as goal

pub loop-level-preserved : goal.loop-level-preserved
loop-level-preserved c =
    let pairs = map pair_of c.args.pairs.now in
    subst (λ (merges : List PendingMerge). AreUndrawn pairs c.args.seq (c.loop-level.level + 1) merges)
    (sym c.in_ok-push.ensures.items)
    (one_more_level nothing_pending (IsUndrawn pairs c.args.seq) c.loop-level.level c.loop-level.merges.items
    c.in_ok-pending_merge.field-0 c.loop-level.invariant c.in_ok-pending_merge.ensures)
