use Rattle.level_entries.proofs.Prelude.{List, sym, subst, BucketEntry, LedgerKey, MayAllFollow}
use Rattle.level_entries.proofs.overlay.put_over.Goals as goal

pub returns-then-not-may_all_follow : goal.returns-then-not-may_all_follow
returns-then-not-may_all_follow c all =
    cc (
      c.may_all_follow.ensures.1
          (subst (λ (r : List (LedgerKey × BucketEntry)). MayAllFollow r c.as_slice-2.result.now)
          (sym c.as_slice.ensures.value)
          (subst (λ (r : List (LedgerKey × BucketEntry)). MayAllFollow c.args.row.items r)
          (sym c.as_slice-2.ensures.value) all)),
      c.if-not-may_all_follow.true,
    )
