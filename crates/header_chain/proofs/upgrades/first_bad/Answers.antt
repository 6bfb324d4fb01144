use Rattle.header_chain.proofs.Prelude.{length, map, ap, ◌∙◌, rules, length-map, upgrade_in, is_bad_at}
use Rattle.header_chain.proofs.Asked.{not_bad, next_type, within_map}
use Rattle.header_chain.proofs.upgrades.first_bad.Goals as goal
use Rattle.header_chain.proofs.Indices.{index_from_next}

pub loop-i-preserved : goal.loop-i-preserved
loop-i-preserved c =
    let texts = c.args.upgrades.now in
    let reads = c.upgrade_in-asked.ensures ∙ ap upgrade_in c.as_slice.ensures in (
      c.loop-i.invariant.0
          ∙ index_from_next (is_bad_at (map upgrade_in texts)) (length (map upgrade_in texts)) c.loop-i.i
          (within_map texts c.loop-i.i (length (map upgrade_in texts)) c.loop-i-test.true (length-map texts upgrade_in))
          (not_bad texts c.loop-i.i c.index-upgrades-i.result c.loop-i.before c.upgrade_in-asked.result
          c.is_bad_after.result c.loop-i-test.true c.index-upgrades-i.is c.loop-i.invariant.1 reads
          c.is_bad_after.ensures c.if-is_bad_after.false),
      next_type texts c.loop-i.i c.index-upgrades-i.result c.upgrade_in-asked.result c.type_at-before.result
          c.loop-i-test.true c.index-upgrades-i.is reads c.type_at-before.ensures,
      search rules,
    )
