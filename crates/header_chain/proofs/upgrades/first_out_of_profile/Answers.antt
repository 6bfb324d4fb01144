use Rattle.header_chain.proofs.Prelude.{length, map, ap, ◌∙◌, rules, length-map, slice_get, upgrade_in}
use Rattle.header_chain.proofs.Prelude.{is_out_of_profile}
use Rattle.header_chain.proofs.Asked.{not_out, within_map}
use Rattle.header_chain.proofs.upgrades.first_out_of_profile.Goals as goal
use Rattle.header_chain.proofs.Indices.{index_from_next}

pub loop-i-preserved : goal.loop-i-preserved
loop-i-preserved c =
    let texts = c.args.upgrades.now in (
      c.loop-i.invariant.0
          ∙ index_from_next (λ i. is_out_of_profile c.args.header.now (slice_get (map upgrade_in texts) i))
          (length (map upgrade_in texts)) c.loop-i.i
          (within_map texts c.loop-i.i (length (map upgrade_in texts)) c.loop-i-test.true (length-map texts upgrade_in))
          (not_out c.args.header.now texts c.loop-i.i c.index-upgrades-i.result c.upgrade_in.result
          c.is_out_of_profile.result c.loop-i-test.true c.index-upgrades-i.is
          (c.upgrade_in.ensures ∙ ap upgrade_in c.as_slice.ensures) c.is_out_of_profile.ensures
          c.if-is_out_of_profile.false),
      search rules,
    )
