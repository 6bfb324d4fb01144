use Rattle.op_trust.proofs.Prelude.{◌≡◌, ◌∙◌, ap, false, rules, line_of_slot, pool_at, is_taken}
use Rattle.ledger_types.specs.declared.asset.TrustLineAsset.TheVariants as asset
use Rattle.op_trust.proofs.Counts.{one_less}
use Rattle.op_trust.proofs.share_trust.change_share_trust.Goals as goal

pub change_share-requires-clause-in_range : goal.change_share-requires-clause-in_range
change_share-requires-clause-in_range g c =
    c.requires.in_range.lines c.args.ctx.now.op_source (asset.PoolShare c.in_ok-pool.pool) c.in-Some.slot.line
    (c.in_ok-slot.ensures.line ∙ ap line_of_slot c.in-Some.is)

pub change_share-requires-clause-counted : goal.change_share-requires-clause-counted
change_share-requires-clause-counted g c =
    let params = c.args.params.now in
    let pool = c.in_ok-pool.pool in
    let m = c.args.entries.now.current in
    let free : is_taken params (pool_at m pool) ≡ false = search rules in
    one_less params c.args.ctx.now.op_source pool m c.in-Some.slot.line c.requires.sound
    (c.in_ok-slot.ensures.line ∙ ap line_of_slot c.in-Some.is) free
