use Rattle.op_trust.proofs.Prelude.{◌≡◌, false, rules, needed_line, is_used_fully_at, is_held_fully, pool_at}
use Rattle.op_trust.proofs.Counts.{one_more}
use Rattle.op_trust.proofs.share_trust.make_share.Goals as goal

pub add_share-requires-clause-counts : goal.add_share-requires-clause-counts
add_share-requires-clause-counts g c =
    let id = c.args.ctx.now.op_source in
    let pool = c.args.pool.now in
    let params = c.args.params.now in
    let m = c.args.entries.now.current in
    let first : is_used_fully_at m (needed_line id params.asset_a) ≡ false = search rules in
    let second : is_used_fully_at m (needed_line id params.asset_b) ≡ false = search rules in
    let third : is_held_fully (pool_at m pool) ≡ false = search rules in
    one_more params id pool m c.requires.sound c.requires.params first second third
