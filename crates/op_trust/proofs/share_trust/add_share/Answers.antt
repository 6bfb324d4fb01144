use Rattle.op_trust.proofs.Prelude.{◌≡◌, ◌+◌, sym, ap, subst, ◌∙◌, rules, w64, to_z, of_z, LedgerEntry}
use Rattle.op_trust.proofs.Prelude.{map_after_adding, IsReady, DoShareLinesFit, map_with_pool}
use Rattle.std.proofs.Common.{pos}
use Rattle.op_trust.proofs.Counts.{with_pool_fits, still_ready, with_line_fits}
use Rattle.op_trust.proofs.share_trust.add_share.Goals as goal

pub add_entry-requires : goal.add_entry-requires
add_entry-requires g c =
    let id = c.args.ctx.now.op_source in
    let pool = c.args.pool.now in
    let params = c.args.params.now in
    let m = c.args.entries.now.current in
    let seq = c.args.ctx.now.seq + 1 in
    let now : c.put_pool.new.entries.current ≡ map_with_pool seq pool params m = search rules in
    c.new_share_line.ensures.ready c.put_pool.new.entries.current
    (subst (λ x. IsReady x id) (sym now) (still_ready seq pool params m id (c.requires.ready.ready id)))

pub count_share_lines-requires : goal.count_share_lines-requires
count_share_lines-requires g c =
    let ctx = c.args.ctx.now in
    let id = ctx.op_source in
    let pool = c.args.pool.now in
    let params = c.args.params.now in
    let m = c.args.entries.now.current in
    let seq = ctx.seq + 1 in
    let with_pool = c.put_pool.new.entries.current in
    let now : with_pool ≡ map_with_pool seq pool params m = search rules in
    let fits = subst (DoShareLinesFit (pos 1) id pool params) (sym now) (with_pool_fits seq pool params m id
    c.requires.counts) in
    with_line_fits ctx seq id pool (to_z w64 (of_z w64 c.args.limit)) with_pool fits.keyed params
    c.add_entry.new.entries.current
    (ap (λ (e : LedgerEntry). map_after_adding ctx id e with_pool) (sym c.new_share_line.ensures.value)
    ∙ c.in-Ok.ensures.outcome.0) fits
