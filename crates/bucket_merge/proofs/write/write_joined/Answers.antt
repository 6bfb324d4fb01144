use Rattle.bucket_merge.proofs.Prelude.{◌∙◌, sym}
use Rattle.bucket_core.specs.ledger_types.declared.bucket.BucketEntry.TheVariants as bucket
use Rattle.bucket_merge.specs.declared.joining.Joining.TheVariants as give
use Rattle.bucket_merge.proofs.Writing.{states_init, states_live}
use Rattle.bucket_merge.proofs.write.write_joined.Goals as goal
use Rattle.bucket_merge.proofs.Writing.{joining_gives}

pub put_live-requires : goal.put_live-requires
put_live-requires c =
    let r = c.requires in
    let g = joining_gives give.NewerAsLive r.1 r.2 r.0 c.args.older.now c.args.newer.now r.3 r.4
    (sym c.joining_of.ensures ∙ c.in-NewerAsLive.is) in
    let t = states_init c.args.newer.now r.0 r.2 g.0 r.4 g.2 in
    (g.0, t.shown, t.encoded)

pub put_init-requires : goal.put_init-requires
put_init-requires c =
    let r = c.requires in
    let g = joining_gives give.NewerAsInit r.1 r.2 r.0 c.args.older.now c.args.newer.now r.3 r.4
    (sym c.joining_of.ensures ∙ c.in-NewerAsInit.is) in
    let t = states_live c.args.newer.now r.0 r.2 g.1 r.4 g.3 in
    (g.1, t.shown, t.encoded)
