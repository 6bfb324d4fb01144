use Rattle.entry_map.proofs.Prelude.{◌≡◌, sym, subst, IfSome, on_ok_weaker, key_of, under, under_one}
use Rattle.entry_map.proofs.Batches.{noted}
use Rattle.entry_map.proofs.changes.note_at.Goals as goal

pub returns : goal.returns
returns g c = on_ok_weaker c.note.result
    (noted (g.B.Base.entries c.args.base.now) (under_one (under
    (g.B.Base.entries c.args.base.now) c.args.lower.now) c.args.top.now) c.args.key
    c.in_ok-before.before c.in_ok-after.after c.args.batch.now c.note.new.batch
    c.in_ok-before.ensures.found c.in_ok-after.ensures.found
    (subst (λ o. IfSome o (λ e. key_of e ≡ c.args.key)) (sym c.in_ok-before.ensures.found)
    (c.in_ok-before.ensures.keyed c.args.key)) c.in_ok-after.ensures.keyed)
    c.note.ensures
