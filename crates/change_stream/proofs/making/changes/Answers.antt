use Rattle.change_stream.proofs.Prelude.{AreChangesOf, AreSorted, IsKeyedFor, subst}
use Rattle.std.proofs.lemmas.Result.{IfOk-weaker}
use Rattle.change_stream.proofs.Made.{changes_made, gathered}
use Rattle.change_stream.proofs.making.changes.Goals as goal

pub returns : goal.returns
returns g c =
    let base = g.B.Base.entries c.args.base.now in
    let batch = c.args.batch.now in
    let all = gathered base batch c.new-keyed.result.items c.add_creations.new.keyed.items
    c.add_updates.new.keyed.items c.add_removals.new.keyed.items c.as_slice.result.now c.as_slice-2.result.now
    c.as_slice-3.result.now c.new-keyed.ensures.items c.as_slice.ensures c.as_slice-2.ensures c.as_slice-3.ensures
    c.in_ok-add_creations.ensures c.in_ok-add_updates.ensures.items c.in_ok-add_removals.ensures.items in
    let live = subst (IsKeyedFor base) c.as_slice-2.ensures c.in_ok-add_updates.ensures.keyed in
    let dead = subst (IsKeyedFor base) c.as_slice-3.ensures c.in_ok-add_removals.ensures.keyed in
    IfOk-weaker c.sorted_changes.result (λ v. AreSorted c.add_removals.new.keyed.items v.items)
    (λ v. AreChangesOf base batch v.items)
    (λ v s. changes_made base batch c.requires live dead v.items (subst (λ l. AreSorted l v.items) all s))
    c.sorted_changes.ensures
