use Rattle.tx_apply.proofs.Prelude.{◌≤◌, ◌-◌, length, drop, sym, ap, subst, rules, All-take, All-drop, EntryMap, Undo}
use Rattle.tx_apply.proofs.Prelude.{Ctx, Operation, IsFit, IsUnderway, CanDraw, done_at}
use Rattle.tx_apply.proofs.Drawing.{ids_after}
use Rattle.tx_apply.proofs.Lawful.{lawful_at}
use Rattle.tx_apply.proofs.running.+run.Goals as goal

pub run-requires : goal.run-requires
run-requires g t c =
    let ctx = c.args.ctx.now in
    let m = c.args.entries.now.current in
    let first = done_at ctx c.args.source.now c.args.index c.first-item.result m in
    let fits : IsFit c.first-item.result.body = search rules in
    let lawful = lawful_at c.transaction_laws.ensures.operations ctx c.args.source.now c.args.index
    c.first-item.result m fits c.requires.underway in
    let after = lawful.legal in
    let underway : IsUnderway c.apply_at.new.ctx c.apply_at.new.entries.current =
    subst (λ (x : Ctx). IsUnderway x c.apply_at.new.entries.current) (sym c.in_ok-answer-in-len1-up.ensures.ctx_is)
    (subst (λ (x : EntryMap). IsUnderway first.ctx x)
    (ap (λ (u : Undo). u.current) (sym c.in_ok-answer-in-len1-up.ensures.entries_are)) after) in
    let rest = All-take (λ (operation : Operation). IsFit operation.body) (length c.args.operations.now - 1)
    (drop 1 c.args.operations.now)
    (All-drop (λ (operation : Operation). IsFit operation.body) 1 c.args.operations.now c.requires.fit) in
    let some : 1 ≤ length c.args.operations.now = search rules in
    let ids : CanDraw (length c.args.operations.now - 1) c.apply_at.new.ctx.id_pool =
    subst (λ (x : Ctx). CanDraw (length c.args.operations.now - 1) x.id_pool)
    (sym c.in_ok-answer-in-len1-up.ensures.ctx_is)
    (ids_after (length c.args.operations.now) ctx.id_pool first.ctx.id_pool some lawful.ids c.requires.ids) in
    search (rules, underway, rest, ids)
