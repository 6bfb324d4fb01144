use Rattle.op_offers.proofs.Prelude.{◌≡◌, sym, subst, true, false, Some, rules, pos, int_eq, offer_slot_at, IsManaging}
use Rattle.op_offers.proofs.Loaded.{removed_is, changed_is}
use Rattle.op_offers.proofs.manage.manage_old.Goals as goal

pub returns-then-ask-eq0 : goal.returns-then-ask-eq0
returns-then-ask-eq0 g c =
    let found : Some c.in-Some.old ≡ offer_slot_at c.args.entries.now.current c.args.ctx.now.op_source
    c.args.ask.now.offer_id = search rules in
    let zero : int_eq c.args.ask.now.amount (pos 0) ≡ true = search rules in
    subst (IsManaging c.args.ctx.now c.remove.result c.args.entries.now c.remove.new.entries)
    (sym (removed_is c.args.ctx.now c.args.ask.now c.in-Some.old c.args.entries.now.current found zero))
    c.remove.ensures

pub returns : goal.returns
returns g c =
    let found : Some c.in-Some.old ≡ offer_slot_at c.args.entries.now.current c.args.ctx.now.op_source
    c.args.ask.now.offer_id = search rules in
    let some : int_eq c.args.ask.now.amount (pos 0) ≡ false = search rules in
    subst (IsManaging c.args.ctx.now c.change.result c.args.entries.now c.change.new.entries)
    (sym (changed_is c.args.ctx.now c.args.ask.now c.in-Some.old c.args.entries.now.current found some))
    c.change.ensures
