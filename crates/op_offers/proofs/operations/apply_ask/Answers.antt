use Rattle.op_offers.proofs.Prelude.{Ok, rules, opened, IsManaging, managed, answer_of}
use Rattle.op_offers.proofs.Applied.{saved_is, kept_does}
use Rattle.op_offers.proofs.operations.apply_ask.Goals as goal

pub commit-requires : goal.commit-requires
commit-requires g c =
    let old = opened c.args.entries.now in
    let did : IsManaging c.args.ctx.now (Ok c.in-Ok.managed) old c.manage.new.entries
    (managed c.args.ctx.now c.args.ask.now c.args.entries.now.current) = search rules in
    let same = saved_is c.args.ctx.now c.in-Ok.managed old c.manage.new.entries _ did in
    λ none. absurd (cc)

pub returns-in_ok-commit-in-Ok : goal.returns-in_ok-commit-in-Ok
returns-in_ok-commit-in-Ok g c =
    let old = opened c.args.entries.now in
    let did : IsManaging c.args.ctx.now (Ok c.in-Ok.managed) old c.manage.new.entries
    (managed c.args.ctx.now c.args.ask.now c.args.entries.now.current) = search rules in
    let does = kept_does c.args.ctx.now (answer_of c.args.kind) c.in-Ok.managed c.args.entries.now
    c.manage.new.entries (managed c.args.ctx.now c.args.ask.now c.args.entries.now.current) did in
    search (rules, does)
