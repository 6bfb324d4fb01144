use Rattle.op_form.proofs.Prelude.{subst, to_z-of_z, Gives, map_after_lumens_credit}
use Rattle.op_form.proofs.Balances.{lumens_taken}
use Rattle.op_form.proofs.amounts.credit_native.Goals as goal

pub credit_lumens-requires-clause-range : goal.credit_lumens-requires-clause-range
credit_lumens-requires-clause-range g c = c.requires.in_range.accounts.in_range c.args.id.now

pub returns-then-branch-clause-in_range : goal.returns-then-branch-clause-in_range
returns-then-branch-clause-in_range g c =
    let old = c.args.entries.now in
    let same = to_z-of_z _ c.args.amount c.ranges.amount in
    let taken : Gives c.in_ok-credit_lumens.field-0 old c.credit_lumens.new.entries
    (map_after_lumens_credit c.args.id.now c.args.amount old.current) =
    subst (λ n. Gives c.in_ok-credit_lumens.field-0 old c.credit_lumens.new.entries
    (map_after_lumens_credit c.args.id.now n old.current)) same (c.in_ok-credit_lumens.ensures.taken) in
    let given = subst (λ b. Gives b old c.credit_lumens.new.entries
    (map_after_lumens_credit c.args.id.now c.args.amount old.current)) c.if-branch.true taken in
    lumens_taken c.args.id.now c.args.amount old.current c.credit_lumens.new.entries.current given.0 c.requires.amount
    c.requires.in_range
