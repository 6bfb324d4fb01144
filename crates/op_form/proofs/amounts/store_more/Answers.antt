use Rattle.op_form.proofs.Prelude.{◌≡◌, sym, subst, arith, ints, to_z-of_z, ◌+ℤ◌, IsLineInRange}
use mir.Syntax.{w64}
use mir.Val.{to_z, of_z}
use Rattle.op_form.proofs.Balances.{line_more_in_range}
use Rattle.op_form.proofs.amounts.store_more.Goals as goal

pub store_in_range-requires-clause-in_range : goal.store_in_range-requires-clause-in_range
store_in_range-requires-clause-in_range g c =
    let t = c.args.slot.line in
    let balance : to_z w64 (of_z w64 c.more-slot.result) ≡ (t.balance +ℤ c.args.amount) =
    search (arith, ints, to_z-of_z, c.more-slot.ensures) in
    subst (λ n. IsLineInRange (record t { balance = n })) (sym balance)
    (line_more_in_range t c.args.amount c.requires.in_range c.requires.amount c.requires.room)
