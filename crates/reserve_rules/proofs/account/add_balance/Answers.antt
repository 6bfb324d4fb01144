-- What `changed` says of the numbers that were passed on, said of the account.
use Rattle.reserve_rules.proofs.Prelude.{arith, ints}
use Rattle.reserve_rules.proofs.Changes.{refused_at}
use Rattle.reserve_rules.proofs.account.add_balance.Goals as goal

pub returns-in-Some-clause-refused : goal.returns-in-Some-clause-refused
returns-in-Some-clause-refused c = refused_at c.in-Some.ensures.refused (omega (arith, ints)) (omega (arith, ints))
    (omega (arith, ints))

pub returns-in-None-clause-refused : goal.returns-in-None-clause-refused
returns-in-None-clause-refused c = refused_at c.in-None.ensures.refused (omega (arith, ints)) (omega (arith, ints))
    (omega (arith, ints))
