use Rattle.offer_exchange.proofs.Prelude.{bounds_of}
use Rattle.offer_exchange.proofs.Within.{table_within}
use Rattle.offer_exchange.proofs.table.table.Goals as goal

pub returns-then-wheat_stays-clause-within : goal.returns-then-wheat_stays-clause-within
returns-then-wheat_stays-clause-within c = table_within c.args.rounding c.args.n c.args.d (bounds_of c.args.bounds)
    c.requires.price.some_n c.requires.price.some_d

pub returns-else-wheat_stays-clause-within : goal.returns-else-wheat_stays-clause-within
returns-else-wheat_stays-clause-within c = table_within c.args.rounding c.args.n c.args.d (bounds_of c.args.bounds)
    c.requires.price.some_n c.requires.price.some_d
