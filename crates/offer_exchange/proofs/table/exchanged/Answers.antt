use Rattle.offer_exchange.proofs.Prelude.{bounds_of}
use Rattle.offer_exchange.proofs.Within.{exchanged_within}
use Rattle.offer_exchange.proofs.table.exchanged.Goals as goal

pub returns-clause-within : goal.returns-clause-within
returns-clause-within c = exchanged_within c.args.rounding c.args.n c.args.d (bounds_of c.args.bounds)
    c.requires.price.some_n c.requires.price.some_d
