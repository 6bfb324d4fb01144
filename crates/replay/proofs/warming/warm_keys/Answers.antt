use Rattle.replay.proofs.Warmed.{partly_warmed}
use Rattle.replay.proofs.warming.warm_keys.Goals as goal

pub returns-then-keys-lt-KEY_LIMIT-clause-pages : goal.returns-then-keys-lt-KEY_LIMIT-clause-pages
returns-then-keys-lt-KEY_LIMIT-clause-pages c =
    partly_warmed c.args.keys.now c.args.ledger.now.caches c.warm-passed_over.new.self.caches c.warm-passed_over.result
    c.warm-passed_over.ensures.pages
