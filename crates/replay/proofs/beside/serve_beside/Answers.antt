use Rattle.replay.proofs.Prelude.{rules, All-same, HasEnded}
use Rattle.replay.proofs.beside.serve_beside.Goals as goal

pub returns-clause-ended : goal.returns-clause-ended
returns-clause-ended g c =
    All-same (HasEnded c.args.room.now) _ c.join_mut.new.f.3.now (search rules) c.join_mut.ensures.0.met.1.1
