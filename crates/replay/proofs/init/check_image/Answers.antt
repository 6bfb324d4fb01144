use Rattle.replay.proofs.Prelude.{Ok, Err, subst, StartImage, network_id_of, IsJudgedSo}
use Rattle.replay.proofs.init.check_image.Goals as goal

pub returns-in-Ok-judge : goal.returns-in-Ok-judge
returns-in-Ok-judge c =
    let s = c.in-Ok-judge._ledger in (
      s.state,
      subst (λ (i : StartImage). IsJudgedSo (network_id_of c.args.passphrase.now) i (Ok s)) c.in-Ok.ensures
          c.in-Ok-judge.ensures,
    )

pub returns-in-Err : goal.returns-in-Err
returns-in-Err c =
    subst (λ (i : StartImage). IsJudgedSo (network_id_of c.args.passphrase.now) i (Err c.in-Err.end)) c.in-Ok.ensures
    c.in-Err.ensures
