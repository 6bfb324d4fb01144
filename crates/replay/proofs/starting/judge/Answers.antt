use Rattle.replay.proofs.Prelude.{◌≡◌, Ok, subst, Hash, network_id_of, IsJudged}
use Rattle.replay.proofs.starting.judge.Goals as goal

pub returns-in-Ok-from_image : goal.returns-in-Ok-from_image
returns-in-Ok-from_image c =
    let e : c.in-Ok.network ≡ network_id_of c.args.passphrase.now = (cc c.in-Ok.ensures) in
    subst (λ (n : Hash). IsJudged n c.args.image (Ok c.in-Ok-from_image.ledger.state)) e
    c.in-Ok-from_image.ensures.judges
