use Rattle.replay.proofs.Prelude.{List, ℕ, ◌∙◌, Ok, Err, refl, subst, ClosingState, IsClose, FaultIs}
use Rattle.replay.proofs.SampleSteps.{one_more, bytes_next}
use Rattle.worker_merges.specs.ledger_close.States.{close_of}
use Rattle.replay.proofs.sample.close_next.Goals as goal

pub returns-in-Ok-prepare : goal.returns-in-Ok-prepare
returns-in-Ok-prepare g c =
    let was : ClosingState = c.args.sampled.now.ledger.state in
    let now = c.take_close.new.sampled in
    let are = bytes_next c.args.seed c.args.closed was c.in-Ok.bytes.items c.in-Ok.ensures.are in
    let closes = subst (λ (bytes : List ℕ). IsClose was bytes (Ok (close_of c.in-Ok-prepare.prepared)))
    (c.as_slice.ensures.value ∙ are) c.in-Ok-prepare.ensures.answers in
    let took = c.take_close.ensures in
    one_more c.args.seed c.args.closed was now.ledger.state c.args.sampled.now.transactions c.args.sampled.now.successes
    now.transactions now.successes
    (close_of c.in-Ok-prepare.prepared) c.requires.reached closes took.state took.transactions
    took.successes took.fits took.success_fits

pub returns : goal.returns
returns g c =
    let was : ClosingState = c.args.sampled.now.ledger.state in
    let are = bytes_next c.args.seed c.args.closed was c.in-Ok.bytes.items c.in-Ok.ensures.are in (
      refl,
      subst (λ (bytes : List ℕ). FaultIs c.in-Err.fault (λ fault. IsClose was bytes (Err fault)))
          (c.as_slice.ensures.value ∙ are) c.in-Err.ensures.answers,
    )
