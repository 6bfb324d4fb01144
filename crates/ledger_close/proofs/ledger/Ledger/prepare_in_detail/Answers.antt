use Rattle.ledger_close.proofs.Prelude.{arith, prepared_in}
use Rattle.ledger_close.proofs.Finishing.{answered}
use Rattle.ledger_close.proofs.Counting.{steps_of}
use Rattle.close_laws.proofs.FewOfRecords.{record_few}
use Rattle.ledger_close.proofs.ledger.Ledger.prepare_in_detail.Goals as goal

pub close-requires-clause-few : goal.close-requires-clause-few
close-requires-clause-few g c =
    record_few c.args.bytes.now c.in-Ok.closing (λ i. omega (arith, c.type_inv.bytes i)) c.in-Ok.ensures.0 c.requires

pub returns-clause-answers : goal.returns-clause-answers
returns-clause-answers g c =
    answered c.args.self.now.state c.args.bytes.now c.in-Ok.closing (prepared_in c.close.result)
    (λ i. omega (arith, c.type_inv.bytes i))
    c.in-Ok.ensures.0 c.close.ensures.closed

pub returns-clause-steps : goal.returns-clause-steps
returns-clause-steps g c =
    steps_of c.args.self.now c.args.bytes.now c.in-Ok.closing _ _ (λ i. omega (arith, c.type_inv.bytes i))
    c.in-Ok.ensures.0 c.close.ensures.steps
