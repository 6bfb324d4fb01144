use Rattle.worker_merges.proofs.Prelude.{◌≡◌, IsCollectorIn, collector_parts, collected_by, empty_looks_of, Adopts}
use Rattle.worker_merges.proofs.adopting.adopt.Given as goal

abbrev pub invariant-loop : goal.invariant-loop
invariant-loop g l = record {
  room : IsCollectorIn l.room l.collector;
  parts : collector_parts l.collector ≡ collector_parts l.initial.collector;
  looks : empty_looks_of l.collector ≡ empty_looks_of l.initial.collector;
  state : l.ledger.state ≡ l.initial.ledger.state;
  caches : l.ledger.caches ≡ l.initial.ledger.caches;
  adopts : Adopts (collected_by l.initial.collector) (collected_by l.collector) l.initial.ledger l.ledger;
}
