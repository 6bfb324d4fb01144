use Rattle.image_store.proofs.Prelude.{◌-◌, ◌≤◌, take, drop, Stays}
use Rattle.sha2.specs.Hashers.{Holds256}
use Rattle.image_store.proofs.hashing.hash_from.Given as goal

abbrev pub invariant-loop-done : goal.invariant-loop-done
invariant-loop-done g l = record {
  within : l.done ≤ l.len;
  holds : g.V.Volume.reports
      → Holds256 l.hasher (take l.done (drop l.at ((g.V.Volume.disk l.initial.vol).reads l.file)));
  stays : Stays (g.V.Volume.disk l.initial.vol) (g.V.Volume.disk l.vol);
  later : g.V.Volume.faults l.initial.vol ≤ g.V.Volume.faults l.vol;
}

abbrev pub decreases-loop-done : goal.decreases-loop-done
decreases-loop-done g l = l.len - l.done
