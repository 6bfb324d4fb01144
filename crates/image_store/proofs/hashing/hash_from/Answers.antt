use Rattle.image_store.proofs.Prelude.{◌≡◌, subst, ◌∙◌, ap, ℕ, ◌+◌, List, ◌++◌, length, take, drop, arith, Disk}
use Rattle.sha2.specs.Hashers.{Holds256}
use Rattle.gate_journal.proofs.Staying.{stays_more}
use Rattle.image_store.proofs.Hashed.{taken_more}
use Rattle.image_store.proofs.hashing.hash_from.Goals as goal

pub loop-done-preserved : goal.loop-done-preserved
loop-done-preserved g c =
    let before = c.loop-done.invariant in
    let old : Disk = g.V.Volume.disk c.args.vol.now in
    let file : List ℕ = old.reads c.args.file in
    let count : ℕ = c.next_count-count.result in
    record {
      within = omega arith;
      holds = λ reported.
          let size : length c.read_exact.new.buf ≡ count = omega (
            arith,
            c.read_exact.auto.buf,
            c.split_at_mut-piece.ensures.front_len,
          ) in
          let piece : c.read_exact.new.buf ≡ take count (drop (c.args.at + c.loop-done.done) file) =
          c.in_ok-read_exact.ensures.bytes reported
          ∙ (λ i. take (size i) (drop (c.args.at + c.loop-done.done) (before.stays.reads i c.args.file))) in
          subst (Holds256 c.update.new.self)
          (ap (λ (l : List ℕ). take c.loop-done.done (drop c.args.at file) ++ l) piece
          ∙ taken_more file c.args.at c.loop-done.done count)
          (c.update.ensures (take c.loop-done.done (drop c.args.at file)) (before.holds reported));
      stays = stays_more old (g.V.Volume.disk c.loop-done.vol) (g.V.Volume.disk c.read_exact.new.vol) before.stays
          c.read_exact.ensures.stays;
      later = omega (arith, before.later, c.read_exact.ensures.cause.later);
    }
