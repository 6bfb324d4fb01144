use Rattle.gate_journal.proofs.Prelude.{◌≡◌, ℕ, ◌+◌, length, take, drop, refl, sym, ◌∙◌, ap, arith, length-append}
use Rattle.gate_journal.proofs.Prelude.{take_all, Image}
use Rattle.gate_journal.proofs.Staying.{stays_none, stays_more}
use Rattle.gate_journal.proofs.Pieces.{read_more}
use Rattle.gate_journal.proofs.reading.read_exact.Goals as goal

pub loop-done-init : goal.loop-done-init
loop-done-init g c = record {
  within = omega arith;
  bytes = λ reported. refl;
  stays =
      stays_none (g.V.Volume.disk c.args.vol.now);
  later = omega arith;
}

pub read_at-requires-clause-within : goal.read_at-requires-clause-within
read_at-requires-clause-within g c = λ reported.
    let asked = c.requires.within reported in
    let same = ap (λ (f : Image). length (f c.args.file)) c.loop-done.invariant.stays.reads in
    omega (arith, asked, same, c.split_at_mut-rest.ensures.back_len, c.loop-done.auto.buf)

pub loop-done-preserved : goal.loop-done-preserved
loop-done-preserved g c =
    let before = c.loop-done.invariant in
    let prefix = c.split_at_mut-rest.result.0.now in
    let reads = (g.V.Volume.disk c.args.vol.now).reads in
    let old = g.V.Volume.disk c.args.vol.now in
    let mid = g.V.Volume.disk c.loop-done.vol in
    let new = g.V.Volume.disk c.read_at.new.self in
    record {
      within = omega (
        arith,
        c.in-Ok.ensures.most,
        c.split_at_mut-rest.ensures.front_len,
        length-append prefix
            c.read_at.new.buf,
      );
      bytes = λ reported.
          let same = ap (λ (f : Image). take c.in-Ok.count (drop (c.args.at + c.loop-done.done) (f c.args.file)))
          (c.read_at.ensures.stays.reads ∙ before.stays.reads) in
          read_more c.loop-done.done c.in-Ok.count c.args.at prefix c.read_at.new.buf (reads c.args.file)
          (sym c.split_at_mut-rest.ensures.front_len)
          (c.split_at_mut-rest.ensures.front ∙ before.bytes reported) (c.in-Ok.ensures.bytes reported ∙ same);
      stays = stays_more old mid new before.stays c.read_at.ensures.stays;
      later = omega (arith, before.later, c.read_at.ensures.cause.later);
    }

pub returns-in-Err-clause-stays : goal.returns-in-Err-clause-stays
returns-in-Err-clause-stays g c =
    stays_more (g.V.Volume.disk c.args.vol.now) (g.V.Volume.disk c.loop-done.vol)
    (g.V.Volume.disk c.read_at.new.self) c.loop-done.invariant.stays c.read_at.ensures.stays

pub returns-in-Err-clause-cause : goal.returns-in-Err-clause-cause
returns-in-Err-clause-cause g c =
    record {
      later = omega (arith, c.loop-done.invariant.later, c.read_at.ensures.cause.later);
      failed =
          omega (arith, c.loop-done.invariant.later, c.in-Err.ensures.cause.failed);
    }

pub returns-clause-bytes : goal.returns-clause-bytes
returns-clause-bytes g c = λ reported.
    let done : c.loop-done.done ≡ length c.loop-done.buf =
    omega (arith, c.loop-done.invariant.within, c.loop-done-test.false) in
    sym (take_all c.loop-done.done c.loop-done.buf (omega arith)) ∙ c.loop-done.invariant.bytes reported
    ∙ ap (λ (n : ℕ). take n (drop c.args.at ((g.V.Volume.disk c.args.vol.now).reads c.args.file))) done

pub returns-clause-stays : goal.returns-clause-stays
returns-clause-stays g c = c.loop-done.invariant.stays

pub returns-clause-cause : goal.returns-clause-cause
returns-clause-cause g c = record { later = c.loop-done.invariant.later; failed = tt }
