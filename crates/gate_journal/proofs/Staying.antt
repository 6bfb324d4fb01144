-- A volume that stays as it is over several calls.
use Rattle.gate_journal.proofs.Prelude.{refl, ◌∙◌, arith, inl, Disk, Same, Stays, onward}

pub stays_none : (disk : Disk) → Stays disk disk
stays_none disk = record {
  runs = record {
    later = omega arith;
    crash = λ c may. (c, may, refl);
    since = λ t c le left. inl left;
    keeps =
        λ t c le left. left;
  };
  reads = refl;
}

pub stays_more : (old mid new : Disk) → Stays old mid → Stays mid new → Stays old new
stays_more old mid new first second = record {
  runs = onward {first = Same} {second = Same} {both = Same} old mid new (λ d e f may left same more. more
      ∙ same) (λ d e same. same) first.runs second.runs;
  reads = second.reads ∙ first.reads;
}
