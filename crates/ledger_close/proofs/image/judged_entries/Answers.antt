use Rattle.ledger_close.proofs.Prelude.{List, sym, subst, EntryMap, Pair, AreKept}
use Rattle.bucket_levels.specs.Meaning.{Represent}
use Rattle.ledger_close.proofs.image.judged_entries.Goals as goal

pub new-requires : goal.new-requires
new-requires c =
    let found = c.in-Ok.ensures in (
      found.0,
      subst (λ (l : List Pair). Represent l found.0) (sym c.requires.same) found.1.exists.existing,
      found.2,
    )

pub returns-in-Ok : goal.returns-in-Ok
returns-in-Ok c =
    let found = c.in-Ok.ensures in
    subst (λ (m : EntryMap). AreKept c.args.header.now c.args.levels.now.pairs m)
    (sym (c.new.ensures found.0
    (subst (λ (l : List Pair). Represent l found.0) (sym c.requires.same) found.1.exists.existing))) found.1

pub returns-in-Err : goal.returns-in-Err
returns-in-Err c = c.in-Err.ensures
