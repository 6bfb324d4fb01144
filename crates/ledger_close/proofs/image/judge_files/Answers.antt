use Rattle.ledger_close.proofs.Prelude.{rules, ◌≡◌, ◌≤◌, List, map, sym, subst, LevelPair, pair_of, file_total}
use Rattle.ledger_close.proofs.Prelude.{max_file_total, AreFilesOf}
use Rattle.ledger_close.proofs.Judged.{no_levels, too_long}
use Rattle.ledger_close.proofs.image.judge_files.Goals as goal

pub returns-then-len-ne22-clause-bad : goal.returns-then-len-ne22-clause-bad
returns-then-len-ne22-clause-bad c = no_levels c.args.files c.broken.result c.broken.ensures (search rules)

pub returns-then-not-do_files_fit-clause-bad : goal.returns-then-not-do_files_fit-clause-bad
returns-then-not-do_files_fit-clause-bad c =
    let same : c.as_slice.result.now ≡ c.in-Ok.pairs.items = search rules in
    let long : file_total (map pair_of c.as_slice.result.now) ≤ max_file_total → ⊥ = search rules in
    too_long c.a_file_is_of_one_bucket.ensures c.args.files (map pair_of c.in-Ok.pairs.items)
    c.broken-then-not-do_files_fit.result c.broken-then-not-do_files_fit.ensures
    (subst (AreFilesOf (map pair_of c.in-Ok.pairs.items)) c.into_vec.ensures c.in-Ok.ensures.ok)
    (λ fit. long (subst (λ (p : List LevelPair). file_total (map pair_of p) ≤ max_file_total) (sym same) fit))
