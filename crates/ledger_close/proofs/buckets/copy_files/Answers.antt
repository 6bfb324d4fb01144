use Rattle.ledger_close.proofs.Prelude.{◌≡◌, ◌<◌, List, [], ◌∷◌, ◌++◌, length, sym, subst, arith, rules, file_of, Pair}
use Rattle.ledger_close.proofs.Prelude.{pair_of, AreFilesOf}
use Rattle.ledger_close.proofs.Files.{HasBoth, one_more_written, all_written}
use Rattle.ledger_close.proofs.buckets.copy_files.Goals as goal

pub loop-level-preserved : goal.loop-level-preserved
loop-level-preserved c =
    let levels : List Pair = c.args.levels.now.pairs in
    let below : c.loop-level.level < length levels = omega (arith, c.requires, c.loop-level-test.true) in
    let pair : Pair = pair_of c.pair-pair.result.now in
    let both : HasBoth pair = (search rules, search rules) in
    let half : c.push_file.new.files.items ≡ c.loop-level.files.items ++ file_of pair.curr ∷ [] = search rules in
    let entire : c.push_file-in-loop-level.new.files.items ≡ c.push_file.new.files.items ++ file_of pair.snap ∷ [] =
    search rules in
    one_more_written levels pair c.loop-level.files.items c.push_file.new.files.items
    c.push_file-in-loop-level.new.files.items c.loop-level.level c.loop-level.invariant below c.pair-pair.ensures both
    half entire

pub returns : goal.returns
returns c =
    let levels : List Pair = c.args.levels.now.pairs in
    subst (AreFilesOf levels) (sym c.from_vec.ensures)
    (all_written levels c.loop-level.files.items c.loop-level.level c.requires
    (omega (arith, c.loop-level-test.false, c.loop-level.auto.level-end)) c.loop-level.invariant)
