use Rattle.level_entries.proofs.Prelude.{List, [], ◌∷◌, ◌-◌, length, take, drop, map, option_map, sym, subst, arith}
use Rattle.level_entries.proofs.Prelude.{IfOk-weaker, LedgerKey, BucketEntry, nothing_left, Contents, LevelPair}
use Rattle.level_entries.proofs.Prelude.{pair_of, files_of, AreMarkedWell, changes_of, IsNewestRow, IsRowOf}
use Rattle.bucket_levels.proofs.entry_map_proofs.KnownKeys.{first_and_rest}
use Rattle.level_entries.proofs.Newest.{no_files, row_in, none_in, fewer_marked, first_files}
use Rattle.level_entries.proofs.levels.+row_of.Goals as goal

pub returns-in-empty : goal.returns-in-empty
returns-in-empty t c =
    subst (λ (r : List (LedgerKey × BucketEntry)). IsNewestRow (files_of (map pair_of c.args.pairs.now)) r)
    (sym c.new.ensures.items)
    (subst (λ (ps : List LevelPair). IsNewestRow (files_of (map pair_of ps)) [])
    (sym (nothing_left c.args.pairs.now (omega (arith, c.in-empty.len_below)))) no_files)

pub returns-in-None : goal.returns-in-None
returns-in-None t c marks =
    let deeper = take (length c.args.pairs.now - 1) (drop 1 c.args.pairs.now) in
    let files = files_of (map pair_of deeper) in
    let entire = first_files c.args.pairs.now deeper c.pair-item.result
    (first_and_rest c.args.pairs.now c.pair-item.result c.in-len1-up.len_at_least c.pair-item.is) in
    none_in (λ v. v.items) files c.in_ok-row_of-in-len1-up.field-0 c.in_ok-row_of-in-len1-up.ensures c.in-None.is
    (fewer_marked c.pair-item.result.snap.value files
    (fewer_marked c.pair-item.result.curr.value (c.pair-item.result.snap.value ∷ files)
    (subst (λ (fs : List Contents). (k : LedgerKey) → AreMarkedWell (changes_of fs k)) (sym entire) marks)))

pub returns-in-Some : goal.returns-in-Some
returns-in-Some t c =
    let deeper = take (length c.args.pairs.now - 1) (drop 1 c.args.pairs.now) in
    let files = files_of (map pair_of deeper) in
    let entire = first_files c.args.pairs.now deeper c.pair-item.result
    (first_and_rest c.args.pairs.now c.pair-item.result c.in-len1-up.len_at_least c.pair-item.is) in
    IfOk-weaker c.with_pair.result _ _ (λ next h.
    subst (λ (fs : List Contents). IsRowOf fs (option_map (λ v. v.items) next)) entire h)
    (c.with_pair.ensures files
    (row_in (λ v. v.items) files c.in_ok-row_of-in-len1-up.field-0 c.in-Some.row
    c.in_ok-row_of-in-len1-up.ensures c.in-Some.is))
