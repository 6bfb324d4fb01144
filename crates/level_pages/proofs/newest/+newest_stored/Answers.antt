use Rattle.std.proofs.Common.{◌-◌, List, Some, None, option_map, length, take, drop, map, sym}
use Rattle.std.proofs.Common.{subst, arith}
use Rattle.ledger_types.specs.declared.key.LedgerKey.{LedgerKey}
use Rattle.ledger_types.specs.declared.bucket.BucketEntry.{BucketEntry}
use Rattle.entry_map.proofs.KnownKeys.{first_and_rest}
use Rattle.bucket_core.specs.Bucket.{Contents}
use Rattle.bucket_levels.specs.declared.pair.LevelPair.{LevelPair}
use Rattle.bucket_levels.specs.Levels.{pair_of}
use Rattle.bucket_levels.specs.Meaning.{files_of}
use Rattle.level_pages.specs.Newest.{IsNewest}
use Rattle.level_pages.proofs.Lookups.{first_files, no_pairs, found_more, found_older, found_nowhere}
use Rattle.level_pages.proofs.newest.+newest_stored.Goals as goal

pub returns-in-empty : goal.returns-in-empty
returns-in-empty t c = λ k text.
    subst (λ (ps : List LevelPair). IsNewest k (files_of (map pair_of ps)) None)
    (sym (no_pairs c.args.pairs.now (omega (arith, c.in-empty.len_below)))) (found_nowhere k)

pub returns-in-Some : goal.returns-in-Some
returns-in-Some t c = λ k text.
    let deeper = take (length c.args.pairs.now - 1) (drop 1 c.args.pairs.now) in
    let files = files_of (map pair_of deeper) in
    let entire = first_files c.args.pairs.now deeper c.pair-item.result
    (first_and_rest c.args.pairs.now c.pair-item.result c.in-len1-up.len_at_least c.pair-item.is) in
    subst (λ (fs : List Contents). IsNewest k fs (Some c.in-Some.item.1)) (sym entire)
    (found_more k c.in-Some.item.1 c.pair-item.result.curr.value c.pair-item.result.snap.value files
    (c.in-Some.ensures k text))

pub returns-in-None : goal.returns-in-None
returns-in-None t c = λ k text.
    let deeper = take (length c.args.pairs.now - 1) (drop 1 c.args.pairs.now) in
    let files = files_of (map pair_of deeper) in
    let entire = first_files c.args.pairs.now deeper c.pair-item.result
    (first_and_rest c.args.pairs.now c.pair-item.result c.in-len1-up.len_at_least c.pair-item.is) in
    let found = option_map (λ (x : LedgerKey × BucketEntry). x.1) c.newest_stored.result in
    subst (λ (fs : List Contents). IsNewest k fs found) (sym entire)
    (found_older k found c.pair-item.result.curr.value c.pair-item.result.snap.value files (c.in-None.ensures k text)
    (c.newest_stored.ensures k text))
