use Rattle.std.proofs.Common.{◌-◌, List, length, take, drop, map, sym, subst, arith}
use Rattle.bucket_core.specs.Bucket.{Contents}
use Rattle.bucket_core.specs.File.{HasFile}
use Rattle.entry_map.proofs.KnownKeys.{first_and_rest}
use Rattle.bucket_levels.specs.declared.pair.LevelPair.{LevelPair}
use Rattle.bucket_levels.specs.Levels.{pair_of}
use Rattle.bucket_levels.specs.Meaning.{files_of}
use Rattle.level_pages.proofs.Lookups.{first_files, no_pairs}
use Rattle.level_pages.proofs.Unencoded.{AreEncoded, none_encoded, more_encoded}
use Rattle.level_pages.proofs.newest.+keys_are_encoded.Goals as goal

pub returns-in-empty : goal.returns-in-empty
returns-in-empty t c =
    subst (λ (ps : List LevelPair). AreEncoded (files_of (map pair_of ps)))
    (sym (no_pairs c.args.pairs.now (omega (arith, c.in-empty.len_below)))) none_encoded

pub returns-in-len1-up : goal.returns-in-len1-up
returns-in-len1-up t c =
    let deeper = take (length c.args.pairs.now - 1) (drop 1 c.args.pairs.now) in
    let entire = first_files c.args.pairs.now deeper c.pair-item.result
    (first_and_rest c.args.pairs.now c.pair-item.result c.in-len1-up.len_at_least c.pair-item.is) in
    subst (λ (fs : List Contents). AreEncoded fs) (sym entire)
    (more_encoded c.pair-item.result.curr.value c.pair-item.result.snap.value (files_of (map pair_of deeper))
    (subst HasFile c.deref.ensures c.has_file.ensures)
    (subst HasFile c.deref-in-len1-up.ensures c.has_file-in-len1-up.ensures) c.keys_are_encoded.ensures)
