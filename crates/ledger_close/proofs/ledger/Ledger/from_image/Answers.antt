use Rattle.ledger_close.proofs.Prelude.{◌≡◌, List, length, map, sym, ap, subst, ◌∙◌, LevelPair, pair_of, Pair}
use Rattle.ledger_close.proofs.Prelude.{DoFilesFit}
use Rattle.std.proofs.lemmas.List.{length-map}
use Rattle.ledger_close.proofs.Judged.{by_levels, has_levels, is_kept, complete_judged}
use Rattle.bucket_levels.specs.Meaning.{files_of}
use Rattle.page_cache.specs.Caches.{contents_in}
use Rattle.page_cache.proofs.Warmings.{none_taken_of}
use Rattle.ledger_close.proofs.ledger.Ledger.from_image.Goals as goal

pub judged_entries-requires : goal.judged_entries-requires
judged_entries-requires c =
    let pairs = c.in-Ok-judge_files.pairs.items in
    let shared = c.in_ok-shared.shared.items in
    let same : map pair_of shared ≡ map pair_of pairs =
    c.in_ok-shared.ensures ∙ ap (λ (ps : List LevelPair). map pair_of ps) c.as_slice.ensures.value in
    let files : DoFilesFit c.args.image.files (map pair_of pairs) = c.in-Ok-judge_files.ensures.ok in
    record {
      count = sym (length-map shared pair_of) ∙ ap length same ∙ files.are.count;
      same = same ∙ sym c.in_ok-levels.ensures.pairs;
    }

pub returns-in-Err-judged_entries-clause-judges : goal.returns-in-Err-judged_entries-clause-judges
returns-in-Err-judged_entries-clause-judges c =
    let levels = c.in_ok-levels.levels.pairs in
    by_levels c.args.network c.args.image c.in-Ok.header levels c.in-Err-judged_entries.fault
    (has_levels c.args.image c.in-Ok.header levels c.in-Ok.ensures.0
    (subst (λ (l : List Pair). DoFilesFit c.args.image.files l) (sym c.in_ok-levels.ensures.pairs)
    c.in-Ok-judge_files.ensures.ok)) c.in-Err-judged_entries.ensures

pub invariant_of-result : goal.invariant_of-result
invariant_of-result c =
    let here : map pair_of c.as_slice-2.result.now ≡ c.in_ok-levels.levels.pairs =
    ap (λ (ps : List LevelPair). map pair_of ps) c.as_slice-2.ensures.value ∙ sym c.in_ok-levels.ensures.pairs in
    is_kept c.args.network c.in_ok-digest.digest c.args.image c.in-Ok.header c.in-Ok-judged_entries.entries
    c.in_ok-levels.levels c.in_ok-caches.caches
    (record {
      header = c.in-Ok.ensures;
      files = subst (λ (l : List Pair). DoFilesFit c.args.image.files l) (sym c.in_ok-levels.ensures.pairs)
          c.in-Ok-judge_files.ensures.ok;
      kept = c.in-Ok-judged_entries.ensures;
    }) c.in_ok-digest.ensures c.in_ok-levels.ensures.seq
    (ap contents_in c.in_ok-caches.ensures ∙ none_taken_of (files_of (map pair_of c.as_slice-2.result.now))
    ∙ ap files_of here)

pub returns-clause-judges : goal.returns-clause-judges
returns-clause-judges c =
    complete_judged c.args.network c.args.image c.in-Ok.header c.in_ok-levels.levels.pairs
    c.in-Ok-judged_entries.entries
    (record {
      header = c.in-Ok.ensures;
      files = subst (λ (l : List Pair). DoFilesFit c.args.image.files l) (sym c.in_ok-levels.ensures.pairs)
          c.in-Ok-judge_files.ensures.ok;
      kept = c.in-Ok-judged_entries.ensures;
    })
