use Rattle.std.proofs.Common.{◌≡◌, ◌-◌, List, length, take, drop, map, sym, ap, subst}
use Rattle.std.proofs.Common.{◌∙◌, arith}
use Rattle.std.specs.Option.{option_or}
use Rattle.ledger_types.specs.declared.key.LedgerKey.{LedgerKey}
use Rattle.entry_map.proofs.KnownKeys.{first_and_rest}
use Rattle.bucket_core.specs.Bucket.{Contents, change_at}
use Rattle.bucket_levels.specs.declared.pair.LevelPair.{LevelPair}
use Rattle.bucket_levels.specs.Levels.{pair_of}
use Rattle.bucket_levels.specs.Meaning.{files_of, changes_of}
use Rattle.level_pages.specs.Newest.{first_of}
use Rattle.level_pages.specs.Next.{Says, IsLeast, in_turn}
use Rattle.level_pages.proofs.Lookups.{first_files, no_pairs}
use Rattle.level_pages.proofs.Leasts.{no_files, two_files}
use Rattle.level_pages.proofs.next.+least_above.Goals as goal

pub returns-in-empty : goal.returns-in-empty
returns-in-empty t c = λ k text q lt.
    ap (λ (ps : List LevelPair). first_of (changes_of (files_of (map pair_of ps)) q))
    (no_pairs c.args.pairs.now (omega (arith, c.in-empty.len_below))) ∙ no_files q

pub returns-in-len1-up : goal.returns-in-len1-up
returns-in-len1-up t c = λ k text.
    let deeper = take (length c.args.pairs.now - 1) (drop 1 c.args.pairs.now) in
    let files = files_of (map pair_of deeper) in
    let entire = first_files c.args.pairs.now deeper c.pair-item.result
    (first_and_rest c.args.pairs.now c.pair-item.result c.in-len1-up.len_at_least c.pair-item.is) in
    let below : Says = λ q. first_of (changes_of files q) in
    let curr = c.deref.result.now in
    let snap = c.deref-in-len1-up.result.now in
    let inner = c.lesser.ensures (change_at snap) below k (c.above_in-in-len1-up.ensures k text)
    (c.least_above.ensures k text) in
    let outer = c.lesser-in-len1-up.ensures (change_at curr) (in_turn (change_at snap) below) k
    (c.above_in.ensures k text) inner in
    let same : (q : LedgerKey) → in_turn (change_at curr) (in_turn (change_at snap) below) q
    ≡ first_of (changes_of (files_of (map pair_of c.args.pairs.now)) q) = λ q.
    ap (λ (x : Contents). option_or (change_at x q) (option_or (change_at snap q) (below q))) c.deref.ensures
    ∙ ap (λ (x : Contents). option_or (change_at c.pair-item.result.curr.value q) (option_or (change_at x q) (below q)))
    c.deref-in-len1-up.ensures
    ∙ two_files c.pair-item.result.curr.value c.pair-item.result.snap.value files q
    ∙ ap (λ (fs : List Contents). first_of (changes_of fs q)) (sym entire) in
    subst (λ (s : Says). IsLeast s k c.lesser-in-len1-up.result) (λ i q. same q i) outer
