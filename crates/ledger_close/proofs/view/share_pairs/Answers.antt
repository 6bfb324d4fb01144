use Rattle.ledger_close.proofs.Prelude.{◌≡◌, ◌<◌, List, [], ◌∷◌, ◌++◌, length, map, take, sym, ap, ◌∙◌, arith}
use Rattle.ledger_close.proofs.Prelude.{rules, Pair, pair_of, LevelPair, empty_pair, map-append, take_more, take_all}
use Rattle.ledger_close.proofs.view.share_pairs.Goals as goal

pub loop-level-preserved : goal.loop-level-preserved
loop-level-preserved c =
    let it = c.loop-level in
    let levels : List Pair = c.args.levels.now.pairs in
    let shared : LevelPair = c.in_ok-share_pair.field-0 in
    let below : it.level < length levels = omega (arith, c.requires, c.loop-level-test.true) in
    let is : pair_of shared ≡ pair_of c.pair.result.now = c.in_ok-share_pair.ensures in
    let pushed : c.push_pair.new.pairs.items ≡ it.pairs.items ++ shared ∷ [] = search rules in
    ap (map pair_of) pushed ∙ map-append pair_of it.pairs.items (shared ∷ [])
    ∙ ap (λ (pairs : List Pair). pairs ++ pair_of shared ∷ []) it.invariant
    ∙ ap (λ (pair : Pair). take it.level levels ++ pair ∷ []) (is ∙ c.pair.ensures)
    ∙ sym (take_more levels it.level empty_pair below)

pub returns : goal.returns
returns c =
    let it = c.loop-level in
    let levels : List Pair = c.args.levels.now.pairs in
    it.invariant ∙ take_all it.level levels (omega (arith, c.requires, c.loop-level-test.false, it.auto.level-end))
