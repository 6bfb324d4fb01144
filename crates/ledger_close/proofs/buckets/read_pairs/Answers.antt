use Rattle.ledger_close.proofs.Prelude.{ℕ, ◌≡◌, ◌+◌, ◌*◌, List, drop, ap, ◌∙◌, arith, rules}
use Rattle.ledger_close.proofs.Files.{one_more_read, no_levels, weaker, next_file, file_ahead}
use Rattle.ledger_close.proofs.buckets.read_pairs.Goals as goal

pub remove-curr-requires : goal.remove-curr-requires
remove-curr-requires c =
    let ahead = file_ahead c.args.files.items c.loop-level.files.items (2 * c.loop-level.level)
    c.loop-level.invariant.left (omega (arith, c.requires)) in
    search (rules, ahead)

pub remove-snap-requires : goal.remove-snap-requires
remove-snap-requires c =
    let files = c.args.files.items in
    let first = next_file files c.loop-level.files.items c.remove-curr.new.self.items (2 * c.loop-level.level)
    c.remove-curr.result c.loop-level.invariant.left c.remove-curr.ensures.value c.remove-curr.ensures.by_index.2 in
    let ahead = file_ahead files c.remove-curr.new.self.items (2 * c.loop-level.level + 1) first.left
    (omega (arith, c.requires)) in
    search (rules, ahead)

pub returns-in-Err-clause-bad : goal.returns-in-Err-clause-bad
returns-in-Err-clause-bad c =
    let files = c.args.files.items in
    let curr : List ℕ = c.remove-curr.result in
    let snap : List ℕ = c.remove-snap.result in
    let first = next_file files c.loop-level.files.items c.remove-curr.new.self.items (2 * c.loop-level.level)
    curr c.loop-level.invariant.left c.remove-curr.ensures.value c.remove-curr.ensures.by_index.2 in
    let second = next_file files c.remove-curr.new.self.items c.remove-snap.new.self.items (2 * c.loop-level.level + 1)
    snap first.left c.remove-snap.ensures.value c.remove-snap.ensures.by_index.2 in
    weaker c.in-Err.fault (no_levels files c.loop-level.level curr snap c.loop-level-test.true first.is second.is)
    c.in-Err.ensures.bad

pub loop-level-preserved : goal.loop-level-preserved
loop-level-preserved c =
    let files = c.args.files.items in
    let curr : List ℕ = c.remove-curr.result in
    let snap : List ℕ = c.remove-snap.result in
    let first = next_file files c.loop-level.files.items c.remove-curr.new.self.items (2 * c.loop-level.level)
    curr c.loop-level.invariant.left c.remove-curr.ensures.value c.remove-curr.ensures.by_index.2 in
    let second = next_file files c.remove-curr.new.self.items c.remove-snap.new.self.items (2 * c.loop-level.level + 1)
    snap first.left c.remove-snap.ensures.value c.remove-snap.ensures.by_index.2 in
    let index : 2 * c.loop-level.level + 1 + 1 ≡ 2 * (c.loop-level.level + 1) = omega arith in
    record {
      read = one_more_read files c.loop-level.pairs.items c.push_pair.new.pairs.items c.in-Ok.pair c.loop-level.level
          curr snap c.loop-level.invariant.read (omega (arith, c.requires)) first.is second.is c.in-Ok.ensures.curr
          c.in-Ok.ensures.snap c.in_ok-push_pair-in-Ok.ensures;
      left = second.left ∙ ap (λ (n : ℕ). drop n files) index;
    }
