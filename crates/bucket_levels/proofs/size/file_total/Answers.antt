use Rattle.bucket_levels.proofs.Prelude.{◌≡◌, ◌+◌, ℕ, ◌∙◌, sym, ap, take, sum_by, take_all, fold-map, pair_of}
use Rattle.bucket_levels.proofs.Prelude.{pair_size, file_total, LevelPair}
use Rattle.bucket_levels.proofs.size.file_total.Goals as goal

abbrev size_of : LevelPair → ℕ
size_of pair = pair_size (pair_of pair)

pub returns : goal.returns
unfolding file_total
returns c =
    let pairs = c.args.pairs.now in
    let entire : take c.loop-pair.pair-index pairs ≡ pairs =
    take_all c.loop-pair.pair-index pairs c.loop-pair-test.false in
    c.loop-pair.invariant.so_far ∙ ap (sum_by size_of) entire
    ∙ sym (fold-map (λ n pair. n + pair_size pair) pair_of 0 pairs)
