use Rattle.bucket_levels.proofs.Prelude.{◌≡◌, ◌≤◌, ◌*◌, ◌^◌, take, sum_by, pair_of, pair_size}
use Rattle.bucket_levels.proofs.size.file_total.Given as goal

-- each level adds less than 2 ^ 65
abbrev pub invariant-loop-pair : goal.invariant-loop-pair
invariant-loop-pair l = record {
  so_far : l.total ≡ sum_by (λ pair. pair_size (pair_of pair)) (take l.pair-index l.pairs);
  fits : l.total ≤ l.pair-index * 2 ^ 65;
}
