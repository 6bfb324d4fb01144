use Rattle.record_stream.proofs.Prelude.{ℕ, ◌<◌, ◌≤◌, length, len_at}
use Rattle.record_stream.proofs.image.longest.Given as goal

-- no file so far is longer
abbrev pub invariant-loop-index : goal.invariant-loop-index
invariant-loop-index l = record {
  within : l.longest < length l.files;
  longest : (k : ℕ) → k < l.index → len_at l.files k ≤ len_at l.files l.longest;
}
