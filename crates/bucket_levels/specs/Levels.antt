-- All levels after a ledger.
use Rattle.std.specs.Prelude.{ℕ, List, refl}
use Rattle.std.specs.Coded.{Coded, code_by, coded_ℕ, coded_list, coded×}
use Rattle.bucket_levels.specs.Pairs.{Pair, pair_code}
use Rattle.bucket_levels.specs.Pending.{PendingAt, pending_code}
use Rattle.bucket_levels.specs.declared.pair.LevelPair.{LevelPair}

-- the files of each level, from the first one on, the number of the ledger that they follow, and what is there of the
-- merge that is pending into each level
pub record LevelsAt : Type 0 where
  pub pairs : List Pair
  pub seq : ℕ
  pub pending : List PendingAt

abbrev pub levels_code : Coded LevelsAt
levels_code = code_by (List Pair × (ℕ × List PendingAt))
    (coded× (coded_list pair_code) (coded× coded_ℕ (coded_list pending_code))) (λ l. (l.pairs, (l.seq, l.pending)))
    (λ (pairs, (seq, pending)). record { pairs = pairs; seq = seq; pending = pending }) (λ _. refl)

-- the files that a step leaves, and the number of the ledger that it closes
pub record LevelsAfter : Type 0 where
  pub pairs : List Pair
  pub seq : ℕ

abbrev pub step_code : Coded LevelsAfter
step_code = code_by (List Pair × ℕ) (coded× (coded_list pair_code) coded_ℕ) (λ l. (l.pairs, l.seq))
    (λ (pairs, seq). record { pairs = pairs; seq = seq }) (λ _. refl)

-- what the two files of a level hold
abbrev pub pair_of : LevelPair → Pair
pair_of pair = record { curr = pair.curr.value; snap = pair.snap.value }
