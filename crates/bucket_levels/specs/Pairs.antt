-- The two files of each level: curr, which takes changes, and snap, which waits to be merged into the level below.
use Rattle.std.specs.Prelude.{ℕ, List, get_or, None, refl}
use Rattle.std.specs.Coded.{Coded, code_by, coded×}
use Rattle.bucket_core.specs.Bucket.{Contents}
use Rattle.bucket_core.specs.Code.{contents_code}

pub record Pair : Type 0 where
  pub curr : Contents
  pub snap : Contents

abbrev pub pair_code : Coded Pair
pair_code = code_by (Contents × Contents) (coded× contents_code contents_code) (λ p. (p.curr, p.snap))
    (λ (curr, snap). record { curr = curr; snap = snap }) (λ _. refl)

abbrev pub empty_pair : Pair
empty_pair = record { curr = None; snap = None }

-- the files of a level
abbrev pub pair_at : List Pair → ℕ → Pair
pair_at pairs i = get_or pairs i empty_pair
