-- A merge of a level: what goes into it, and when it began.
use Rattle.std.specs.Prelude.{ℕ, refl}
use Rattle.std.specs.Coded.{Coded, code_by, coded_ℕ, coded×}
use Rattle.bucket_core.specs.Bucket.{Contents}
use Rattle.bucket_core.specs.Code.{contents_code}

-- the level that the merge is for, the ledger at which it began, and its older and its newer input
pub record Job : Type 0 where
  pub level : ℕ
  pub seq : ℕ
  pub curr : Contents
  pub snap : Contents

abbrev pub job_code : Coded Job
job_code = code_by (ℕ × (ℕ × (Contents × Contents)))
    (coded× coded_ℕ (coded× coded_ℕ (coded× contents_code contents_code)))
    (λ j. (j.level, (j.seq, (j.curr, j.snap))))
    (λ (level, (seq, (curr, snap))). record { level = level; seq = seq; curr = curr; snap = snap })
    (λ _. refl)
