-- A job on the board: its number, and the job.
use Rattle.std.specs.Prelude.{ℕ, refl}
use Rattle.std.specs.Coded.{Coded, code_by, coded_ℕ, coded×}
use Rattle.bucket_merge.specs.Job.{Job, job_code}
use Rattle.merge_board.specs.declared.posted.PostedJob.{PostedJob}

abbrev pub posted_code : Coded PostedJob
posted_code = code_by (ℕ × Job) (coded× coded_ℕ job_code) (λ p. (p.number, p.job))
    (λ (number, job). record { number = number; job = job })
    (λ _. refl)
