-- What is known by a pass of the job queue, and how a step changes that.
use Rattle.std.specs.Prelude.{◌≡◌, ℕ, ◌+◌, ◌<◌, ◌^◌, true, false, List, [], ◌∷◌, ◌++◌, length, map}
use Rattle.std.specs.List.{AllByRecursion}
use Rattle.merge_board.specs.declared.hand.Hand.{Hand}
use Rattle.merge_board.specs.declared.posted.PostedJob.{PostedJob}

-- all parts, and the right to post
abbrev pub first_hand : Hand
first_hand = record { parts = 16; posts = true; posted = 0; taken = []; absorbed = 0 }

-- a worker's, before it took any job
abbrev pub new_hand : Hand
new_hand = record { parts = 1; posts = false; posted = 0; taken = []; absorbed = 0 }

-- that of a pass that was taken in
abbrev pub spent_hand : Hand
spent_hand = record { parts = 0; posts = false; posted = 0; taken = []; absorbed = 0 }

-- how many jobs the pass, and those that it took in, have taken
abbrev pub drawn : Hand → ℕ
drawn v = length v.taken + v.absorbed

abbrev pub hand_with : Hand → Hand → Hand
hand_with v u = record v { parts = v.parts + u.parts; absorbed = v.absorbed + drawn u }

abbrev pub numbers_of : List PostedJob → List ℕ
numbers_of jobs = map (λ (job : PostedJob). job.number) jobs

-- The job's number comes after those of all jobs that were taken before. The last part lets a worker count what it
-- takes.
abbrev pub TakesJob : Hand → PostedJob → Hand → Type 0
TakesJob v job w =
    (w ≡ record v { taken = v.taken ++ job ∷ [] }) × AllByRecursion (λ n. n < job.number) (numbers_of v.taken)
    × (length v.taken + 1 < 2 ^ 64)
