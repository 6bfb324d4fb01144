-- What a worker's steps keep.
use Rattle.merge_board.proofs.Prelude.{◌≡◌, ◌≢◌, ℕ, ◌<◌, List, [], ◌∷◌, ◌++◌, sym, ap, ◌∙◌, subst, arith, inl, inr}
use Rattle.merge_board.proofs.Prelude.{⊎_elim, map-append, PostedJob, AllByRecursion, IsRising, Has, new_hand, new_log}
use Rattle.merge_board.proofs.Prelude.{numbers_of, AreApart, AreDealt, Hand, Log}
use Rattle.merge_board.proofs.Lists.{every_map, every_both, every_snoc, every_has, has_longer, rising_snoc}

-- a worker's view of the jobs, one job later
pub hand_grown : (v w : Hand) (job : PostedJob) → v ≡ record new_hand { taken = v.taken }
    → w ≡ record v { taken = v.taken ++ job ∷ [] } → w ≡ record new_hand { taken = w.taken }
hand_grown v w job shape grown =
    grown ∙ ap (λ (x : Hand). record x { taken = v.taken ++ job ∷ [] }) shape
    ∙ ap (λ (x : Hand). record new_hand { taken = x.taken }) (sym grown)

-- its view of the outcomes, one outcome later
pub log_grown : (worker : ℕ) (v w : Log) (out : PostedJob) → v ≡ record (new_log worker) { pushed = v.pushed }
    → w ≡ record v { pushed = v.pushed ++ out ∷ [] } → w ≡ record (new_log worker) { pushed = w.pushed }
log_grown worker v w out shape grown =
    grown ∙ ap (λ (x : Log). record x { pushed = v.pushed ++ out ∷ [] }) shape
    ∙ ap (λ (x : Log). record (new_log worker) { pushed = x.pushed }) (sym grown)

pub numbers_snoc : (jobs : List PostedJob) (job : PostedJob)
    → numbers_of (jobs ++ job ∷ []) ≡ numbers_of jobs ++ job.number ∷ []
numbers_snoc jobs job = map-append (λ (j : PostedJob). j.number) jobs (job ∷ [])

number_has : (jobs : List PostedJob) (job : PostedJob) → Has jobs job → Has (numbers_of jobs) job.number
number_has [] job i = absurd i
number_has (first ∷ others) job i =
    ⊎_elim (λ (e : first ≡ job). inl (ap (λ (j : PostedJob). j.number) e))
    (λ (r : Has others job). inr (number_has others job r)) i

-- what is above the numbers of all jobs that were taken is above those of any of them
pub below_all : (n : ℕ) (taken some : List PostedJob) → AllByRecursion (λ m. m < n) (numbers_of taken)
    → AllByRecursion (Has taken) some → AllByRecursion (λ m. m < n) (numbers_of some)
below_all n taken [] above among = tt
below_all n taken (first ∷ others) above among = (
  every_has (λ m. m < n) (numbers_of taken) first.number above (number_has taken first among.0),
  below_all n taken others above among.1,
)

pub rise_more : (jobs : List PostedJob) (job : PostedJob) → IsRising (numbers_of jobs)
    → AllByRecursion (λ m. m < job.number) (numbers_of jobs) → IsRising (numbers_of (jobs ++ job ∷ []))
rise_more jobs job rise above =
    subst IsRising (sym (numbers_snoc jobs job)) (rising_snoc (numbers_of jobs) job.number rise above)

-- a job with a number above all of both lists joins the first, or the second
apart_first : (xs ys : List PostedJob) (job : PostedJob) → AreApart xs ys
    → AllByRecursion (λ m. m < job.number) (numbers_of ys) → AreApart (xs ++ job ∷ []) ys
apart_first xs ys job apart above =
    subst (AllByRecursion (λ p. AllByRecursion (λ m. p ≢ m) (numbers_of ys))) (sym (numbers_snoc xs job))
    (every_snoc (λ p. AllByRecursion (λ m. p ≢ m) (numbers_of ys)) (numbers_of xs) job.number apart
    (every_map (λ m. m < job.number) (λ m. job.number ≢ m) (numbers_of ys) (λ m below e. omega arith) above))

apart_second : (xs ys : List PostedJob) (job : PostedJob) → AreApart xs ys
    → AllByRecursion (λ m. m < job.number) (numbers_of xs) → AreApart xs (ys ++ job ∷ [])
apart_second xs ys job apart above =
    subst (λ (zs : List ℕ). AllByRecursion (λ p. AllByRecursion (λ m. p ≢ m) zs) (numbers_of xs))
    (sym (numbers_snoc ys job))
    (every_both (λ p. AllByRecursion (λ m. p ≢ m) (numbers_of ys)) (λ p. p < job.number)
    (λ p. AllByRecursion (λ m. p ≢ m) (numbers_of ys ++ job.number ∷ [])) (numbers_of xs)
    (λ p old below. every_snoc (λ m. p ≢ m) (numbers_of ys) job.number old (λ e. omega arith)) apart above)

among_more : (taken some : List PostedJob) (job : PostedJob) → AllByRecursion (Has taken) some
    → AllByRecursion (Has (taken ++ job ∷ [])) some
among_more taken some job among =
    every_map (Has taken) (Has (taken ++ job ∷ [])) some (λ m. has_longer taken (job ∷ []) m) among

pub took : (job : PostedJob) (taken pushed left given_up : List PostedJob) → AreDealt taken pushed left given_up
    → AllByRecursion (λ m. m < job.number) (numbers_of taken) → AreDealt (taken ++ job ∷ []) pushed left given_up
took job taken pushed left given_up h above = record {
  rising = rise_more taken job h.rising above;
  pushed_rise = h.pushed_rise;
  left_rise = h.left_rise;
  given_up_rise = h.given_up_rise;
  pushed_taken = among_more taken pushed job h.pushed_taken;
  left_taken = among_more taken left job h.left_taken;
  given_up_taken = among_more taken given_up job h.given_up_taken;
  pushed_left = h.pushed_left;
  pushed_given_up = h.pushed_given_up;
  left_given_up = h.left_given_up;
}

pub pushed_one : (out : PostedJob) (taken pushed left given_up : List PostedJob) → AreDealt taken pushed left given_up
    → Has taken out → AllByRecursion (λ m. m < out.number) (numbers_of pushed)
    → AllByRecursion (λ m. m < out.number) (numbers_of left)
    → AllByRecursion (λ m. m < out.number) (numbers_of given_up)
    → AreDealt taken (pushed ++ out ∷ []) left given_up
pushed_one out taken pushed left given_up h among above_pushed above_left above_given_up = record {
  rising = h.rising;
  pushed_rise = rise_more pushed out h.pushed_rise above_pushed;
  left_rise = h.left_rise;
  given_up_rise = h.given_up_rise;
  pushed_taken = every_snoc (Has taken) pushed out h.pushed_taken among;
  left_taken = h.left_taken;
  given_up_taken = h.given_up_taken;
  pushed_left = apart_first pushed left out h.pushed_left above_left;
  pushed_given_up = apart_first pushed given_up out h.pushed_given_up above_given_up;
  left_given_up = h.left_given_up;
}

pub left_one : (out : PostedJob) (taken pushed left given_up : List PostedJob) → AreDealt taken pushed left given_up
    → Has taken out → AllByRecursion (λ m. m < out.number) (numbers_of pushed)
    → AllByRecursion (λ m. m < out.number) (numbers_of left)
    → AllByRecursion (λ m. m < out.number) (numbers_of given_up)
    → AreDealt taken pushed (left ++ out ∷ []) given_up
left_one out taken pushed left given_up h among above_pushed above_left above_given_up = record {
  rising = h.rising;
  pushed_rise = h.pushed_rise;
  left_rise = rise_more left out h.left_rise above_left;
  given_up_rise = h.given_up_rise;
  pushed_taken = h.pushed_taken;
  left_taken = every_snoc (Has taken) left out h.left_taken among;
  given_up_taken = h.given_up_taken;
  pushed_left = apart_second pushed left out h.pushed_left above_pushed;
  pushed_given_up = h.pushed_given_up;
  left_given_up = apart_first left given_up out h.left_given_up above_given_up;
}

pub gave_up_one : (job : PostedJob) (taken pushed left given_up : List PostedJob) → AreDealt taken pushed left given_up
    → Has taken job → AllByRecursion (λ m. m < job.number) (numbers_of pushed)
    → AllByRecursion (λ m. m < job.number) (numbers_of left)
    → AllByRecursion (λ m. m < job.number) (numbers_of given_up)
    → AreDealt taken pushed left (given_up ++ job ∷ [])
gave_up_one job taken pushed left given_up h among above_pushed above_left above_given_up = record {
  rising = h.rising;
  pushed_rise = h.pushed_rise;
  left_rise = h.left_rise;
  given_up_rise = rise_more given_up job h.given_up_rise above_given_up;
  pushed_taken = h.pushed_taken;
  left_taken = h.left_taken;
  given_up_taken = every_snoc (Has taken) given_up job h.given_up_taken among;
  pushed_left = h.pushed_left;
  pushed_given_up = apart_second pushed given_up job h.pushed_given_up above_pushed;
  left_given_up = apart_second left given_up job h.left_given_up above_left;
}
