-- Each step keeps the rule of the job queue.
use Rattle.merge_board.proofs.Prelude as prelude
use prelude.{◌≡◌, ℕ, zero, suc, ◌+◌, ◌-◌, ◌<◌, ◌≤◌, ◌^◌, true, true≢false, List, [], ◌∷◌, ◌++◌, length, set, sym, refl}
use prelude.{ap, ◌∙◌, ⊎_elim, length-append, arith, sum_by_push, some, some-ne-none, Pushes, Pops, Forks, Merges}
use prelude.{Learns, at_set, PostedJob, AllByRecursion, first_hand, new_hand, spent_hand, hand_with, drawn, TakesJob}
use prelude.{Hand, numbers_of, subst}
use lib.ListN.{get_elem?}
use Rattle.merge_board.specs.JobOrder.{NumbersAfter, FitsHand, JobsInOrder}
use Rattle.merge_board.proofs.Lists.{every_map, every_snoc}
use Rattle.merge_board.proofs.Working.{numbers_snoc, rise_more}
use Rattle.merge_board.proofs.Views.{each_set, each_snoc, sum_set, at_le, entire}

abbrev parts_of : Hand → ℕ
parts_of v = v.parts

after_snoc : (t : ℕ) (jobs : List PostedJob) (job : PostedJob) → NumbersAfter t jobs → job.number ≡ t + length jobs + 1
    → NumbersAfter t (jobs ++ job ∷ [])
after_snoc t [] job h e = (omega arith, tt)
after_snoc t (j ∷ js) job h e = (h.0, after_snoc (t + 1) js job h.1 (omega arith))

-- the number of a list that begins with one pass alone
index_of_one : (v u : Hand) (pass : ℕ) → get_elem? (v ∷ []) pass ≡ some u → pass ≡ 0
index_of_one v u zero e = refl
index_of_one v u (suc pass) e = absurd (some-ne-none u (sym e))

pub begins : JobsInOrder [] (first_hand ∷ [])
begins = record {
  p = 0;
  t = 0;
  count = refl;
  numbers = tt;
  countable = omega arith;
  drawn_in_all = refl;
  parts_in_all = refl;
  each = each_set (FitsHand 0 0) (first_hand ∷ []) 0 first_hand
      (record { poster = λ _. (refl, refl); rising = tt; below = tt; idle = λ e. refl })
      (λ j u other e. absurd (other (index_of_one first_hand u j e)));
}

pub posts : (n pass : ℕ) (v : Hand) (job : PostedJob) → v.posts ≡ true → job.number ≡ v.posted + 1
    → v.posted + 1 < 2 ^ 64 → Pushes JobsInOrder n pass v job (λ w. w ≡ record v { posted = v.posted + 1 })
posts n pass v job may is fits jobs views room h at =
    let w : Hand = record v { posted = v.posted + 1 } in
    let mine : FitsHand h.p h.t pass v = h.each pass v at in
    let p : v.posted ≡ h.p = (mine.poster may).1 in
    let count = h.count in (
      w,
      record {
        p = h.p + 1;
        t = h.t;
        count = omega (arith, length-append jobs (job ∷ []));
        numbers = after_snoc h.t jobs job h.numbers (omega arith);
        countable = omega arith;
        drawn_in_all = (let s = sum_set drawn views pass v w at in let d = h.drawn_in_all in omega arith);
        parts_in_all = (let s = sum_set parts_of views pass v w at in let d = h.parts_in_all in omega arith);
        each = each_set (FitsHand (h.p + 1) h.t) views pass w (record {
          poster = λ _. ((mine.poster may).0, ap (λ m. m + 1) p);
          rising = mine.rising;
          below = mine.below;
          idle = mine.idle;
        }) (λ j u other e. let theirs = h.each j u e in record {
          poster = λ q. absurd (other ((theirs.poster q).0 ∙ sym (mine.poster may).0));
          rising = theirs.rising;
          below = theirs.below;
          idle = theirs.idle;
        });
      },
      refl,
    )

pub takes : (pass : ℕ) (v : Hand) → 0 < v.parts → Pops JobsInOrder pass v (TakesJob v)
takes pass v some_part job jobs views h at =
    let n = job.number in
    let w : Hand = record v { taken = v.taken ++ job ∷ [] } in
    let mine : FitsHand h.p h.t pass v = h.each pass v at in
    let is : n ≡ h.t + 1 = h.numbers.0 in
    let count = h.count in
    let countable = h.countable in
    let most = at_le drawn views pass v at in
    let in_all = h.drawn_in_all in
    let before : AllByRecursion (λ m. m < n) (numbers_of v.taken) =
    every_map (λ m. m ≤ h.t) (λ m. m < n) (numbers_of v.taken) (λ m b. omega arith) mine.below in (
      w,
      record {
        p = h.p;
        t = h.t + 1;
        count = omega arith;
        numbers = h.numbers.1;
        countable = h.countable;
        drawn_in_all = (let s = sum_set drawn views pass v w at in omega (arith, length-append v.taken (job ∷ [])));
        parts_in_all = (let s = sum_set parts_of views pass v w at in let d = h.parts_in_all in omega arith);
        each = each_set (FitsHand h.p (h.t + 1)) views pass w (record {
          poster = mine.poster;
          rising = rise_more v.taken job mine.rising before;
          below = subst (AllByRecursion (λ m. m ≤ h.t + 1)) (sym (numbers_snoc v.taken job))
              (every_snoc (λ m. m ≤ h.t + 1) (numbers_of v.taken) n
              (every_map (λ m. m ≤ h.t) (λ m. m ≤ h.t + 1) (numbers_of v.taken) (λ m b. omega arith) mine.below)
              (omega arith));
          idle = λ e. absurd (omega arith);
        }) (λ j u other e. let theirs = h.each j u e in record {
          poster = theirs.poster;
          rising = theirs.rising;
          below = every_map (λ m. m ≤ h.t) (λ m. m ≤ h.t + 1) (numbers_of u.taken) (λ m b. omega arith) theirs.below;
          idle = theirs.idle;
        });
      },
      (refl, before, omega arith),
    )

pub hires : (pass : ℕ) (v : Hand) → 2 ≤ v.parts → Forks JobsInOrder pass v (record v { parts = v.parts - 1 }) new_hand
hires pass v two jobs views h at =
    let w : Hand = record v { parts = v.parts - 1 } in
    let mine : FitsHand h.p h.t pass v = h.each pass v at in
    let vs = set views pass w in record {
      p = h.p;
      t = h.t;
      count = h.count;
      numbers = h.numbers;
      countable = h.countable;
      drawn_in_all = (let s = sum_set drawn views pass v w at in let d = h.drawn_in_all in
          omega (arith, sum_by_push drawn vs new_hand));
      parts_in_all = (let s = sum_set parts_of views pass v w at in let d = h.parts_in_all in
          omega (arith, sum_by_push parts_of vs new_hand));
      each = each_snoc (FitsHand h.p h.t) vs new_hand (each_set (FitsHand h.p h.t) views pass w (record {
        poster = mine.poster;
        rising = mine.rising;
        below = mine.below;
        idle = λ e. absurd (omega arith);
      }) (λ j u other e. h.each j u e))
          (record { poster = λ q. absurd (true≢false (sym q)); rising = tt; below = tt; idle = λ e. refl });
    }

pub joins : (pass : ℕ) (v : Hand) (other : ℕ) (u : Hand) → Merges JobsInOrder pass v other u (hand_with v u) spent_hand
joins pass v other u jobs views h at two at' =
    let both : Hand = hand_with v u in
    let mine : FitsHand h.p h.t pass v = h.each pass v at in
    let vs = set views pass both in
    let was : get_elem? views other ≡ some u = ⊎_elim (λ x. absurd (two x.0)) (λ x. x.1)
    (at_set views pass other both u at') in
    let theirs : FitsHand h.p h.t other u = h.each other u was in record {
      p = h.p;
      t = h.t;
      count = h.count;
      numbers = h.numbers;
      countable = h.countable;
      drawn_in_all = (let s = sum_set drawn views pass v both at in let r = sum_set drawn vs other u spent_hand at' in
          let d = h.drawn_in_all in omega arith);
      parts_in_all = (let s = sum_set parts_of views pass v both at in
          let r = sum_set parts_of vs other u spent_hand at' in let d = h.parts_in_all in omega arith);
      each = each_set (FitsHand h.p h.t) vs other spent_hand
          (record { poster = λ q. absurd (true≢false (sym q)); rising = tt; below = tt; idle = λ e. refl })
          (λ j w apart e. each_set (FitsHand h.p h.t) views pass both (record {
            poster = mine.poster;
            rising = mine.rising;
            below = mine.below;
            idle = λ e. (let a : drawn v ≡ 0 = mine.idle (omega arith) in
                let b : drawn u ≡ 0 = theirs.idle (omega arith) in
                omega arith);
          }) (λ j w other e. h.each j w e) j w e);
    }

pub waits : (pass : ℕ) (v : Hand) → v.posts ≡ true → Learns JobsInOrder pass v (λ jobs. length jobs ≤ v.posted)
waits pass v may jobs views h at =
    let count = h.count in let p = ((h.each pass v at).poster may).1 in omega arith

pub counts : (pass : ℕ) (v : Hand) → v.posts ≡ true
    → Learns JobsInOrder pass v (λ jobs. (drawn v ≤ v.posted) × (v.posted < 2 ^ 64))
counts pass v may jobs views h at =
    let most = at_le drawn views pass v at in
    let in_all = h.drawn_in_all in
    let p : v.posted ≡ h.p = ((h.each pass v at).poster may).1 in
    let count = h.count in let countable = h.countable in (omega arith, omega arith)

pub drains : (pass : ℕ) (v : Hand) → v.posts ≡ true → v.parts ≡ 16
    → Learns JobsInOrder pass v (λ jobs. (v.posted ≡ drawn v + length jobs) × (v.posted < 2 ^ 64))
drains pass v may all_parts jobs views h at =
    let mine = entire drawn parts_of views pass v at (h.parts_in_all ∙ sym all_parts) (λ j u e. (h.each j u e).idle) in
    let in_all = h.drawn_in_all in
    let p : v.posted ≡ h.p = ((h.each pass v at).poster may).1 in
    let count = h.count in let countable = h.countable in (omega arith, omega arith)
