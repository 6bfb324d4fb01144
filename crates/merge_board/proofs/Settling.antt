-- What taking in one worker more keeps, and what is known once all are taken in.
use Rattle.merge_board.proofs.Prelude.{◌≡◌, ℕ, ◌+◌, true, List, [], ◌∷◌, ◌++◌, map, length, sym, refl, ap, ◌∙◌, subst}
use Rattle.merge_board.proofs.Prelude.{append_assoc, length-append, arith, sum_by-cons, append-nil, length-map, Held}
use Rattle.merge_board.proofs.Prelude.{view, PostedJob, AllByRecursion, hand_with, drawn, log_with, pushed_count}
use Rattle.merge_board.proofs.Prelude.{Accounts, end_number, pushed_by, KeepsOrder, end_known, AreTakenIn, IsDrained}
use Rattle.merge_board.proofs.Prelude.{outs_of, Sent, Hand, Known, Log, nil_from_length}
use Rattle.merge_board.proofs.Lists.{every_map}
use Rattle.merge_board.specs.declared.parts.WorkerEnd.{WorkerEnd}

-- before any is taken in
pub none_taken_in : (all : List WorkerEnd) (hand : Hand) (log : Log) → hand.posts ≡ true → hand.parts + length all ≡ 16
    → drawn hand ≡ 0 → log.collects ≡ true → log.parts + length all ≡ 16 → pushed_count log ≡ 0 → length log.known ≡ 0
    → AreTakenIn all all hand hand log log 0 0
none_taken_in all hand log posts job_parts none_drawn collects out_parts none_pushed none_known = record {
  done = [];
  split = sym (append-nil all);
  posts = posts;
  posted = refl;
  job_parts = job_parts;
  all_taken = none_drawn;
  collects = collects;
  got = refl;
  out_parts = out_parts;
  all_pushed = none_pushed;
  known_ends = nil_from_length log.known none_known;
  taken_sum = refl;
  pushed_sum = refl;
  fewer = omega arith;
}

pub one_taken_in : (all rest old_rest : List WorkerEnd) (end : WorkerEnd) (hand0 hand : Hand) (log0 log : Log)
    (taken pushed : ℕ) → AreTakenIn all old_rest hand0 hand log0 log taken pushed → old_rest ≡ rest ++ end ∷ []
    → AreTakenIn all rest hand0 (hand_with hand (view end.seats.jobs)) log0 (log_with log (view end.seats.outs))
    (taken + end.taken) (pushed + end.pushed)
one_taken_in all rest old_rest end hand0 hand log0 log taken pushed h is =
    let long : length old_rest ≡ length rest + 1 = ap length is ∙ length-append rest (end ∷ []) in
    let job_parts = h.job_parts in
    let out_parts = h.out_parts in
    let end_job_parts = end.job_parts in
    let end_out_parts = end.out_parts in
    let all_taken = h.all_taken in
    let all_pushed = h.all_pushed in
    let end_taken = end.all_taken in
    let end_pushed = end.all_pushed in
    let taken_sum = h.taken_sum in
    let pushed_sum = h.pushed_sum in
    let fewer = h.fewer in
    let accounted = end.accounted in record {
      done = end ∷ h.done;
      split = h.split ∙ ap (λ l. l ++ h.done) is ∙ append_assoc rest (end ∷ []) h.done;
      posts = h.posts;
      posted = h.posted;
      job_parts = omega arith;
      all_taken = omega arith;
      collects = h.collects;
      got = h.got;
      out_parts = omega arith;
      all_pushed = omega arith;
      known_ends = ap (λ l. end_known end ∷ l) h.known_ends;
      taken_sum = omega (arith, sum_by-cons (λ (e : WorkerEnd). e.taken) end h.done);
      pushed_sum = omega (arith, sum_by-cons (λ (e : WorkerEnd). e.pushed) end h.done);
      fewer = omega arith;
    }

-- ---- once all are taken in

every_unmap : {X Y : Type 0} (P : Y → Type 0) (f : X → Y) (xs : List X) → AllByRecursion P (map f xs)
    → AllByRecursion (λ x. P (f x)) xs
every_unmap P f [] h = tt
every_unmap P f (x ∷ xs) h = (h.0, every_unmap P f xs h.1)

-- what was pushed was collected or is queued
pub all_counted : (ends : List WorkerEnd) (hand0 hand : Hand) (log0 log end : Log) (taken pushed : ℕ)
    (queued : List PostedJob)
    → AreTakenIn ends [] hand0 hand log0 log taken pushed → IsDrained log end queued → Held 0 (Accounts end)
    → length log0.got + length queued ≡ pushed
all_counted ends hand0 hand log0 log end taken pushed queued h drained empty =
    let rest = drained.rest in
    let none : length empty.0 ≡ 0 = empty.1 in
    let out_parts = h.out_parts in
    let parts : end.parts ≡ log.parts = ap (λ (v : Log). v.parts) drained.log in
    let count : pushed_count end ≡ pushed_count log = ap (λ (v : Log). pushed_count v) drained.log in
    let got : length end.got ≡ length (log.got ++ rest) = ap (λ (v : Log). length v.got) drained.log in
    let got0 : length log.got ≡ length log0.got = ap (λ (l : List Sent). length l) h.got in
    let all_pushed = h.all_pushed in
    let queue : length (map (λ (s : Sent). s.out) rest) ≡ length queued = ap length drained.queue in
    let entire : pushed_count end ≡ length end.got + length empty.0 = empty.2.entire (omega arith) in
    omega (arith, length-append log.got rest, length-map rest (λ (s : Sent). s.out))

-- and is there in the order in which it was pushed
pub all_ordered : (ends : List WorkerEnd) (hand0 hand : Hand) (log0 log end : Log) (taken pushed : ℕ)
    (queued : List PostedJob)
    → AreTakenIn ends [] hand0 hand log0 log taken pushed → IsDrained log end queued → Held 0 (Accounts end)
    → KeepsOrder log0.got queued ends
all_ordered ends hand0 hand log0 log end taken pushed queued h drained empty =
    let rest = drained.rest in
    let got : end.got ++ empty.0 ≡ log0.got ++ rest =
    ap (λ (l : List Sent). end.got ++ l) (nil_from_length empty.0 empty.1) ∙ append-nil end.got
    ∙ ap (λ (v : Log). v.got) drained.log ∙ ap (λ (l : List Sent). l ++ rest) h.got in
    let known : end.known ≡ map end_known ends =
    ap (λ (v : Log). v.known) drained.log ∙ h.known_ends ∙ ap (map end_known) (sym h.split) in
    let each : AllByRecursion (λ (k : Known). outs_of k.worker (log0.got ++ rest) ≡ k.pushed) (map end_known ends) =
    subst (λ (x : List Sent × List Known). AllByRecursion (λ (k : Known). outs_of k.worker x.0 ≡ k.pushed) x.1)
    (λ i. (got i, known i)) empty.2.ended in record {
      rest = rest;
      queue = drained.queue;
      each = every_map (λ (e : WorkerEnd). outs_of (end_known e).worker (log0.got ++ rest) ≡ (end_known e).pushed)
          (λ (e : WorkerEnd). outs_of (end_number e) (log0.got ++ rest) ≡ pushed_by e) ends
          (λ e is. ap (λ n. outs_of n (log0.got ++ rest)) (sym e.numbered) ∙ is)
          (every_unmap (λ (k : Known). outs_of k.worker (log0.got ++ rest) ≡ k.pushed) end_known ends each);
    }
