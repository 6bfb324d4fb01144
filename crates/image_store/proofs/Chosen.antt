-- Which of two image files counts.
use Rattle.image_store.proofs.Prelude.{◌≡◌, refl, ℕ, zero, suc, ◌<◌, ◌≤◌, Bool, true, false, Option, Some, None, Ok}
use Rattle.image_store.proofs.Prelude.{arith, ltb-true, ltb-false, nat_lt, if◌then◌else◌, Image, Head, IsOpen, epoch_in}
use Rattle.image_store.proofs.Prelude.{IsFormed, IsHead, ReportsHead, greater_of, IsChosenHead, ReportsChosen, Err, sym}
use Rattle.image_store.proofs.Prelude.{subst, StoreFault, BreaksForm}
use Rattle.gate_journal.specs.declared.fault.StoreFault.TheVariants as fault

-- what holds of 0 and of 1 holds of both image files
pub each_below_two : (P : ℕ → Type 0) → P 0 → P 1 → (number : ℕ) → number < 2 → P number
each_below_two P first second zero lt = first
each_below_two P first second (suc zero) lt = second
each_below_two P first second (suc (suc n)) lt = absurd (omega (arith, lt))

module _ (c : Image) where
  abbrev Formed : ℕ → Type 0
  Formed number = IsOpen (c number) → IsFormed number (c number)

  abbrev Below : ℕ → ℕ → Type 0
  Below number other = IsOpen (c other) → epoch_in (c other) ≤ epoch_in (c number)

  itself : (number : ℕ) → Below number number
  itself number opened = omega arith

  unopened : (number other : ℕ) → (IsOpen (c other) → ⊥) → Below number other
  unopened number other shut opened = absurd (shut opened)

  unformed : (number : ℕ) → (IsOpen (c number) → ⊥) → Formed number
  unformed number shut opened = absurd (shut opened)

  chosen_of : (number : ℕ) (head : Head) → number < 2 → IsHead number (c number) head → Formed 0 → Formed 1
      → Below number 0 → Below number 1 → IsChosenHead c number head
  chosen_of number head lt its first second low high = record {
    formed = each_below_two Formed first second;
    chosen = record { image_file = lt; is_open = its.is_open; greatest = each_below_two (Below number) low high };
    reads = its;
  }

  below_by : (one other : ℕ) (a b : Head) → IsHead one (c one) a → IsHead other (c other) b → b.epoch ≤ a.epoch
      → Below one other
  below_by one other a b its of_other le opened = omega (arith, le, its.epoch, of_other.epoch)

  both_chosen : (a b : Head) → IsHead 0 (c 0) a → IsHead 1 (c 1) b → (t : Bool) → nat_lt a.epoch b.epoch ≡ t
      → ReportsChosen c (Ok (if t then Some (1, b) else Some (0, a)))
  both_chosen a b first second true less =
      let lt = ltb-true a.epoch b.epoch less in
      chosen_of 1 b (omega arith) second (λ o. first.formed) (λ o. second.formed)
      (below_by 1 0 b a second first (omega (arith, lt))) (itself 1)
  both_chosen a b first second false less =
      let le = ltb-false a.epoch b.epoch less in
      chosen_of 0 a (omega arith) first (λ o. first.formed) (λ o. second.formed) (itself 0)
      (below_by 0 1 a b first second (omega (arith, le)))

  pub reported_chosen : (first second : Option Head) → ReportsHead 0 (c 0) (Ok first) → ReportsHead 1 (c 1) (Ok second)
      → ReportsChosen c (Ok (greater_of first second))
  reported_chosen None None first second = each_below_two (λ number. IsOpen (c number) → ⊥) first second
  reported_chosen (Some a) None first second =
      chosen_of 0 a (omega arith) first (λ o. first.formed) (unformed 1 second) (itself 0) (unopened 0 1 second)
  reported_chosen None (Some b) first second =
      chosen_of 1 b (omega arith) second (unformed 0 first) (λ o. second.formed) (unopened 1 0 first) (itself 1)
  reported_chosen (Some a) (Some b) first second = both_chosen a b first second (nat_lt a.epoch b.epoch) refl

  first_formed : (first : Option Head) → ReportsHead 0 (c 0) (Ok first) → (number : ℕ) → number < 1 → Formed number
  first_formed None shut zero less opened = absurd (shut opened)
  first_formed (Some head) its zero less opened = its.formed
  first_formed found reported (suc number) less opened = absurd (omega (arith, less))

  pub second_misformed : (first : Option Head) (wrong : StoreFault) → ReportsHead 0 (c 0) (Ok first)
      → ReportsHead 1 (c 1) (Err wrong) → ReportsChosen c (Err wrong)
  second_misformed first (fault.BadStore bad offset) formed reported =
      subst (λ n. BreaksForm c n offset) (sym reported.0) (record {
        image_file = omega arith;
        is_open = reported.1;
        wrong = reported.2;
        first = first_formed first formed;
      })
  second_misformed first other formed reported = tt
