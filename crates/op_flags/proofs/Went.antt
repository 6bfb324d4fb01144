-- What has passed: tests that let a step through, and steps of operations that went on.
use Rattle.op_flags.proofs.Prelude.{◌≡◌, refl, Option, Some, None, Result, Ok, Err, OperationResult, EntryMap, Tests}
use Rattle.op_flags.proofs.Prelude.{first_fault, AddFault, unless_result, unless_refused, after, after_some}
use Rattle.op_flags.proofs.Prelude.{after_charge}

-- an operation that went on
pub went_on : {A : Type 0} (tests : Tests OperationResult) (next : Result A OperationResult) (a : A)
    → unless_refused tests next ≡ Ok a → (first_fault tests ≡ None) × (next ≡ Ok a)
went_on {A} tests next a is = elim (first_fault tests) as (λ o. first_fault tests ≡ o → unless_result o next ≡ Ok a
    → (first_fault tests ≡ None) × (next ≡ Ok a)) [
      | None ↦ λ none done. (none, done)
      | Some result ↦ λ some done. absurd (cc)
    ] refl is

pub went_after : {A B : Type 0} (r : Result A OperationResult) (next : A → Result B OperationResult) (b : B)
    → after r next ≡ Ok b → (a : A) × (r ≡ Ok a) × (next a ≡ Ok b)
went_after (Err result) next b is = absurd (cc)
went_after (Ok a) next b is = (a, refl, is)

pub went_after_some : {A B : Type 0} (o : Option A) (result : OperationResult) (next : A → Result B OperationResult)
    (b : B) → after_some o result next ≡ Ok b → (a : A) × (o ≡ Some a) × (next a ≡ Ok b)
went_after_some None result next b is = absurd (cc)
went_after_some (Some a) result next b is = (a, refl, is)

pub went_after_charge : {B : Type 0} (r : Result EntryMap AddFault) (low : OperationResult)
    (next : EntryMap → Result B OperationResult) (b : B) → after_charge r low next ≡ Ok b
    → (m : EntryMap) × (r ≡ Ok m) × (next m ≡ Ok b)
went_after_charge (Err fault) low next b is = absurd (cc)
went_after_charge (Ok m) low next b is = (m, refl, is)
