-- Where reading is in a text, and what a step of reading answers.
use Rattle.std.specs.Prelude.{◌≡◌, ℕ, ◌+◌, List, ◌++◌, length, drop, Option, Some, IfSome, Result, Ok, Err}
use Rattle.xdr_core.specs.declared.fault.XdrFault.{XdrFault}
use Rattle.xdr_core.specs.declared.fault.XdrKind.{XdrKind}
use Rattle.xdr_core.specs.declared.fault.XdrKind.TheVariants.{Short}

-- how many bytes were read, and the bytes that follow
pub record Position : Type 0 where
  pub at : ℕ
  pub rest : List ℕ

-- the position at the start of a text
abbrev pub start_of : List ℕ → Position
start_of text = record { at = 0; rest = text }

-- n bytes further on
abbrev pub onward : ℕ → Position → Position
onward n p = record { at = p.at + n; rest = drop n p.rest }

-- the same position, with more bytes after the text
abbrev pub followed : Position → List ℕ → Position
followed p more = record { at = p.at; rest = p.rest ++ more }

-- where the text ends
abbrev pub end_of : Position → ℕ
end_of p = p.at + length p.rest

-- a fault at the first byte ahead
abbrev pub fault_at : Position → XdrKind → XdrFault
fault_at p kind = record { at = p.at; kind = kind }

-- the text ends too early: the fault names the length of the entire text
abbrev pub short_at : Position → XdrFault
short_at p = record { at = end_of p; kind = Short }

-- a value and the position after it, or a fault
abbrev pub Reading : Type 0 → Type 0 → Type 0
Reading F A = Result (A × Position) F

-- one step after another, up to the first fault
infixl 10 ◌>>=◌
abbrev pub ◌>>=◌ : {F A B : Type 0} → Result A F → (A → Result B F) → Result B F
(Ok x) >>= f = f x
(Err e) >>= f = Err e

-- the same answer with its fault seen as another type's
abbrev pub with_fault : {E F A : Type 0} → (E → F) → Result A E → Result A F
with_fault as_fault (Ok x) = Ok x
with_fault as_fault (Err e) = Err (as_fault e)

-- What a reader answered, seen by a view, is what reading gives. With a value the reader is after it; with a failure it
-- is where it was. A failure has a fault of the text as its cause, or none where memory was refused, which says nothing
-- of the text.
abbrev pub ReadsBy : {X Y D F : Type 0} → (X → Y) → (D → Option F) → Result X D → Position → Position → Reading F Y
    → Type 0
ReadsBy view cause (Ok x) old new reading = reading ≡ Ok (view x, new)
ReadsBy view cause (Err d) old new reading = IfSome (cause d) (λ fault. reading ≡ Err fault) × (new ≡ old)

-- the same where the value is seen as it is
abbrev pub Reads : {X D F : Type 0} → (D → Option F) → Result X D → Position → Position → Reading F X → Type 0
Reads cause result old new reading = ReadsBy (λ x. x) cause result old new reading

-- the cause of a fault that is one of the text
abbrev pub itself : {F : Type 0} → F → Option F
itself fault = Some fault
