-- What a call answers, computed, where its contract says that a value is there exactly where something holds.
use Rattle.definition_rows.proofs.Prelude.{◌≡◌, refl, sym, ap, ℕ, ◌<◌, ◌≤◌, ◌⊎◌, inl, inr, ◌↔◌, Bool, true, false, not}
use Rattle.definition_rows.proofs.Prelude.{◌&&◌, ◌||◌, Option, Some, None, SomeIff, nat_eq, nat_le, nat_lt, Decides}
use Rattle.definition_rows.proofs.Prelude.{then_some, Ordering, Less, Equal, Greater, leb-true, le-leb, ltb-true}
use Rattle.definition_rows.proofs.Prelude.{lt-ltb, and_parts, and_from, false≢true}

pub answers_so : {V : Type 0} (answer : Option V) (P : Type 0) (v : V) (test : Bool) → Decides test P
    → SomeIff answer P v → answer ≡ then_some test v
answers_so None P v true decides none = absurd (none (decides.0 refl))
answers_so None P v false decides none = refl
answers_so (Some x) P v true decides some = ap (λ y. Some y) some.1
answers_so (Some x) P v false decides some = absurd (false≢true (decides.1 some.0))

-- ---- tests of what definitions state

pub nat_le_decides : (m n : ℕ) → Decides (nat_le m n) (m ≤ n)
nat_le_decides m n = (leb-true m n, le-leb m n)

pub below : (m n : ℕ) → Decides (nat_lt m n) (m < n)
below m n = (ltb-true m n, lt-ltb m n)

pub and_decides : {P Q : Type 0} (p q : Bool) → Decides p P → Decides q Q → Decides (p && q) (P × Q)
and_decides p q decides_p decides_q = (
  λ e. let parts = and_parts p q e in (decides_p.0 parts.0, decides_q.0 parts.1),
  λ h. and_from p q (decides_p.1 h.0) (decides_q.1 h.1),
)

pub or_decides : {P Q : Type 0} (p q : Bool) → Decides p P → Decides q Q → Decides (p || q) (P ⊎ Q)
or_decides true q decides_p decides_q = (λ e. inl (decides_p.0 refl), λ h. refl)
or_decides false q decides_p decides_q = (
  λ e. inr (decides_q.0 e),
  λ h. elim h [ inl x ↦ absurd (false≢true (decides_p.1 x)) | inr y ↦ decides_q.1 y ],
)

-- a call that answers false exactly where P holds
pub not_where : {P : Type 0} (answer test : Bool) → Decides test P → ((answer ≡ false) ↔ P)
    → answer ≡ not test
not_where true true decides false_where = absurd (false≢true (sym (false_where.1 (decides.0 refl))))
not_where true false decides false_where = refl
not_where false true decides false_where = refl
not_where false false decides false_where = absurd (false≢true (decides.1 (false_where.0 refl)))

-- ---- equal values

abbrev pub same_numbers : Option ℕ → Option ℕ → Bool
same_numbers None None = true
same_numbers (Some m) (Some n) = nat_eq m n
same_numbers a b = false

abbrev pub same_orders : Ordering → Ordering → Bool
same_orders Less Less = true
same_orders Equal Equal = true
same_orders Greater Greater = true
same_orders a b = false

abbrev pub same_flags : Bool → Bool → Bool
same_flags true b = b
same_flags false true = false
same_flags false false = true
