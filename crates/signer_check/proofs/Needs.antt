-- What is missing, in place of the threshold and the sum so far.
use Rattle.signer_check.proofs.Prelude.{◌≡◌, ℕ, ◌+◌, ◌-◌, Bool, true, leb, cond, ◌||◌, List, [], ◌∷◌, ◌++◌, map, Option}
use Rattle.signer_check.proofs.Prelude.{Some, None, refl, sym, ap, ◌∙◌, arith, inl, inr, option_and_then, le-leb}
use Rattle.signer_check.proofs.Prelude.{lt-leb, cases_lt, Signer, HeldSignature, Counted, weight_of, reaches}
use Rattle.signer_check.proofs.Prelude.{until_reached, used_for, missing_with, missing_after, used_by}
use Rattle.std.specs.Prelude.{is_none}

-- only the difference of the threshold and the sum matters
same_test : (k need sum : ℕ) → leb (k + need) (k + sum) ≡ leb need sum
same_test k need sum =
    elim (cases_lt sum need) [
      | inl lt ↦ lt-leb (k + need) (k + sum) (omega arith) ∙ sym (lt-leb need sum lt)
      | inr le ↦ le-leb (k + need) (k + sum) (omega arith) ∙ sym (le-leb need sum le)
    ]

reaches_alike : (k need sum sum' : ℕ) (cs : List Counted) → k + sum ≡ sum'
    → reaches (k + need) sum' cs ≡ reaches need sum cs
unfolding reaches
reaches_alike k need sum sum' [] e = refl
reaches_alike k need sum sum' (c ∷ cs) e =
    let sums : k + (sum + c.weight) ≡ sum' + c.weight = omega arith in
    ap (λ (n : ℕ). leb (k + need) n || reaches (k + need) (sum' + c.weight) cs) (sym sums)
    ∙ ap (λ (b : Bool). b || reaches (k + need) (sum' + c.weight) cs) (same_test k need (sum + c.weight))
    ∙ ap (λ (b : Bool). leb need (sum + c.weight) || b) (reaches_alike k need (sum + c.weight)
    (sum' + c.weight) cs sums)

until_alike : (k need sum sum' : ℕ) (cs : List Counted) → k + sum ≡ sum'
    → until_reached (k + need) sum' cs ≡ until_reached need sum cs
unfolding until_reached
until_alike k need sum sum' [] e = refl
until_alike k need sum sum' (c ∷ cs) e =
    let sums : k + (sum + c.weight) ≡ sum' + c.weight = omega arith in
    ap (λ (n : ℕ). c ∷ cond (leb (k + need) n) [] (until_reached (k + need) (sum' + c.weight) cs)) (sym sums)
    ∙ ap (λ (b : Bool). c ∷ cond b [] (until_reached (k + need) (sum' + c.weight) cs)) (same_test k need
    (sum + c.weight))
    ∙ ap (λ (l : List Counted). c ∷ cond (leb need (sum + c.weight)) [] l) (until_alike k need (sum + c.weight)
    (sum' + c.weight) cs sums)

-- whether the threshold is reached, and what counts until then, from what is missing on
abbrev pub reaches_from : Option ℕ → List Counted → Bool
reaches_from None cs = true
reaches_from (Some missing) cs = reaches missing 0 cs

abbrev pub until_from : Option ℕ → List Counted → List Counted
until_from None cs = []
until_from (Some missing) cs = until_reached missing 0 cs

pub reaches_step : (need : ℕ) (c : Counted) (cs : List Counted)
    → reaches need 0 (c ∷ cs) ≡ reaches_from (missing_with need c.weight) cs
unfolding reaches
reaches_step need c cs =
    elim (cases_lt c.weight need) [
      | inl lt ↦ rw (lt-leb need (0 + c.weight) (omega arith), lt-leb need c.weight lt) (
          let e : c.weight + (need - c.weight) ≡ need = omega arith in
          ap (λ (n : ℕ). reaches n (0 + c.weight) cs) (sym e)
          ∙ reaches_alike c.weight (need - c.weight) 0 (0 + c.weight) cs (omega arith))
      | inr le ↦ rw (le-leb need (0 + c.weight) (omega arith), le-leb need c.weight le) refl
    ]

pub until_step : (need : ℕ) (c : Counted) (cs : List Counted)
    → until_reached need 0 (c ∷ cs) ≡ c ∷ until_from (missing_with need c.weight) cs
unfolding until_reached
until_step need c cs =
    elim (cases_lt c.weight need) [
      | inl lt ↦ rw (lt-leb need (0 + c.weight) (omega arith), lt-leb need c.weight lt) (
          let e : c.weight + (need - c.weight) ≡ need = omega arith in
          ap (λ (l : List Counted). c ∷ l) (ap (λ (n : ℕ). until_reached n (0 + c.weight) cs) (sym e)
          ∙ until_alike c.weight (need - c.weight) 0 (0 + c.weight) cs (omega arith)))
      | inr le ↦ rw (le-leb need (0 + c.weight) (omega arith), le-leb need c.weight le) refl
    ]

-- ---- some signers, and others after them

-- what is missing after more signers
abbrev pub then_missing : Option ℕ → List Counted → Option ℕ
then_missing o cs = option_and_then (λ missing. missing_after missing cs) o

missing_on : (o : Option ℕ) (xs cs : List Counted)
    → ((missing : ℕ) → missing_after missing (xs ++ cs) ≡ then_missing (missing_after missing xs) cs)
    → then_missing o (xs ++ cs) ≡ then_missing (then_missing o xs) cs
missing_on None xs cs rest = refl
missing_on (Some missing) xs cs rest = rest missing

pub missing_joined : (need : ℕ) (xs cs : List Counted)
    → missing_after need (xs ++ cs) ≡ then_missing (missing_after need xs) cs
missing_joined need [] cs = refl
missing_joined need (x ∷ xs) cs =
    missing_on (missing_with need x.weight) xs cs (λ missing. missing_joined missing xs cs)

use_on : (o : Option ℕ) (xs cs : List Counted) (signatures : List HeldSignature)
    → ((missing : ℕ) → used_for (until_reached missing 0 (xs ++ cs)) signatures
    ≡ used_for (until_from (missing_after missing xs) cs) (used_for (until_reached missing 0 xs) signatures))
    → used_for (until_from o (xs ++ cs)) signatures
    ≡ used_for (until_from (then_missing o xs) cs) (used_for (until_from o xs) signatures)
unfolding used_for
use_on None xs cs signatures rest = refl
use_on (Some missing) xs cs signatures rest = rest missing

pub use_joined : (need : ℕ) (xs cs : List Counted) (signatures : List HeldSignature)
    → used_for (until_reached need 0 (xs ++ cs)) signatures
    ≡ used_for (until_from (missing_after need xs) cs) (used_for (until_reached need 0 xs) signatures)
unfolding used_for until_reached
use_joined need [] cs signatures = refl
use_joined need (x ∷ xs) cs signatures =
    ap (λ (l : List Counted). used_for l signatures) (until_step need x (xs ++ cs))
    ∙ use_on (missing_with need x.weight) xs cs (used_by x.signature signatures)
    (λ missing. use_joined missing xs cs (used_by x.signature signatures))
    ∙ ap (λ (l : List Counted). used_for (until_from (then_missing (missing_with need x.weight) xs) cs)
    (used_for l signatures)) (sym (until_step need x xs))

-- What is known once some of all signers counted: what is missing, which signers are ahead, and the signatures now.
pub record Passed (need : ℕ) (all : List Counted) (before : List HeldSignature) (o : Option ℕ) (rest : List Counted)
    (now : List HeldSignature) : Type 0 where
  pub missing : missing_after need all ≡ then_missing o rest
  pub used : used_for (until_reached need 0 all) before ≡ used_for (until_from o rest) now

pub passed_next : (need : ℕ) (all : List Counted) (before : List HeldSignature) (m : ℕ) (xs rest : List Counted)
    (now : List HeldSignature) → Passed need all before (Some m) (xs ++ rest) now
    → Passed need all before (missing_after m xs) rest (used_for (until_reached m 0 xs) now)
passed_next need all before m xs rest now passed = record {
  missing = passed.missing ∙ missing_joined m xs rest;
  used = passed.used ∙ use_joined m xs rest now;
}

-- the weight is reached
pub passed_end : (need : ℕ) (all : List Counted) (before : List HeldSignature) (o : Option ℕ) (rest : List Counted)
    (now : List HeldSignature) → o ≡ None → Passed need all before o rest now
    → (None ≡ missing_after need all) × (now ≡ used_for (until_reached need 0 all) before)
unfolding used_for
passed_end need all before o rest now none passed = (
  sym (passed.missing ∙ ap (λ (x : Option ℕ). then_missing x rest) none),
  sym (passed.used ∙ ap (λ (x : Option ℕ). used_for (until_from x rest) now) none),
)

-- whether a weight is reached
reached_on : (o : Option ℕ) (cs : List Counted)
    → ((missing : ℕ) → reaches missing 0 cs ≡ is_none (missing_after missing cs))
    → reaches_from o cs ≡ is_none (then_missing o cs)
reached_on None cs rest = refl
reached_on (Some missing) cs rest = rest missing

pub reached_where_nothing_is_missing : (need : ℕ) (cs : List Counted)
    → reaches need 0 cs ≡ is_none (missing_after need cs)
unfolding reaches
reached_where_nothing_is_missing need [] = refl
reached_where_nothing_is_missing need (c ∷ cs) =
    reaches_step need c cs
    ∙ reached_on (missing_with need c.weight) cs (λ missing. reached_where_nothing_is_missing missing cs)

-- ---- signers that count by no signature

abbrev pub unsigned : Signer → Counted
unsigned signer = record { weight = weight_of signer; signature = None }

unsigned_on : (o : Option ℕ) (signers : List Signer) (signatures : List HeldSignature)
    → ((missing : ℕ) → used_for (until_reached missing 0 (map unsigned signers)) signatures ≡ signatures)
    → used_for (until_from o (map unsigned signers)) signatures ≡ signatures
unfolding used_for
unsigned_on None signers signatures rest = refl
unsigned_on (Some missing) signers signatures rest = rest missing

-- they use no signature
pub unsigned_use : (need : ℕ) (signers : List Signer) (signatures : List HeldSignature)
    → used_for (until_reached need 0 (map unsigned signers)) signatures ≡ signatures
unfolding used_for until_reached
unsigned_use need [] signatures = refl
unsigned_use need (x ∷ xs) signatures =
    ap (λ (l : List Counted). used_for l signatures) (until_step need (unsigned x) (map unsigned xs))
    ∙ unsigned_on (missing_with need (weight_of x)) xs signatures (λ missing. unsigned_use missing xs signatures)
