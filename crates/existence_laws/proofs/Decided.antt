-- Claims that hold or don't.
use Rattle.existence_laws.proofs.Prelude.{◌≡◌, ◌⊎◌, inl, inr, ℕ, suc, ◌≤◌, pos, negsuc, Bool, true, false, ◌||◌, List}
use Rattle.existence_laws.proofs.Prelude.{[], ◌∷◌, All, refl, sym, ap, subst, arith, ◌≤ℤ◌, ◌<ℤ◌, Coded, list_any}
use Rattle.existence_laws.proofs.Prelude.{AllPairs, eq_by_cmp, cases_lt, cases_eq, All-nil, All-cons, All-head}
use Rattle.existence_laws.proofs.Prelude.{All-tail, LedgerKey, key_cmp, same_keys}
use Rattle.std.proofs.Common.{ℤ}
use Rattle.std.proofs.lemmas.Int.{ints}
use Rattle.std.proofs.lemmas.List.Kept.{AllPairs-cons}
use base.Stored.{Gv, gnil, gnum, gcons}
use Rattle.close_laws.proofs.entry_map_proofs.KeyMaps.{same_itself}

abbrev pub Decided : Type 0 → Type 0
Decided A = A ⊎ (A → ⊥)

-- ---- claims of claims

pub decided_as : {A B : Type 0} → (A → B) → (B → A) → Decided A → Decided B
decided_as to from (inl a) = inl (to a)
decided_as to from (inr fails) = inr (λ b. fails (from b))

pub both : {A B : Type 0} → Decided A → Decided B → Decided (A × B)
both (inl a) (inl b) = inl (a, b)
both (inl a) (inr fails) = inr (λ h. fails h.1)
both (inr fails) b = inr (λ h. fails h.0)

pub all_three : {A B C : Type 0} → Decided A → Decided B → Decided C → Decided (A × B × C)
all_three a b c = decided_as (λ h. (h.0, h.1.0, h.1.1)) (λ h. (h.0, (h.1, h.2))) (both a (both b c))

pub either : {A B : Type 0} → Decided A → Decided B → Decided (A ⊎ B)
either (inl a) b = inl (inl a)
either (inr none) (inl b) = inl (inr b)
either {A} {B} (inr none) (inr fails) = inr (λ h. elim (h) as (λ x. ⊥) [ inl a ↦ none a | inr b ↦ fails b ])

pub implied : {A B : Type 0} → Decided A → Decided B → Decided (A → B)
implied (inl a) (inl b) = inl (λ _. b)
implied (inl a) (inr fails) = inr (λ f. fails (f a))
implied (inr none) b = inl (λ a. absurd (none a))

pub opposite : {A : Type 0} → Decided A → Decided (A → ⊥)
opposite (inl a) = inr (λ none. none a)
opposite (inr fails) = inl fails

-- ---- values

pub below : (a b : ℕ) → Decided (a ≤ b)
below a b = elim (cases_lt b a) [ inl lt ↦ inr (λ le. omega arith) | inr le ↦ inl le ]

pub same_number : (a b : ℕ) → Decided (a ≡ b)
same_number a b = cases_eq a b

pub is_true : (b : Bool) → Decided (b ≡ true)
is_true true = inl refl
is_true false = inr (λ e. cc)

pub below_int : (a b : ℤ) → Decided (a ≤ℤ b)
below_int (pos m) (pos n) =
    elim (cases_lt n m) [ inl lt ↦ inr (λ le. omega (arith, ints)) | inr le ↦ inl (omega (arith, ints)) ]
below_int (pos m) (negsuc n) = inr (λ le. omega (arith, ints))
below_int (negsuc m) (pos n) = inl (omega (arith, ints))
below_int (negsuc m) (negsuc n) =
    elim (cases_lt m n) [ inl lt ↦ inr (λ le. omega (arith, ints)) | inr le ↦ inl (omega (arith, ints)) ]

at_least_one : (n : ℤ) → pos 1 ≤ℤ n → pos 0 <ℤ n
at_least_one n le = omega (arith, ints)

not_none : (n : ℤ) → pos 0 <ℤ n → pos 1 ≤ℤ n
not_none n lt = omega (arith, ints)

pub above_none : (n : ℤ) → Decided (pos 0 <ℤ n)
above_none n = decided_as (at_least_one n) (not_none n) (below_int (pos 1) n)

pub same_int : (a b : ℤ) → Decided (a ≡ b)
same_int (pos m) (pos n) = elim (cases_eq m n) [ inl e ↦ inl (ap pos e) | inr other ↦ inr (λ e. other (cc)) ]
same_int (pos m) (negsuc n) = inr (λ e. cc)
same_int (negsuc m) (pos n) = inr (λ e. cc)
same_int (negsuc m) (negsuc n) = elim (cases_eq m n) [ inl e ↦ inl (ap negsuc e) | inr other ↦ inr (λ e. other (cc)) ]

same_tree : (a b : Gv) → Decided (a ≡ b)
same_tree gnil gnil = inl refl
same_tree gnil (gnum n) = inr (λ e. cc)
same_tree gnil (gcons c d) = inr (λ e. cc)
same_tree (gnum m) gnil = inr (λ e. cc)
same_tree (gnum m) (gnum n) = elim (cases_eq m n) [ inl e ↦ inl (ap gnum e) | inr other ↦ inr (λ e. other (cc)) ]
same_tree (gnum m) (gcons c d) = inr (λ e. cc)
same_tree (gcons a b) gnil = inr (λ e. cc)
same_tree (gcons a b) (gnum n) = inr (λ e. cc)
same_tree (gcons a b) (gcons c d) =
    elim (same_tree a c) [
      | inl e ↦ elim (same_tree b d) [ inl f ↦ inl (λ i. gcons (e i) (f i)) | inr other ↦ inr (λ g. other (cc)) ]
      | inr other ↦ inr (λ g. other (cc))
    ]

-- values that have a code are distinguished
pub same_value : {A : Type 0} → Coded A → (a b : A) → Decided (a ≡ b)
same_value coded a b =
    decided_as (λ e. coded.inj a b e) (λ e. ap coded.code e) (same_tree (coded.code a) (coded.code b))

-- ---- lists

pub each : {X : Type 0} (P : X → Type 0) (xs : List X) → ((x : X) → Decided (P x)) → Decided (All P xs)
each P [] one = inl (All-nil P)
each P (x ∷ xs) one =
    decided_as (λ h. All-cons P x xs h.0 h.1) (λ all. (All-head P x xs all, All-tail P x xs all))
    (both (one x) (each P xs one))

first_pairs : {X : Type 0} (R : X → X → Type 0) (x : X) (xs : List X) → AllPairs R (x ∷ xs) → All (R x) xs
first_pairs R x xs all = λ k d within. all 0 (suc k) d (omega arith) (omega (arith, within))

later_pairs : {X : Type 0} (R : X → X → Type 0) (x : X) (xs : List X) → AllPairs R (x ∷ xs) → AllPairs R xs
later_pairs R x xs all = λ i j d lt within. all (suc i) (suc j) d (omega (arith, lt)) (omega (arith, within))

pub each_pair : {X : Type 0} (R : X → X → Type 0) (xs : List X) → ((x y : X) → Decided (R x y))
    → Decided (AllPairs R xs)
each_pair R [] one = inl (λ i j d lt within. absurd (omega (arith, within)))
each_pair R (x ∷ xs) one =
    decided_as (λ h. AllPairs-cons R x xs h.0 h.1) (λ all. (first_pairs R x xs all, later_pairs R x xs all))
    (both (each (R x) xs (one x)) (each_pair R xs one))

-- ---- keys

abbrev is_in : List LedgerKey → LedgerKey → Bool
is_in ks k = list_any (eq_by_cmp key_cmp k) ks

at_keys : (Q : LedgerKey → Type 0) (x : LedgerKey) (xs : List LedgerKey) → Q x
    → ((k : LedgerKey) → is_in xs k ≡ true → Q k) → (k : LedgerKey) → is_in (x ∷ xs) k ≡ true → Q k
at_keys Q x xs here others k found = by_test (eq_by_cmp key_cmp k x) refl found
  where
    by_test : (b : Bool) → eq_by_cmp key_cmp k x ≡ b → (b || is_in xs k) ≡ true → Q k
    by_test true tied found = subst Q (sym (same_keys k x tied)) here
    by_test false tied found = others k found

prepended : (x : LedgerKey) (xs : List LedgerKey) → is_in (x ∷ xs) x ≡ true
prepended x xs = ap (λ (b : Bool). b || is_in xs x) (same_itself x)

after : (x : LedgerKey) (xs : List LedgerKey) (k : LedgerKey) → is_in xs k ≡ true → is_in (x ∷ xs) k ≡ true
after x xs k found = by_test (eq_by_cmp key_cmp k x)
  where
    by_test : (b : Bool) → (b || is_in xs k) ≡ true
    by_test true = refl
    by_test false = found

each_key : (Q : LedgerKey → Type 0) (ks : List LedgerKey) → ((k : LedgerKey) → Decided (Q k))
    → Decided ((k : LedgerKey) → is_in ks k ≡ true → Q k)
each_key Q [] one = inl (λ k found. absurd (cc (found)))
each_key Q (x ∷ xs) one =
    decided_as (λ h. at_keys Q x xs h.0 h.1) (λ all. (all x (prepended x xs), λ k found. all k (after x xs k found)))
    (both (one x) (each_key Q xs one))

-- what holds of each key that isn't in a list is decided by those in it
pub all_keys : (Q : LedgerKey → Type 0) (ks : List LedgerKey)
    → ((k : LedgerKey) → list_any (eq_by_cmp key_cmp k) ks ≡ false → Q k) → ((k : LedgerKey) → Decided (Q k))
    → Decided ((k : LedgerKey) → Q k)
all_keys Q ks others one =
    decided_as (λ listed k. by_test listed k (is_in ks k) refl) (λ all k found. all k) (each_key Q ks one)
  where
    by_test : ((k : LedgerKey) → is_in ks k ≡ true → Q k) → (k : LedgerKey) → (b : Bool) → is_in ks k ≡ b → Q k
    by_test listed k true found = listed k found
    by_test listed k false found = others k found
