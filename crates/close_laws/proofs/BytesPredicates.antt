-- A predicate whose times are fixed can be written where it could before.
use Rattle.close_laws.proofs.Prelude.{◌≡◌, ℕ, zero, suc, ◌≤◌, refl, sym, subst, List, [], ◌∷◌, map, All, Option, Some}
use Rattle.close_laws.proofs.Prelude.{None, Bool, true, false, if◌then◌else◌, arith, ints, length-map, All-nil}
use Rattle.close_laws.proofs.Prelude.{All-cons, All-head, All-tail, ◌+ℤ◌, int_lt, FitsSigned, w64, AllByRecursion}
use Rattle.close_laws.proofs.Prelude.{Claimant, AccountId, ClaimPredicate, Unconditional, out-ClaimPredicate}
use Rattle.close_laws.proofs.Prelude.{out-roll-ClaimPredicate, ClaimPredicate-F, i64, list, option, refused, constant}
use Rattle.close_laws.proofs.Prelude.{Xdr, optional, list_of, claimant, level, predicate_below, greatest_i64}
use Rattle.close_laws.proofs.Prelude.{max_levels, time_after, fixed_level, fixed_below, fixed_claimant, IsEncoded}
use Rattle.std.proofs.Common.{ℤ, pos}
use Rattle.std.specs.Option.{option_map}
use Rattle.close_laws.proofs.Bytes.{IsId, IsClaimant}

-- ---- lists and options, value by value

all_mapped : {V : Type 0} (f : Xdr V) (g : V → V) (vs : List V) → ((v : V) → IsEncoded f v → IsEncoded f (g v))
    → AllByRecursion f.within vs → AllByRecursion f.sized vs
    → AllByRecursion f.within (map g vs) × AllByRecursion f.sized (map g vs)
all_mapped f g [] keep within sized = (tt, tt)
all_mapped f g (v ∷ vs) keep within sized =
    let first = keep v (record { within = within.0; sized = sized.0 }) in
    let rest = all_mapped f g vs keep within.1 sized.1 in
    ((first.within, rest.0), (first.sized, rest.1))

list_mapped : {V : Type 0} (max : ℕ) (f : Xdr V) (g : V → V) (vs : List V)
    → ((v : V) → IsEncoded f v → IsEncoded f (g v)) → IsEncoded (list_of max f) vs
    → IsEncoded (list_of max f) (map g vs)
unfolding list
list_mapped max f g vs keep encoded =
    let both = all_mapped f g vs keep encoded.within.1 encoded.sized in
    record {
      within = (subst (λ n. n ≤ max) (sym (length-map vs g)) encoded.within.0, both.0);
      sized = both.1;
    }

option_mapped : {V : Type 0} (f : Xdr V) (g : V → V) (found : Option V)
    → ((v : V) → IsEncoded f v → IsEncoded f (g v)) → IsEncoded (optional f) found
    → IsEncoded (optional f) (option_map g found)
unfolding option
option_mapped f g None keep encoded = encoded
option_mapped f g (Some v) keep encoded =
    let new = keep v (record { within = encoded.within; sized = encoded.sized }) in
    record { within = new.within; sized = new.sized }

-- ---- times

least_fits : (t : ℕ) (s : ℤ) → FitsSigned w64 s → (b : Bool) → int_lt (pos t +ℤ s) greatest_i64 ≡ b
    → FitsSigned w64 (if b then pos t +ℤ s else greatest_i64)
least_fits t s fits true is = grind (arith, ints)
least_fits t s fits false is = grind (arith, ints)

time_encoded : (t : ℕ) (s : ℤ) → IsEncoded i64 s → IsEncoded i64 (time_after t s)
unfolding i64
time_encoded t s encoded = record {
  within = tt;
  sized = least_fits t s encoded.sized (int_lt (pos t +ℤ s) greatest_i64) refl;
}

-- ---- predicates

module _ (t n f : ℕ) (below : (p : ClaimPredicate) → IsEncoded (predicate_below f) p
    → IsEncoded (predicate_below f) (fixed_below t n p)) where
  level_encoded : (x : ClaimPredicate-F ClaimPredicate) → IsEncoded (level (predicate_below f)) x
      → IsEncoded (level (predicate_below f)) (fixed_level t (fixed_below t n) x)
  level_encoded ClaimPredicate-F.Unconditional encoded = encoded
  level_encoded (ClaimPredicate-F.And parts) encoded =
      let new = list_mapped 2 (predicate_below f) (fixed_below t n) parts below
      (record { within = encoded.within; sized = encoded.sized }) in
      record { within = new.within; sized = new.sized }
  level_encoded (ClaimPredicate-F.Or parts) encoded =
      let new = list_mapped 2 (predicate_below f) (fixed_below t n) parts below
      (record { within = encoded.within; sized = encoded.sized }) in
      record { within = new.within; sized = new.sized }
  level_encoded (ClaimPredicate-F.Not part) encoded =
      let new = option_mapped (predicate_below f) (fixed_below t n) part below
      (record { within = encoded.within; sized = encoded.sized }) in
      record { within = new.within; sized = new.sized }
  level_encoded (ClaimPredicate-F.BeforeAbsoluteTime time) encoded = encoded
  level_encoded (ClaimPredicate-F.BeforeRelativeTime seconds) encoded =
      let new = time_encoded t seconds (record { within = encoded.within; sized = encoded.sized }) in
      record { within = new.within; sized = new.sized }

fixed_encoded : (t n f : ℕ) (p : ClaimPredicate) → IsEncoded (predicate_below f) p
    → IsEncoded (predicate_below f) (fixed_below t n p)
unfolding fixed_below predicate_below refused
fixed_encoded t zero f p encoded = encoded
fixed_encoded t (suc n) zero p encoded = absurd encoded.within
fixed_encoded t (suc n) (suc f) p encoded =
    let new = level_encoded t n f (fixed_encoded t n f) (out-ClaimPredicate p)
    (record { within = encoded.within; sized = encoded.sized }) in
    let made = subst (IsEncoded (level (predicate_below f)))
    (sym (out-roll-ClaimPredicate (fixed_level t (fixed_below t n) (out-ClaimPredicate p)))) new in
    record { within = made.within; sized = made.sized }

-- ---- claimants

claimant_fixed : (t : ℕ) (one : Claimant) → IsClaimant one → IsClaimant (fixed_claimant t one)
unfolding claimant
claimant_fixed t one encoded =
    let new = fixed_encoded t max_levels 32 one.predicate
    (record { within = encoded.within.1.1; sized = encoded.sized.1.1 }) in
    record {
      within = (encoded.within.0, (encoded.within.1.0, new.within));
      sized = (encoded.sized.0, (encoded.sized.1.0, new.sized));
    }

pub claimants_fixed : (t : ℕ) (claimants : List Claimant) → All IsClaimant claimants
    → All IsClaimant (map (fixed_claimant t) claimants)
claimants_fixed t [] all = All-nil IsClaimant
claimants_fixed t (one ∷ others) all =
    All-cons IsClaimant (fixed_claimant t one) (map (fixed_claimant t) others)
    (claimant_fixed t one (All-head IsClaimant one others all))
    (claimants_fixed t others (All-tail IsClaimant one others all))

-- ---- no condition

unconditional_encoded : (levels : ℕ) → IsEncoded (predicate_below (suc levels)) Unconditional
unfolding predicate_below out-ClaimPredicate denote.Hole.Carrier.out
unconditional_encoded levels = record { within = tt; sized = tt }

pub unconditional_claimant : (id : AccountId) → IsId id
    → IsClaimant (record { destination = id; predicate = Unconditional })
unfolding claimant constant
unconditional_claimant id named =
    let always = unconditional_encoded 31 in
    record {
      within = (tt, (named.within, always.within));
      sized = (tt, (named.sized, always.sized));
    }
