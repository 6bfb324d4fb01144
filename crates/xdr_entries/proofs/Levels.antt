-- Predicates of a number of levels.
use Rattle.xdr_entries.proofs.Prelude.{◌≡◌, ℕ, zero, suc, ◌-◌, ◌<◌, List, ◌++◌, Err, refl, arith, refused, predicate_of}
use Rattle.xdr_entries.proofs.Prelude.{predicate_below}
use Rattle.xdr_core.specs.Position.{Position, fault_at}
use Rattle.xdr_core.specs.declared.fault.XdrKind.TheVariants.{TooDeep}
use Rattle.ledger_types.specs.declared.predicate.ClaimPredicate.{ClaimPredicate}
use Rattle.xdr_entries.proofs.PredicateLaws.{predicate_below_laws}

pub one_level_more : (levels : ℕ) (p : Position) → 0 < levels → (predicate_below levels).read p
    ≡ (predicate_of (predicate_below (levels - 1))).read p
unfolding predicate_below
one_level_more zero p lt = absurd (omega arith)
one_level_more (suc levels) p lt = let e : suc levels - 1 ≡ levels = omega arith in rw e refl

-- a predicate of no level is refused
pub no_level : (levels : ℕ) (p : Position) → levels ≡ 0 → (predicate_below levels).read p ≡ Err (fault_at p TooDeep)
unfolding predicate_below refused
no_level zero p e = refl
no_level (suc levels) p e = absurd (omega arith)

pub ruleset levels_read = (one_level_more, no_level)

-- a predicate that has an encoding has a level
pub some_level : (levels : ℕ) (v : ClaimPredicate) → (predicate_below levels).within v → 0 < levels
unfolding predicate_below refused
some_level zero v h = absurd h
some_level (suc levels) v h = omega arith

-- what is written after some bytes is the encoding of a predicate of one level more
pub written_one_level_more : (levels : ℕ) (out : List ℕ) (v : ClaimPredicate) → 0 < levels
    → (predicate_of (predicate_below (levels - 1))).onto out v ≡ out ++ (predicate_below levels).encoding v
unfolding predicate_below
written_one_level_more zero out v lt = absurd (omega arith)
written_one_level_more (suc levels) out v lt =
    let e : suc levels - 1 ≡ levels = omega arith in rw e ((predicate_below_laws (suc levels)).lawful.appends out v)

pub within_one_level_more : (levels : ℕ) (v : ClaimPredicate) → 0 < levels → (predicate_below levels).within v
    → (predicate_of (predicate_below (levels - 1))).within v
unfolding predicate_below
within_one_level_more zero v lt h = absurd (omega arith)
within_one_level_more (suc levels) v lt h = let e : suc levels - 1 ≡ levels = omega arith in rw e h
