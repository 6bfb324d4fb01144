-- The format of predicates (ClaimPredicate in Stellar-ledger-entries.x; CAP-0023).
use Rattle.std.specs.Prelude.{ℕ, zero, suc, pos, List, [], ◌∷◌}
use Rattle.xdr_core.specs.declared.fault.XdrFault.{XdrFault}
use Rattle.xdr_core.specs.Leaves.{i64}
use Rattle.xdr_core.specs.Combinators.{Fields, struct_of, empty, Arm, Part, part}
use Rattle.xdr_core.specs.Xdr.{Xdr, optional, list_of, union_of, too_deep}
use Rattle.ledger_types.specs.declared.predicate.ClaimPredicate.{ClaimPredicate}
use Rattle.ledger_types.specs.declared.predicate.ClaimPredicate.TheViews.{out-ClaimPredicate, roll-ClaimPredicate}
use Rattle.ledger_types.specs.declared.predicate.ClaimPredicate.TheViews.{out-roll-ClaimPredicate}
use Rattle.ledger_types.specs.declared.predicate.ClaimPredicate.TheViews.{roll-out-ClaimPredicate}
use Rattle.ledger_types.specs.declared.predicate.ClaimPredicate.TheOpen.{ClaimPredicate-F}
use Rattle.xdr_entries.specs.Basic.{arm}

-- ---- one level: P are the predicates below it

abbrev pub unconditional : {P : Type 0} → Arm XdrFault (ClaimPredicate-F P)
unconditional = arm (pos 0) empty (λ v. ClaimPredicate-F.Unconditional)

abbrev pub and_arm : {P : Type 0} → Xdr P → Arm XdrFault (ClaimPredicate-F P)
and_arm below = arm (pos 1) (list_of 2 below) ClaimPredicate-F.And

abbrev pub or_arm : {P : Type 0} → Xdr P → Arm XdrFault (ClaimPredicate-F P)
or_arm below = arm (pos 2) (list_of 2 below) ClaimPredicate-F.Or

abbrev pub not_arm : {P : Type 0} → Xdr P → Arm XdrFault (ClaimPredicate-F P)
not_arm below = arm (pos 3) (optional below) ClaimPredicate-F.Not

abbrev pub before_absolute_time : {P : Type 0} → Arm XdrFault (ClaimPredicate-F P)
before_absolute_time = arm (pos 4) i64 ClaimPredicate-F.BeforeAbsoluteTime

abbrev pub before_relative_time : {P : Type 0} → Arm XdrFault (ClaimPredicate-F P)
before_relative_time = arm (pos 5) i64 ClaimPredicate-F.BeforeRelativeTime

abbrev pub level_arms : {P : Type 0} → Xdr P → List (Arm XdrFault (ClaimPredicate-F P))
level_arms below =
    unconditional ∷ and_arm below ∷ or_arm below ∷ not_arm below ∷ before_absolute_time ∷ before_relative_time ∷ []

abbrev pub level_part : {P : Type 0} → Xdr P → ClaimPredicate-F P → Part XdrFault (ClaimPredicate-F P)
level_part below ClaimPredicate-F.Unconditional = part unconditional tt
level_part below (ClaimPredicate-F.And parts) = part (and_arm below) parts
level_part below (ClaimPredicate-F.Or parts) = part (or_arm below) parts
level_part below (ClaimPredicate-F.Not inner) = part (not_arm below) inner
level_part below (ClaimPredicate-F.BeforeAbsoluteTime time) = part before_absolute_time time
level_part below (ClaimPredicate-F.BeforeRelativeTime seconds) = part before_relative_time seconds

abbrev pub level : {P : Type 0} → Xdr P → Xdr (ClaimPredicate-F P)
level below = union_of (level_part below) (level_arms below)

abbrev pub level_fields : Fields (ClaimPredicate-F ClaimPredicate) ClaimPredicate
level_fields = record {
  to = roll-ClaimPredicate;
  from = out-ClaimPredicate;
  there = out-roll-ClaimPredicate;
  back = roll-out-ClaimPredicate;
}

-- a predicate over those below it
abbrev pub predicate_of : Xdr ClaimPredicate → Xdr ClaimPredicate
predicate_of below = struct_of level_fields (level below)

-- ---- predicates of a number of levels at most

unfoldable pub predicate_below : ℕ → Xdr ClaimPredicate
predicate_below zero = too_deep
predicate_below (suc levels) = predicate_of (predicate_below levels)

-- at most 32 levels, the outermost one counted
abbrev pub claim_predicate : Xdr ClaimPredicate
claim_predicate = predicate_below 32
