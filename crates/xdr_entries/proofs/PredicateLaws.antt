-- The laws of predicates.
use Rattle.xdr_entries.proofs.Prelude as prelude
use prelude.{ℕ, zero, suc, refl, arith, Laws, i64_laws, empty_laws, too_deep_laws, struct_laws, option_laws, list_laws}
use prelude.{arm_laws, found, union_laws, IsFound, unconditional, and_arm, or_arm, not_arm, before_absolute_time}
use prelude.{before_relative_time, level_arms, level_part, level, level_fields, predicate_below, claim_predicate}
use Rattle.xdr_core.specs.Xdr.{Xdr}
use Rattle.ledger_types.specs.declared.predicate.ClaimPredicate.TheOpen.{ClaimPredicate-F}

module _ {P : Type 0} {below : Xdr P} (law : Laws below) where
  level_found : (v : ClaimPredicate-F P) → IsFound (level_part below) (level_arms below) v
  level_found ClaimPredicate-F.Unconditional = found unconditional tt empty_laws tt refl refl (λ _ _ _. refl)
  level_found (ClaimPredicate-F.And parts) =
      found (and_arm below) parts (list_laws 2 (omega arith) law) tt refl refl (λ _ _ _. refl)
  level_found (ClaimPredicate-F.Or parts) =
      found (or_arm below) parts (list_laws 2 (omega arith) law) tt refl refl (λ _ _ _. refl)
  level_found (ClaimPredicate-F.Not inner) = found (not_arm below) inner (option_laws law) tt refl refl (λ _ _ _. refl)
  level_found (ClaimPredicate-F.BeforeAbsoluteTime time) =
      found before_absolute_time time i64_laws tt refl refl (λ _ _ _. refl)
  level_found (ClaimPredicate-F.BeforeRelativeTime seconds) =
      found before_relative_time seconds i64_laws tt refl refl (λ _ _ _. refl)

  level_laws : Laws (level below)
  level_laws = union_laws (
    arm_laws empty_laws (λ x. refl),
    (
      arm_laws (list_laws 2 (omega arith) law) (λ x. refl),
      (
        arm_laws (list_laws 2 (omega arith) law) (λ x. refl),
        (
          arm_laws (option_laws law) (λ x. refl),
          (
            arm_laws i64_laws (λ x. refl),
            (arm_laws i64_laws (λ x. refl), tt),
          ),
        ),
      ),
    ),
  )
      level_found

pub predicate_below_laws : (levels : ℕ) → Laws (predicate_below levels)
unfolding predicate_below
predicate_below_laws zero = too_deep_laws
predicate_below_laws (suc levels) = struct_laws level_fields (level_laws (predicate_below_laws levels))

pub claim_predicate_laws : Laws claim_predicate
claim_predicate_laws = predicate_below_laws 32
