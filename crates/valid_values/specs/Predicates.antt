-- When a claimable balance may be claimed: the conditions that may be asked for, and those that a balance may have
-- (validatePredicate of CreateClaimableBalanceOpFrame in stellar-core; CAP-0023).
use Rattle.std.specs.Prelude.{ℕ, zero, suc, pos, int_le, ◌&&◌, List, [], ◌∷◌, Bool, true, false, Option, Some, None}
use Rattle.ledger_types.specs.declared.predicate.ClaimPredicate.{ClaimPredicate}
use Rattle.ledger_types.specs.declared.predicate.ClaimPredicate.TheViews.{out-ClaimPredicate}
use Rattle.ledger_types.specs.declared.predicate.ClaimPredicate.TheOpen.{ClaimPredicate-F}

-- exactly two parts, and both pass
abbrev pub both : {P : Type 0} → (P → Bool) → List P → Bool
both passes (first ∷ second ∷ []) = passes first && passes second
both passes other = false

-- a part that is there, and passes
abbrev pub is_there_and : {P : Type 0} → (P → Bool) → Option P → Bool
is_there_and passes None = false
is_there_and passes (Some part) = passes part

-- One level of a predicate: AND and OR have two parts, NOT has one, and times are at least 0. A time that counts from
-- the close of the ledger that makes the balance is for the operation that makes it alone.
abbrev pub is_valid_level : {P : Type 0} → Bool → (P → Bool) → ClaimPredicate-F P → Bool
is_valid_level may_be_relative passes ClaimPredicate-F.Unconditional = true
is_valid_level may_be_relative passes (ClaimPredicate-F.And parts) = both passes parts
is_valid_level may_be_relative passes (ClaimPredicate-F.Or parts) = both passes parts
is_valid_level may_be_relative passes (ClaimPredicate-F.Not part) = is_there_and passes part
is_valid_level may_be_relative passes (ClaimPredicate-F.BeforeAbsoluteTime time) = int_le (pos 0) time
is_valid_level may_be_relative passes (ClaimPredicate-F.BeforeRelativeTime seconds) =
    may_be_relative && int_le (pos 0) seconds

-- a predicate of at most so many levels, a leaf being one
unfoldable pub is_valid_below : Bool → ℕ → ClaimPredicate → Bool
is_valid_below may_be_relative zero predicate = false
is_valid_below may_be_relative (suc levels) predicate =
    is_valid_level may_be_relative (is_valid_below may_be_relative levels) (out-ClaimPredicate predicate)

-- a predicate that may be asked for: of at most four levels
abbrev pub is_valid_predicate : ClaimPredicate → Bool
is_valid_predicate predicate = is_valid_below true 4 predicate

-- a predicate that a claimable balance may have: the same, with no time from the close of a ledger
abbrev pub is_valid_stored_predicate : ClaimPredicate → Bool
is_valid_stored_predicate predicate = is_valid_below false 4 predicate
