-- When a claimant may claim, and what becomes of times that count from the close (validatePredicate and
-- updatePredicatesForApply in stellar-core; CAP-0023).
use Rattle.std.specs.Prelude.{ℕ, zero, suc, ℤ, pos, ◌+ℤ◌, int_lt, ◌&&◌, ◌||◌, not, [], ◌∷◌, map, Bool, true, false}
use Rattle.std.specs.Prelude.{Some, if◌then◌else◌}
use Rattle.std.specs.Option.{option_map}
use Rattle.ledger_types.specs.declared.claimable_balance.Claimant.{Claimant}
use Rattle.ledger_types.specs.declared.predicate.ClaimPredicate.{ClaimPredicate}
use Rattle.ledger_types.specs.declared.predicate.ClaimPredicate.TheViews.{out-ClaimPredicate, roll-ClaimPredicate}
use Rattle.ledger_types.specs.declared.predicate.ClaimPredicate.TheOpen.{ClaimPredicate-F}
use Rattle.reserve_rules.specs.Reserve.{greatest_i64}

-- how many levels a valid predicate has at most, a leaf being one
abbrev pub max_levels : ℕ
max_levels = 4

-- ---- claims

-- One level of a predicate, at the time at which a ledger closes. A balance has no time that counts from the close of
-- the ledger that made it.
abbrev pub holds_level : {P : Type 0} → ℕ → (P → Bool) → ClaimPredicate-F P → Bool
holds_level close_time holds ClaimPredicate-F.Unconditional = true
holds_level close_time holds (ClaimPredicate-F.And (first ∷ second ∷ [])) = holds first && holds second
holds_level close_time holds (ClaimPredicate-F.Or (first ∷ second ∷ [])) = holds first || holds second
holds_level close_time holds (ClaimPredicate-F.Not (Some part)) = not (holds part)
holds_level close_time holds (ClaimPredicate-F.BeforeAbsoluteTime time) = int_lt (pos close_time) time
holds_level close_time holds other = false

-- a predicate of at most so many levels; in one of more, what lies deeper counts as false
unfoldable pub holds_below : ℕ → ℕ → ClaimPredicate → Bool
holds_below close_time zero predicate = false
holds_below close_time (suc levels) predicate =
    holds_level close_time (holds_below close_time levels) (out-ClaimPredicate predicate)

-- a claimant may claim in the ledger that closes at this time
abbrev pub holds_at : ℕ → ClaimPredicate → Bool
holds_at close_time predicate = holds_below close_time max_levels predicate

-- ---- new balances

abbrev pub least : ℤ → ℤ → ℤ
least a b = if int_lt a b then a else b

-- so many seconds after the close
abbrev pub time_after : ℕ → ℤ → ℤ
time_after close_time seconds = least (pos close_time +ℤ seconds) greatest_i64

abbrev pub fixed_level : {P : Type 0} → ℕ → (P → P) → ClaimPredicate-F P → ClaimPredicate-F P
fixed_level close_time fixed (ClaimPredicate-F.And parts) = ClaimPredicate-F.And (map fixed parts)
fixed_level close_time fixed (ClaimPredicate-F.Or parts) = ClaimPredicate-F.Or (map fixed parts)
fixed_level close_time fixed (ClaimPredicate-F.Not part) = ClaimPredicate-F.Not (option_map fixed part)
fixed_level close_time fixed (ClaimPredicate-F.BeforeRelativeTime seconds) =
    ClaimPredicate-F.BeforeAbsoluteTime (time_after close_time seconds)
fixed_level close_time fixed other = other

-- the same predicate with no time from the close, down to so many levels
unfoldable pub fixed_below : ℕ → ℕ → ClaimPredicate → ClaimPredicate
fixed_below close_time zero predicate = predicate
fixed_below close_time (suc levels) predicate =
    roll-ClaimPredicate (fixed_level close_time (fixed_below close_time levels) (out-ClaimPredicate predicate))

-- a predicate as the balance keeps it that is made in the ledger which closes at this time
abbrev pub fixed_predicate : ℕ → ClaimPredicate → ClaimPredicate
fixed_predicate close_time predicate = fixed_below close_time max_levels predicate

abbrev pub fixed_claimant : ℕ → Claimant → Claimant
fixed_claimant close_time claimant =
    record claimant { predicate = fixed_predicate close_time claimant.predicate }
