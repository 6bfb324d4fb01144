-- The preconditions of a transaction (CAP-0021): what isn't there reads as no bound, no signer, and zeros.
use Rattle.std.specs.Prelude.{ℕ, ℤ, nat_eq, nat_le, nat_lt, length, not, ◌&&◌, ◌||◌, Bool, false}
use Rattle.std.specs.Prelude.{List, [], ◌∷◌, Option, Some, None}
use Rattle.std.specs.List.{list_any}
use Rattle.std.specs.Ordering.{eq_by_cmp}
use Rattle.ledger_types.specs.declared.signer.SignerKey.{SignerKey}
use Rattle.ledger_types.specs.declared.signer.SignerKey.TheVariants.{SignedPayload}
use Rattle.ledger_types.specs.KeyOrder.{signer_key_cmp}
use Rattle.op_types.specs.declared.preconditions.LedgerBounds.{LedgerBounds}
use Rattle.op_types.specs.declared.preconditions.Preconditions.{Preconditions}
use Rattle.op_types.specs.declared.preconditions.Preconditions.TheVariants as conditions
use Rattle.op_types.specs.declared.preconditions.TimeBounds.{TimeBounds}

-- ---- their parts

abbrev pub time_bounds_of : Preconditions → Option TimeBounds
time_bounds_of conditions.None = None
time_bounds_of (conditions.Time bounds) = Some bounds
time_bounds_of (conditions.V2 all) = all.time_bounds

abbrev pub ledger_bounds_of : Preconditions → Option LedgerBounds
ledger_bounds_of (conditions.V2 all) = all.ledger_bounds
ledger_bounds_of other = None

abbrev pub min_seq_num_of : Preconditions → Option ℤ
min_seq_num_of (conditions.V2 all) = all.min_seq_num
min_seq_num_of other = None

abbrev pub min_seq_age_of : Preconditions → ℕ
min_seq_age_of (conditions.V2 all) = all.min_seq_age
min_seq_age_of other = 0

abbrev pub min_seq_ledger_gap_of : Preconditions → ℕ
min_seq_ledger_gap_of (conditions.V2 all) = all.min_seq_ledger_gap
min_seq_ledger_gap_of other = 0

abbrev pub extra_signers_of : Preconditions → List SignerKey
extra_signers_of (conditions.V2 all) = all.extra_signers
extra_signers_of other = []

-- ---- bounds

abbrev pub is_before_time : (close_time : ℕ) → Option TimeBounds → Bool
is_before_time close_time None = false
is_before_time close_time (Some bounds) = nat_lt close_time bounds.min_time

-- a greatest time of 0 is none
abbrev pub is_after_time : (close_time : ℕ) → Option TimeBounds → Bool
is_after_time close_time None = false
is_after_time close_time (Some bounds) = not (nat_eq bounds.max_time 0) && nat_lt bounds.max_time close_time

abbrev pub is_before_ledger : (seq : ℕ) → Option LedgerBounds → Bool
is_before_ledger seq None = false
is_before_ledger seq (Some bounds) = nat_lt seq bounds.min_ledger

-- The greatest ledger is the first one after the bounds, and 0 is none.
abbrev pub is_after_ledger : (seq : ℕ) → Option LedgerBounds → Bool
is_after_ledger seq None = false
is_after_ledger seq (Some bounds) = not (nat_eq bounds.max_ledger 0) && nat_le bounds.max_ledger seq

-- ---- extra signers

abbrev pub is_empty_payload : SignerKey → Bool
is_empty_payload (SignedPayload key payload) = nat_eq (length payload) 0
is_empty_payload other = false

-- some two of the keys are the same
unfoldable pub have_duplicates : List SignerKey → Bool
have_duplicates [] = false
have_duplicates (key ∷ keys) = list_any (eq_by_cmp signer_key_cmp key) keys || have_duplicates keys

abbrev pub are_malformed : List SignerKey → Bool
are_malformed keys = have_duplicates keys || list_any is_empty_payload keys
