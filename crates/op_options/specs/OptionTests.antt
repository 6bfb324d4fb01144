-- The tests of SET_OPTIONS before its signer (SetOptionsOpFrame in stellar-core; CAP-0035 for AUTH_CLAWBACK_ENABLED,
-- CAP-0040 for signed payloads).
use Rattle.std.specs.Prelude.{ℕ, ◌&&◌, ◌||◌, not, ◌∷◌, [], nat_eq, nat_lt, is_some, Bool, false, List, bit_and, bit_or}
use Rattle.std.specs.Prelude.{bit_xor, length, unwrap_or, Option, Some, None}
use Rattle.std.specs.Str.{bytes_eq}
use Rattle.ledger_types.specs.declared.ids.AccountId.{AccountId}
use Rattle.ledger_types.specs.declared.signer.Signer.{Signer}
use Rattle.ledger_types.specs.declared.signer.SignerKey.{SignerKey}
use Rattle.ledger_types.specs.declared.signer.SignerKey.TheVariants.{Ed25519, SignedPayload}
use Rattle.ledger_types.specs.declared.account.AccountEntry.{AccountEntry}
use Rattle.op_types.specs.declared.account_ops.SetOptionsOp.{SetOptionsOp}
use Rattle.op_types.specs.declared.account_results.SetOptionsResult.{SetOptionsResult}
use Rattle.op_types.specs.declared.account_results.SetOptionsResult.TheVariants as set
use Rattle.op_types.specs.declared.operation_result.OperationResult.{OperationResult}
use Rattle.op_types.specs.declared.operation_result.OperationResult.TheVariants.{Inner}
use Rattle.op_types.specs.declared.operation_result.OperationResultTr.TheVariants as tr
use Rattle.valid_values.specs.Texts.{is_valid_text}
use Rattle.entry_map.specs.EntryMap.{EntryMap}
use Rattle.entry_slots.specs.Accounts.{account_at}
use Rattle.entry_slots.specs.Tests.{Tests}
use Rattle.sponsor_rules.specs.declared.context.Ctx.{Ctx}

abbrev pub answer : SetOptionsResult → OperationResult
answer code = Inner (tr.SetOptions code)

-- ---- what is given

-- flags that aren't given are none
abbrev pub flags_in : Option ℕ → ℕ
flags_in given = unwrap_or given 0

-- Account flags: AUTH_REQUIRED 1, AUTH_REVOCABLE 2, AUTH_IMMUTABLE 4, AUTH_CLAWBACK_ENABLED 8.
abbrev pub has_unknown : Option ℕ → Bool
has_unknown flags = nat_lt 15 (flags_in flags)

-- a weight or a threshold doesn't fit a byte
abbrev pub is_too_great : Option ℕ → Bool
is_too_great weight = nat_lt 255 (unwrap_or weight 0)

abbrev pub is_out_of_range : SetOptionsOp → Bool
is_out_of_range set_op =
    is_too_great set_op.master_weight || is_too_great set_op.low_threshold || is_too_great set_op.med_threshold
    || is_too_great set_op.high_threshold

-- The account's own key is one of Ed25519: a key of another kind with the same bytes is not its own.
abbrev pub is_own_key : AccountId → SignerKey → Bool
is_own_key id (Ed25519 key) = bytes_eq key id.0
is_own_key id other = false

-- a signed payload before protocol 19, or one that is empty
abbrev pub is_bad_payload : (version : ℕ) → SignerKey → Bool
is_bad_payload version (SignedPayload key payload) = nat_lt version 19 || nat_eq (length payload) 0
is_bad_payload version other = false

abbrev pub is_bad_signer : Ctx → Option Signer → Bool
is_bad_signer ctx None = false
is_bad_signer ctx (Some signer) =
    is_own_key ctx.op_source signer.key || nat_lt 255 signer.weight || is_bad_payload ctx.version signer.key

abbrev pub is_bad_domain : Option (List ℕ) → Bool
is_bad_domain None = false
is_bad_domain (Some domain) = not (is_valid_text domain)

-- ---- tests

-- the tests that ask nothing of the map
abbrev pub given_tests : Ctx → SetOptionsOp → Tests OperationResult
given_tests ctx set_op =
    (has_unknown set_op.set_flags || has_unknown set_op.clear_flags, answer set.UnknownFlag)
    ∷ (not (nat_eq (bit_and (flags_in set_op.set_flags) (flags_in set_op.clear_flags)) 0), answer set.BadFlags)
    ∷ (is_out_of_range set_op, answer set.ThresholdOutOfRange)
    ∷ (is_bad_signer ctx set_op.signer, answer set.BadSigner)
    ∷ (is_bad_domain set_op.home_domain, answer set.InvalidHomeDomain)
    ∷ []

abbrev pub is_missing : EntryMap → Option AccountId → Bool
is_missing m None = false
is_missing m (Some id) = not (is_some (account_at m id))

abbrev pub inflation_tests : SetOptionsOp → EntryMap → Tests OperationResult
inflation_tests set_op m = (is_missing m set_op.inflation_dest, answer set.InvalidInflation) ∷ []

-- flags without those that are cleared, and with those that are set
abbrev pub new_flags : SetOptionsOp → ℕ → ℕ
new_flags set_op flags =
    bit_or (bit_xor flags (bit_and flags (flags_in set_op.clear_flags))) (flags_in set_op.set_flags)

abbrev pub source_tests : SetOptionsOp → AccountEntry → Tests OperationResult
source_tests set_op account = (
  not (nat_eq (bit_and account.flags 4) 0)
      && (not (nat_eq (flags_in set_op.clear_flags) 0) || not (nat_eq (flags_in set_op.set_flags) 0)),
  answer set.CantChange,
)
    ∷ (
      not (nat_eq (bit_and (new_flags set_op account.flags) 8) 0)
          && nat_eq (bit_and (new_flags set_op account.flags) 2) 0,
      answer set.AuthRevocableRequired,
    )
    ∷ []
