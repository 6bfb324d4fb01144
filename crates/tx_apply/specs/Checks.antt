-- The checks of a transaction before its operations (TransactionFrame::commonValid in stellar-core; CAP-0021 for
-- preconditions; CAP-0015 for the inner transaction of a fee bump, whose fee and balance aren't looked at).
use Rattle.std.specs.Prelude.{ℕ, ◌+◌, ◌*◌, int_le, int_lt, nat_eq, nat_lt, max, ℤ, pos, ◌+ℤ◌, Bool, false}
use Rattle.std.specs.Prelude.{not, ◌&&◌, ◌||◌}
use Rattle.std.specs.Prelude.{List, [], ◌∷◌, length, Option, Some, None, is_some, if◌then◌else◌}
use Rattle.std.specs.List.{list_all}
use Rattle.std.specs.Ordering.{is_lt, int_cmp, int_eq}
use Rattle.ledger_types.specs.Ids.{account_of}
use Rattle.ledger_types.specs.declared.ids.AccountId.{AccountId}
use Rattle.ledger_types.specs.declared.ids.Hash.{Hash}
use Rattle.ledger_types.specs.declared.account.AccountEntry.{AccountEntry}
use Rattle.ledger_types.specs.declared.signer.SignerKey.{SignerKey}
use Rattle.op_types.specs.declared.operation.Operation.{Operation}
use Rattle.op_types.specs.declared.preconditions.Preconditions.{Preconditions}
use Rattle.op_types.specs.declared.preconditions.Preconditions.TheVariants as conditions
use Rattle.op_types.specs.declared.transaction.Transaction.{Transaction}
use Rattle.op_types.specs.declared.transaction_result.TransactionOutcome.{TransactionOutcome}
use Rattle.op_types.specs.declared.transaction_result.TransactionOutcome.TheVariants as outcome
use Rattle.entry_map.specs.EntryMap.{EntryMap}
use Rattle.entry_slots.specs.Accounts.{account_at, with_account}
use Rattle.entry_slots.specs.Tests.{Tests, first_fault}
use Rattle.reserve_rules.specs.Reserve.{available, greatest_i64}
use Rattle.sponsor_rules.specs.declared.context.Ctx.{Ctx}
use Rattle.signer_check.specs.declared.held.HeldSignature.{HeldSignature}
use Rattle.op_form.specs.declared.levels.ThresholdLevel.TheVariants.{Low}
use Rattle.op_form.specs.Sequences.{first_seq}
use Rattle.entry_slots.specs.AccountExtensions.{seq_ledger, seq_time, with_seq_num}
use Rattle.sponsor_rules.specs.SeqNums.{new_extension_v3}
use Rattle.signer_check.specs.Weight.{after_extra, extra_succeeds}
use Rattle.tx_apply.specs.Preconditions.{are_malformed, extra_signers_of, is_after_ledger, is_after_time}
use Rattle.tx_apply.specs.Preconditions.{is_before_ledger, is_before_time, ledger_bounds_of, min_seq_age_of}
use Rattle.tx_apply.specs.Preconditions.{min_seq_ledger_gap_of, min_seq_num_of, time_bounds_of}
use Rattle.tx_apply.specs.Signing.{Auth, Auths, auth_of, auths_of, auth_results, are_used}

abbrev pub source_account : Transaction → AccountId
source_account tx = account_of tx.source_account

-- ---- before the sequence number

-- PreconditionsV2 before protocol 19
abbrev pub are_unsupported : (version : ℕ) → Preconditions → Bool
are_unsupported version (conditions.V2 all) = nat_lt version 19
are_unsupported version other = false

-- the number of the ledger that closes, one above the header's
abbrev pub closing_seq : Ctx → ℕ
closing_seq ctx = ctx.seq + 1

abbrev pub is_early : Ctx → Preconditions → Bool
is_early ctx cond =
    is_before_time ctx.close_time (time_bounds_of cond) || is_before_ledger (closing_seq ctx) (ledger_bounds_of cond)

abbrev pub is_late : Ctx → Preconditions → Bool
is_late ctx cond =
    is_after_time ctx.close_time (time_bounds_of cond) || is_after_ledger (closing_seq ctx) (ledger_bounds_of cond)

-- From protocol 19 on no transaction uses the number that accounts which the ledger makes begin with.
abbrev pub is_starting_seq : Ctx → ℤ → Bool
is_starting_seq ctx seq_num = not (nat_lt ctx.version 19) && int_eq seq_num (first_seq ctx)

-- Whether the number isn't one above the source's; or, with minSeqNum, whether the source's is below that, or not below
-- the number. An int64 is never above the greatest.
abbrev pub is_bad_seq_after : (min_seq_num : Option ℤ) → (last seq_num : ℤ) → Bool
is_bad_seq_after None last seq_num = not (int_eq seq_num (last +ℤ pos 1))
is_bad_seq_after (Some least) last seq_num =
    int_lt last least || int_le seq_num last || int_lt greatest_i64 seq_num

abbrev pub is_bad_seq : Ctx → Transaction → Option AccountEntry → Bool
is_bad_seq ctx tx None = false
is_bad_seq ctx tx (Some account) =
    is_starting_seq ctx tx.seq_num || int_eq account.seq_num greatest_i64
    || is_bad_seq_after (min_seq_num_of tx.cond) account.seq_num tx.seq_num

-- the bid is below the base fee for each operation
abbrev pub is_low : ℕ → Transaction → Bool
is_low base_fee tx = nat_lt tx.fee (base_fee * max 1 (length tx.operations))

abbrev pub source_tests : Ctx → Transaction → Option AccountEntry → Tests TransactionOutcome
source_tests ctx tx source =
    (not (is_some source), outcome.NoAccount) ∷ (is_bad_seq ctx tx source, outcome.BadSeq) ∷ []

-- `pays` says whether the transaction's own fee and balance are looked at
abbrev pub own_tests : (pays : Bool) → (base_fee : ℕ) → Ctx → Transaction → Tests TransactionOutcome
own_tests pays base_fee ctx tx =
    (are_unsupported ctx.version tx.cond, outcome.NotSupported)
    ∷ (are_malformed (extra_signers_of tx.cond), outcome.Malformed)
    ∷ (nat_eq (length tx.operations) 0, outcome.MissingOperation)
    ∷ (is_early ctx tx.cond, outcome.TooEarly)
    ∷ (is_late ctx tx.cond, outcome.TooLate)
    ∷ (pays && is_low base_fee tx, outcome.InsufficientFee)
    ∷ []

abbrev pub fault_or : Option TransactionOutcome → Option TransactionOutcome → Option TransactionOutcome
fault_or None next = next
fault_or (Some fault) next = Some fault

-- the transaction's own tests, and then its source's
abbrev pub early_fault : (pays : Bool) → (base_fee : ℕ) → Ctx → Transaction → EntryMap → Option TransactionOutcome
early_fault pays base_fee ctx tx m =
    fault_or (first_fault (own_tests pays base_fee ctx tx))
    (first_fault (source_tests ctx tx (account_at m (source_account tx))))

-- ---- after it

-- The source's sequence number was set less than minSeqAge seconds ago, or fewer than minSeqLedgerGap ledgers, by what
-- stood before this transaction.
abbrev pub is_bad_min_seq_age_or_gap : Ctx → Preconditions → Option AccountEntry → Bool
is_bad_min_seq_age_or_gap ctx cond None = false
is_bad_min_seq_age_or_gap ctx cond (Some account) =
    nat_lt ctx.close_time (seq_time account + min_seq_age_of cond)
    || nat_lt (closing_seq ctx) (seq_ledger account + min_seq_ledger_gap_of cond)

-- an account that can spend less than nothing
abbrev pub is_poor : Ctx → Option AccountEntry → Bool
is_poor ctx None = false
is_poor ctx (Some account) = is_lt (int_cmp (available account ctx.base_reserve) (pos 0))

-- the checks of the operations' signatures, and then whether a signature was used by no check
abbrev pub outcome_of_auths : List Operation → Auths → Option TransactionOutcome
outcome_of_auths operations auths =
    if list_all (λ passes. passes) auths.passes
    then (if are_used auths.signatures then None else Some outcome.BadAuthExtra)
    else Some (outcome.Failed (auth_results auths.passes operations))

-- the check of the extra signers, over the signatures that the check of the source left
abbrev pub extra_auth : Hash → List SignerKey → List HeldSignature → Auth
extra_auth hash signers signatures = record {
  passes = extra_succeeds hash signatures signers;
  signatures = after_extra hash signatures signers;
}

-- the checks of the source and of the extra signers: where the first one fails, there is no second one
abbrev pub auth_with : Hash → List SignerKey → Auth → Auth
auth_with hash signers auth = if auth.passes then extra_auth hash signers auth.signatures else auth

-- the check of the transaction's own signatures
abbrev pub transaction_auth : Hash → List HeldSignature → Transaction → EntryMap → Auth
transaction_auth hash signatures tx m =
    auth_with hash (extra_signers_of tx.cond) (auth_of hash Low signatures m (source_account tx))

-- what follows it
abbrev pub outcome_after_auth : Bool → Ctx → Hash → Transaction → EntryMap → Auth → Option TransactionOutcome
outcome_after_auth pays ctx hash tx m auth =
    if not auth.passes then Some outcome.BadAuth
    else (if pays && is_poor ctx (account_at m (source_account tx)) then Some outcome.InsufficientBalance
    else outcome_of_auths tx.operations (auths_of hash (source_account tx) m auth.signatures tx.operations))

abbrev pub late_outcome : Bool → Ctx → Hash → List HeldSignature → Transaction → EntryMap → Option TransactionOutcome
late_outcome pays ctx hash signatures tx m =
    outcome_after_auth pays ctx hash tx m (transaction_auth hash signatures tx m)

-- ---- the checks

-- why the operations are not run, if they are not, and the entries so far
pub record Judged : Type 0 where
  pub outcome : Option TransactionOutcome
  pub entries : EntryMap

-- the map with the sequence number used up, whatever follows
abbrev pub map_after_seq_num : Ctx → Transaction → EntryMap → EntryMap
map_after_seq_num ctx tx m = with_account m (source_account tx) (with_seq_num tx.seq_num (new_extension_v3 ctx))

abbrev pub judged_by : Bool → Ctx → Hash → List HeldSignature → Transaction → EntryMap → Option TransactionOutcome
    → Judged
judged_by pays ctx hash signatures tx m (Some fault) = record { outcome = Some fault; entries = m }
judged_by pays ctx hash signatures tx m None = record {
  outcome =
      if is_bad_min_seq_age_or_gap ctx tx.cond (account_at m (source_account tx)) then Some outcome.BadMinSeqAgeOrGap
      else late_outcome pays ctx hash signatures tx (map_after_seq_num ctx tx m);
  entries = map_after_seq_num ctx tx m;
}

abbrev pub judged : (pays : Bool) → (base_fee : ℕ) → Ctx → Hash → List HeldSignature → Transaction → EntryMap → Judged
judged pays base_fee ctx hash signatures tx m =
    judged_by pays ctx hash signatures tx m
    (early_fault pays base_fee ctx tx m)
