-- A fee bump: its own checks, and then the inner transaction without those of fee and balance (CAP-0015;
-- FeeBumpTransactionFrame in stellar-core).
use Rattle.std.specs.Prelude.{ℕ, ◌+◌, ◌*◌, max, nat_lt, Bool, false, not, ◌||◌, List, [], ◌∷◌, length}
use Rattle.std.specs.Prelude.{Option, Some, None, is_some, if◌then◌else◌}
use Rattle.ledger_types.specs.Ids.{account_of}
use Rattle.ledger_types.specs.declared.ids.AccountId.{AccountId}
use Rattle.ledger_types.specs.declared.ids.Hash.{Hash}
use Rattle.ledger_types.specs.declared.account.AccountEntry.{AccountEntry}
use Rattle.op_types.specs.declared.operation.Operation.{Operation}
use Rattle.op_types.specs.declared.transaction.FeeBumpTransaction.{FeeBumpTransaction}
use Rattle.op_types.specs.declared.transaction_result.TransactionOutcome.{TransactionOutcome}
use Rattle.op_types.specs.declared.transaction_result.TransactionOutcome.TheVariants as outcome
use Rattle.entry_map.specs.EntryMap.{EntryMap}
use Rattle.entry_slots.specs.Accounts.{account_at}
use Rattle.entry_slots.specs.Tests.{Tests, first_fault}
use Rattle.sponsor_rules.specs.declared.context.Ctx.{Ctx}
use Rattle.sponsor_rules.specs.Signers.{map_after_removing_preauth}
use Rattle.signer_check.specs.declared.held.HeldSignature.{HeldSignature}
use Rattle.fee_rules.specs.Envelopes.{not_below_0}
use Rattle.op_form.specs.declared.levels.ThresholdLevel.TheVariants.{Low}
use Rattle.tx_apply.specs.Signing.{Auth, auth_of, are_used}
use Rattle.tx_apply.specs.Checks.{is_poor}
use Rattle.tx_apply.specs.Transaction.{Applied, ended, transaction_applied}
use Rattle.tx_apply.specs.InnerResult.{bump_outcome}

abbrev pub payer_of : FeeBumpTransaction → AccountId
payer_of bump = account_of bump.fee_source

-- ---- the bid

abbrev pub inner_operations : FeeBumpTransaction → List Operation
inner_operations bump = bump.inner_tx.tx.operations

-- one operation more than the inner transaction has
abbrev pub outer_least : ℕ → FeeBumpTransaction → ℕ
outer_least base_fee bump = base_fee * (length (inner_operations bump) + 1)

abbrev pub inner_least : ℕ → FeeBumpTransaction → ℕ
inner_least base_fee bump = base_fee * max 1 (length (inner_operations bump))

-- a bid that is too low by itself, or an operation's share of it below what the inner transaction bids for one
unfoldable pub is_low_bump : ℕ → FeeBumpTransaction → Bool
is_low_bump base_fee bump =
    nat_lt (not_below_0 bump.fee) (outer_least base_fee bump)
    || nat_lt (not_below_0 bump.fee * inner_least base_fee bump) (bump.inner_tx.tx.fee * outer_least base_fee bump)

abbrev pub payer_tests : (base_fee : ℕ) → FeeBumpTransaction → Option AccountEntry → Tests TransactionOutcome
payer_tests base_fee bump payer =
    (is_low_bump base_fee bump, outcome.InsufficientFee) ∷ (not (is_some payer), outcome.NoAccount) ∷ []

-- ---- signatures

-- the hashes that the signatures of a fee bump and of its inner transaction are made over, and these signatures
pub record BumpSigned : Type 0 where
  pub hash : Hash
  pub signatures : List HeldSignature
  pub inner_hash : Hash
  pub inner_signatures : List HeldSignature

abbrev pub signed_by : Hash → List HeldSignature → Hash → List HeldSignature → BumpSigned
signed_by hash signatures inner_hash inner_signatures = record {
  hash = hash;
  signatures = signatures;
  inner_hash = inner_hash;
  inner_signatures = inner_signatures;
}

-- ---- the checks, and the inner transaction

abbrev pub as_bump : Hash → Applied → Applied
as_bump hash applied = record applied { outcome = bump_outcome hash applied.outcome }

abbrev pub inner_applied : (base_fee : ℕ) → Ctx → BumpSigned → FeeBumpTransaction → EntryMap → Applied
inner_applied base_fee ctx signed bump m =
    as_bump signed.inner_hash
    (transaction_applied false base_fee ctx signed.inner_hash signed.inner_signatures bump.inner_tx.tx m)

-- what comes after the check of the payer's signatures, over the map without the signer of the fee bump's hash
abbrev pub applied_after_auth : (base_fee : ℕ) → Ctx → BumpSigned → FeeBumpTransaction → List HeldSignature → EntryMap
    → Applied
applied_after_auth base_fee ctx signed bump after m =
    if is_poor ctx (account_at m (payer_of bump)) then ended outcome.InsufficientBalance ctx m
    else (if are_used after then inner_applied base_fee ctx signed bump m else ended outcome.BadAuthExtra ctx m)

-- a payer whose signatures pass loses the pre-authorised signer of the fee bump's hash, whatever follows
abbrev pub applied_by_auth : (base_fee : ℕ) → Ctx → BumpSigned → FeeBumpTransaction → EntryMap → Auth → Applied
applied_by_auth base_fee ctx signed bump m auth =
    if not auth.passes then ended outcome.BadAuth ctx m
    else applied_after_auth base_fee ctx signed bump auth.signatures
    (map_after_removing_preauth (payer_of bump) signed.hash m)

abbrev pub applied_by_fault : (base_fee : ℕ) → Ctx → BumpSigned → FeeBumpTransaction → EntryMap
    → Option TransactionOutcome → Applied
applied_by_fault base_fee ctx signed bump m (Some fault) = ended fault ctx m
applied_by_fault base_fee ctx signed bump m None =
    applied_by_auth base_fee ctx signed bump m (auth_of signed.hash Low signed.signatures m (payer_of bump))

abbrev pub bump_applied : (base_fee : ℕ) → Ctx → BumpSigned → FeeBumpTransaction → EntryMap → Applied
bump_applied base_fee ctx signed bump m =
    applied_by_fault base_fee ctx signed bump m
    (first_fault (payer_tests base_fee bump (account_at m (payer_of bump))))
