-- ACCOUNT_MERGE (MergeOpFrame in stellar-core; CAP-0033 for sponsors).
use Rattle.std.specs.Prelude.{◌||◌, not, ◌∷◌, [], nat_eq, int_le, is_some, List, length, bit_and, Option}
use Rattle.ledger_types.specs.declared.ids.AccountId.{AccountId}
use Rattle.ledger_types.specs.declared.signer.Signer.{Signer}
use Rattle.ledger_types.specs.declared.account.AccountEntry.{AccountEntry}
use Rattle.ledger_types.specs.declared.asset.Asset.TheVariants.{Native}
use Rattle.ledger_types.specs.declared.key.LedgerKey.TheVariants as key
use Rattle.ledger_types.specs.Ids.{account_of}
use Rattle.op_types.specs.declared.account_ops.AccountMergeOp.{AccountMergeOp}
use Rattle.op_types.specs.declared.account_results.AccountMergeResult.{AccountMergeResult}
use Rattle.op_types.specs.declared.account_results.AccountMergeResult.TheVariants as merge
use Rattle.op_types.specs.declared.operation_result.OperationResult.{OperationResult}
use Rattle.op_types.specs.declared.operation_result.OperationResult.TheVariants.{Inner, NoAccount}
use Rattle.op_types.specs.declared.operation_result.OperationResultTr.TheVariants as tr
use Rattle.entry_map.specs.EntryMap.{EntryMap}
use Rattle.entry_slots.specs.Accounts.{account_at}
use Rattle.entry_slots.specs.AccountExtensions.{num_sponsoring}
use Rattle.entry_slots.specs.Tests.{Tests}
use Rattle.sponsor_rules.specs.declared.context.Ctx.{Ctx}
use Rattle.sponsor_rules.specs.Payers.{is_same_account}
use Rattle.sponsor_rules.specs.Removing.{map_after_removing}
use Rattle.sponsor_rules.specs.Signers.{map_after_removing_signer}
use Rattle.op_form.specs.Done.{Attempt, Move}
use Rattle.op_form.specs.Done.{OfAccount}
use Rattle.op_form.specs.Lumens.{map_after_lumens_credit}
use Rattle.op_form.specs.Sequences.{first_seq}
use Rattle.op_form.specs.Sponsorships.{is_open_sponsor}
use Rattle.op_form.specs.Steps.{unless_refused, after_some, success}

abbrev pub answer : AccountMergeResult → OperationResult
answer code = Inner (tr.AccountMerge code)

-- ---- tests

abbrev pub destination_tests : Ctx → AccountMergeOp → EntryMap → Tests OperationResult
destination_tests ctx merge_op m =
    (is_same_account (account_of merge_op.destination) ctx.op_source, answer merge.Malformed)
    ∷ (not (is_some (account_at m (account_of merge_op.destination))), answer merge.NoAccount)
    ∷ []

-- AUTH_IMMUTABLE_FLAG is 4. An account that would begin anew in the closing ledger with a sequence number that it has
-- used is kept.
abbrev pub source_tests : Ctx → AccountEntry → Tests OperationResult
source_tests ctx account =
    (not (nat_eq (bit_and account.flags 4) 0), answer merge.ImmutableSet)
    ∷ (not (nat_eq account.num_sub_entries (length account.signers)), answer merge.HasSubEntries)
    ∷ (int_le (first_seq ctx) account.seq_num, answer merge.SeqnumTooFar)
    ∷ (not (nat_eq (num_sponsoring account) 0) || is_open_sponsor ctx ctx.op_source, answer merge.IsSponsor)
    ∷ []

-- ---- the operation

-- the map without these signers of an account
unfoldable pub map_without_signers : AccountId → List Signer → EntryMap → EntryMap
map_without_signers id [] m = m
map_without_signers id (signer ∷ signers) m = map_without_signers id signers (map_after_removing_signer id signer.key m)

-- the map without an account and its signers
abbrev pub map_without_account : AccountId → AccountEntry → EntryMap → EntryMap
map_without_account id account m = map_after_removing (key.Account id) (map_without_signers id account.signers m)

-- the source gives the destination all its lumens
abbrev pub merge_move : Ctx → AccountMergeOp → AccountEntry → Move
merge_move ctx merge_op account =
    record {
      from = OfAccount ctx.op_source;
      to = OfAccount (account_of merge_op.destination);
      asset = Native;
      amount = account.balance;
    }

-- the destination takes the balance, and the source goes with its signers
abbrev pub taken_and_removed : Ctx → AccountMergeOp → AccountEntry → EntryMap → Attempt
taken_and_removed ctx merge_op account m =
    after_some (map_after_lumens_credit (account_of merge_op.destination) account.balance m) (answer merge.DestFull)
    (λ taken. success ctx (answer (merge.Success account.balance)) (map_without_account ctx.op_source account taken)
    (merge_move ctx merge_op account ∷ []))

abbrev pub merge_of : Ctx → AccountMergeOp → EntryMap → Option AccountEntry → Attempt
merge_of ctx merge_op m source =
    after_some source NoAccount
    (λ account. unless_refused (source_tests ctx account) (taken_and_removed ctx merge_op account m))

abbrev pub account_merge : Ctx → AccountMergeOp → EntryMap → Attempt
account_merge ctx merge_op m =
    unless_refused (destination_tests ctx merge_op m) (merge_of ctx merge_op m (account_at m ctx.op_source))
