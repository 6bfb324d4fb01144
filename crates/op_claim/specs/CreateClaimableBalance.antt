-- CREATE_CLAIMABLE_BALANCE (CreateClaimableBalanceOpFrame in stellar-core; CAP-0023, CAP-0035 for the flag).
use Rattle.std.specs.Prelude.{◌+◌, pos, int_le, not, ◌||◌, List, [], ◌∷◌, map, is_some, Bool, true, false}
use Rattle.std.specs.Prelude.{Option, Some, None, if◌then◌else◌}
use Rattle.std.specs.List.{list_all, list_any}
use Rattle.ledger_types.specs.declared.ids.ClaimableBalanceId.{ClaimableBalanceId}
use Rattle.ledger_types.specs.declared.asset.Asset.{Asset}
use Rattle.ledger_types.specs.declared.account.AccountEntry.{AccountEntry}
use Rattle.ledger_types.specs.declared.claimable_balance.Claimant.{Claimant}
use Rattle.ledger_types.specs.declared.entry.LedgerEntry.{LedgerEntry}
use Rattle.ledger_types.specs.declared.entry.LedgerEntryBody.TheVariants as body
use Rattle.op_types.specs.declared.balance_ops.CreateClaimableBalanceOp.{CreateClaimableBalanceOp}
use Rattle.op_types.specs.declared.balance_results.CreateClaimableBalanceResult.{CreateClaimableBalanceResult}
use Rattle.op_types.specs.declared.balance_results.CreateClaimableBalanceResult.TheVariants as create
use Rattle.op_types.specs.declared.operation_result.OperationResult.{OperationResult}
use Rattle.op_types.specs.declared.operation_result.OperationResult.TheVariants.{Inner, NotSupported}
use Rattle.op_types.specs.declared.operation_result.OperationResultTr.TheVariants as tr
use Rattle.valid_values.specs.Assets.{is_valid_asset}
use Rattle.valid_values.specs.Predicates.{is_valid_predicate}
use Rattle.hash_ids.specs.Ids.{balance_id_of}
use Rattle.entry_map.specs.EntryMap.{EntryMap}
use Rattle.entry_slots.specs.Accounts.{account_at}
use Rattle.entry_slots.specs.Balances.{balance_at}
use Rattle.entry_slots.specs.Tests.{Tests}
use Rattle.sponsor_rules.specs.declared.context.Ctx.{Ctx}
use Rattle.sponsor_rules.specs.Adding.{map_after_adding}
use Rattle.sponsor_rules.specs.Payers.{is_same_account}
use Rattle.op_form.specs.declared.amounts.DebitFault.{DebitFault}
use Rattle.op_form.specs.declared.amounts.DebitFault.TheVariants as debit
use Rattle.op_form.specs.Done.{Attempt, Move}
use Rattle.op_form.specs.Done.{OfAccount, OfBalance}
use Rattle.op_form.specs.Amounts.{map_after_debit}
use Rattle.op_form.specs.Assets.{is_issued_by, line_of_asset}
use Rattle.op_form.specs.Flags.{is_account_clawback_enabled, is_clawback_line, flagged_ext}
use Rattle.op_form.specs.Steps.{unless_refused, after_step, after_charge, success}
use Rattle.op_claim.specs.Predicates.{fixed_claimant}

abbrev pub answer : CreateClaimableBalanceResult → OperationResult
answer code = Inner (tr.CreateClaimableBalance code)

-- ---- tests

abbrev pub has_destination : List Claimant → Claimant → Bool
has_destination claimants claimant =
    list_any (λ other. is_same_account claimant.destination other.destination) claimants

-- a destination occurs twice
unfoldable pub has_twice : List Claimant → Bool
has_twice [] = false
has_twice (claimant ∷ claimants) = has_destination claimants claimant || has_twice claimants

abbrev pub is_empty : List Claimant → Bool
is_empty [] = true
is_empty (claimant ∷ claimants) = false

abbrev pub are_predicates_valid : List Claimant → Bool
are_predicates_valid claimants = list_all (λ claimant. is_valid_predicate claimant.predicate) claimants

abbrev pub are_claimants_bad : List Claimant → Bool
are_claimants_bad claimants = is_empty claimants || has_twice claimants || not (are_predicates_valid claimants)

abbrev pub create_tests : CreateClaimableBalanceOp → Tests OperationResult
create_tests create_op = (
  int_le create_op.amount (pos 0) || not (is_valid_asset create_op.asset) || are_claimants_bad create_op.claimants,
  answer create.Malformed,
) ∷ []

-- ---- the new balance

abbrev pub new_id : Ctx → ClaimableBalanceId
new_id ctx = record { 0 = balance_id_of ctx.tx_source ctx.tx_seq ctx.op_index }

abbrev pub is_clawback_account : Option AccountEntry → Bool
is_clawback_account None = false
is_clawback_account (Some account) = is_account_clawback_enabled account

abbrev pub is_clawback_source : Ctx → EntryMap → Bool
is_clawback_source ctx m = is_clawback_account (account_at m ctx.op_source)

abbrev pub is_clawback_holder : Ctx → Asset → EntryMap → Bool
is_clawback_holder ctx held m = is_clawback_line (line_of_asset m ctx.op_source held)

-- what the source gives can be clawed back: as its issuer says, or its own line
abbrev pub can_claw_back : Ctx → CreateClaimableBalanceOp → EntryMap → Bool
can_claw_back ctx create_op m =
    if is_issued_by create_op.asset ctx.op_source then is_clawback_source ctx m
    else is_clawback_holder ctx create_op.asset m

abbrev pub new_balance : Ctx → CreateClaimableBalanceOp → Bool → LedgerEntry
new_balance ctx create_op clawback =
    record {
      last_modified_ledger_seq = ctx.seq + 1;
      body = body.ClaimableBalance (record {
        balance_id = new_id ctx;
        claimants = map (fixed_claimant ctx.close_time) create_op.claimants;
        asset = create_op.asset;
        amount = create_op.amount;
        ext = flagged_ext clawback;
      });
      ext = None;
    }

-- ---- the operation

abbrev pub debit_result : DebitFault → OperationResult
debit_result debit.NoLine = answer create.NoTrust
debit_result debit.NotAuthorized = answer create.NotAuthorized
debit_result debit.Short = answer create.Underfunded

abbrev pub create_move : Ctx → CreateClaimableBalanceOp → Move
create_move ctx create_op =
    record {
      from = OfAccount ctx.op_source;
      to = OfBalance (new_id ctx);
      asset = create_op.asset;
      amount = create_op.amount;
    }

abbrev pub added : Ctx → CreateClaimableBalanceOp → Bool → EntryMap → Attempt
added ctx create_op clawback m =
    after_charge (map_after_adding ctx ctx.op_source (new_balance ctx create_op clawback) m) (answer create.LowReserve)
    (λ with_new. success ctx (answer (create.Success (new_id ctx))) with_new (create_move ctx create_op ∷ []))

-- the source gives the amount, and then the balance is added
abbrev pub given_and_added : Ctx → CreateClaimableBalanceOp → EntryMap → Attempt
given_and_added ctx create_op m =
    after_step (map_after_debit ctx ctx.op_source create_op.asset create_op.amount m) debit_result
    (λ given. added ctx create_op (can_claw_back ctx create_op m) given)

-- No balance takes the place of another one.
abbrev pub create_claimable_balance : Ctx → CreateClaimableBalanceOp → EntryMap → Attempt
create_claimable_balance ctx create_op m =
    unless_refused (create_tests create_op)
    (unless_refused ((is_some (balance_at m (new_id ctx)), NotSupported) ∷ []) (given_and_added ctx create_op m))
