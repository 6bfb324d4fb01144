-- CREATE_ACCOUNT (CreateAccountOpFrame in stellar-core; CAP-0033 for a sponsored account).
use Rattle.std.specs.Prelude.{◌+◌, ◌||◌, ◌∷◌, [], pos, int_lt, is_some, None}
use Rattle.ledger_types.specs.declared.account.AccountEntry.{AccountEntry}
use Rattle.ledger_types.specs.declared.asset.Asset.TheVariants.{Native}
use Rattle.ledger_types.specs.declared.entry.LedgerEntry.{LedgerEntry}
use Rattle.ledger_types.specs.declared.entry.LedgerEntryBody.TheVariants as body
use Rattle.op_types.specs.declared.account_ops.CreateAccountOp.{CreateAccountOp}
use Rattle.op_types.specs.declared.operation_result.OperationResult.{OperationResult}
use Rattle.op_types.specs.declared.operation_result.OperationResult.TheVariants.{Inner}
use Rattle.op_types.specs.declared.operation_result.OperationResultTr.TheVariants as tr
use Rattle.op_types.specs.declared.payment_results.CreateAccountResult.{CreateAccountResult}
use Rattle.op_types.specs.declared.payment_results.CreateAccountResult.TheVariants as create
use Rattle.entry_map.specs.EntryMap.{EntryMap}
use Rattle.entry_slots.specs.Accounts.{account_at}
use Rattle.entry_slots.specs.Tests.{Tests}
use Rattle.sponsor_rules.specs.declared.context.Ctx.{Ctx}
use Rattle.sponsor_rules.specs.Adding.{map_after_adding}
use Rattle.sponsor_rules.specs.Payers.{is_same_account}
use Rattle.op_form.specs.Done.{Attempt, Move}
use Rattle.op_form.specs.Done.{OfAccount}
use Rattle.op_form.specs.Lumens.{map_after_lumens_debit}
use Rattle.op_form.specs.Sequences.{first_seq}
use Rattle.op_form.specs.Steps.{unless_refused, after_charge, after_some, success}

abbrev pub answer : CreateAccountResult → OperationResult
answer code = Inner (tr.CreateAccount code)

-- ---- the new account

-- Its own key signs with weight 1, and every threshold is 0.
abbrev pub new_account : Ctx → CreateAccountOp → AccountEntry
new_account ctx create_op =
    record {
      account_id = create_op.destination;
      balance = create_op.starting_balance;
      seq_num = first_seq ctx;
      num_sub_entries = 0;
      inflation_dest = None;
      flags = 0;
      home_domain = [];
      thresholds = 1 ∷ 0 ∷ 0 ∷ 0 ∷ [];
      signers = [];
      ext = None;
    }

abbrev pub new_entry : Ctx → CreateAccountOp → LedgerEntry
new_entry ctx create_op =
    record { last_modified_ledger_seq = ctx.seq + 1; body = body.Account (new_account ctx create_op); ext = None }

-- ---- the operation

abbrev pub start_tests : Ctx → CreateAccountOp → EntryMap → Tests OperationResult
start_tests ctx create_op m = (
  int_lt create_op.starting_balance (pos 0) || is_same_account create_op.destination ctx.op_source,
  answer create.Malformed,
)
    ∷ (is_some (account_at m create_op.destination), answer create.AlreadyExist)
    ∷ []

-- the source gives the new account its lumens
abbrev pub start_move : Ctx → CreateAccountOp → Move
start_move ctx create_op =
    record {
      from = OfAccount ctx.op_source;
      to = OfAccount create_op.destination;
      asset = Native;
      amount = create_op.starting_balance;
    }

-- the account is added, and then the source pays
abbrev pub added_and_paid : Ctx → CreateAccountOp → EntryMap → Attempt
added_and_paid ctx create_op m =
    after_charge (map_after_adding ctx create_op.destination (new_entry ctx create_op) m) (answer create.LowReserve)
    (λ added. after_some (map_after_lumens_debit ctx ctx.op_source create_op.starting_balance added)
    (answer create.Underfunded)
    (λ paid. success ctx (answer create.Success) paid (start_move ctx create_op ∷ [])))

abbrev pub create_account : Ctx → CreateAccountOp → EntryMap → Attempt
create_account ctx create_op m = unless_refused (start_tests ctx create_op m) (added_and_paid ctx create_op m)
