-- MANAGE_DATA (ManageDataOpFrame in stellar-core).
use Rattle.std.specs.Prelude.{ℕ, ◌+◌, ◌||◌, not, ◌∷◌, [], nat_eq, is_some, List, length, Option, Some, None}
use Rattle.ledger_types.specs.declared.data_entry.DataEntry.{DataEntry}
use Rattle.ledger_types.specs.declared.entry.LedgerEntry.{LedgerEntry}
use Rattle.ledger_types.specs.declared.entry.LedgerEntryBody.TheVariants as body
use Rattle.ledger_types.specs.declared.key.LedgerKey.TheVariants as key
use Rattle.op_types.specs.declared.account_ops.ManageDataOp.{ManageDataOp}
use Rattle.op_types.specs.declared.account_results.ManageDataResult.{ManageDataResult}
use Rattle.op_types.specs.declared.account_results.ManageDataResult.TheVariants as manage
use Rattle.op_types.specs.declared.operation_result.OperationResult.{OperationResult}
use Rattle.op_types.specs.declared.operation_result.OperationResult.TheVariants.{Inner}
use Rattle.op_types.specs.declared.operation_result.OperationResultTr.TheVariants as tr
use Rattle.valid_values.specs.Texts.{is_valid_text}
use Rattle.entry_map.specs.EntryMap.{EntryMap}
use Rattle.entry_slots.specs.DataEntries.{data_at, with_data}
use Rattle.entry_slots.specs.Tests.{Tests}
use Rattle.sponsor_rules.specs.declared.context.Ctx.{Ctx}
use Rattle.sponsor_rules.specs.Adding.{map_after_adding}
use Rattle.sponsor_rules.specs.Removing.{map_after_removing}
use Rattle.op_form.specs.Done.{Attempt}
use Rattle.op_form.specs.Steps.{unless_refused, after_charge, success}

abbrev pub answer : ManageDataResult → OperationResult
answer code = Inner (tr.ManageData code)

-- a name is no empty text
abbrev pub name_tests : List ℕ → Tests OperationResult
name_tests name = (nat_eq (length name) 0 || not (is_valid_text name), answer manage.InvalidName) ∷ []

abbrev pub new_data : Ctx → List ℕ → List ℕ → LedgerEntry
new_data ctx name value =
    record {
      last_modified_ledger_seq = ctx.seq + 1;
      body = body.Data (record { account_id = ctx.op_source; data_name = name; data_value = value });
      ext = None;
    }

abbrev pub with_value : List ℕ → DataEntry → DataEntry
with_value value data_entry = record data_entry { data_value = value }

-- the source's data with this name is removed
abbrev pub removed : Ctx → List ℕ → EntryMap → Attempt
removed ctx name m =
    unless_refused ((not (is_some (data_at m ctx.op_source name)), answer manage.NameNotFound) ∷ [])
    (success ctx (answer manage.Success) (map_after_removing (key.Data ctx.op_source name) m) [])

abbrev pub added : Ctx → List ℕ → List ℕ → EntryMap → Attempt
added ctx name value m =
    after_charge (map_after_adding ctx ctx.op_source (new_data ctx name value) m) (answer manage.LowReserve)
    (λ after. success ctx (answer manage.Success) after [])

-- the source's data with this name has the value from now on: it is changed where it exists, and else added
abbrev pub valued : Ctx → List ℕ → List ℕ → EntryMap → Option DataEntry → Attempt
valued ctx name value m None = added ctx name value m
valued ctx name value m (Some was) =
    success ctx (answer manage.Success) (with_data m ctx.op_source name (with_value value)) []

abbrev pub managed : Ctx → List ℕ → EntryMap → Option (List ℕ) → Attempt
managed ctx name m None = removed ctx name m
managed ctx name m (Some value) = valued ctx name value m (data_at m ctx.op_source name)

abbrev pub manage_data : Ctx → ManageDataOp → EntryMap → Attempt
manage_data ctx data_op m =
    unless_refused (name_tests data_op.data_name) (managed ctx data_op.data_name m data_op.data_value)
