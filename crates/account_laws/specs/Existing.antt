-- That accounts go on existing: one goes by ACCOUNT_MERGE alone.
use Rattle.std.specs.Prelude.{◌≡◌, Bool, true, false, All}
use Rattle.close_laws.specs.ledger_types.declared.ids.AccountId.{AccountId}
use Rattle.close_laws.specs.op_types.declared.operation.OperationBody.{OperationBody}
use Rattle.close_laws.specs.op_types.declared.operation.OperationBody.TheVariants as body
use Rattle.close_laws.specs.op_types.declared.transaction.TransactionSet.{TransactionSet}
use Rattle.close_laws.specs.xdr_header.declared.record.CloseRecord.{CloseRecord}
use Rattle.close_laws.specs.entry_map.EntryMap.{EntryMap}
use Rattle.close_laws.specs.entry_slots.Accounts.{HasAccount}
use Rattle.close_laws.specs.sponsor_rules.declared.context.Ctx.{Ctx}
use Rattle.close_laws.specs.op_laws.AnyOperation.{any_operation}
use Rattle.close_laws.specs.tx_apply.Operations.{operations_of}
use Rattle.close_laws.specs.tx_apply.Set.{Setting, set_done}
use Rattle.close_laws.specs.close_rules.State.{ClosingState}
use Rattle.close_laws.specs.Legal.{AreClosed}

-- the one type of operation that removes an account, its source's own
abbrev pub is_merge : OperationBody → Bool
is_merge (body.AccountMerge op) = true
is_merge other = false

-- no transaction of a set has one
abbrev pub MergesNone : TransactionSet → Type 0
MergesNone set = All (λ entire. All (λ operation. is_merge operation.body ≡ false) (operations_of entire)) set.txs

-- each account of these entries is one of those
abbrev pub DoAccountsExist : (old new : EntryMap) → Type 0
DoAccountsExist old new = (id : AccountId) → HasAccount old id → HasAccount new id

-- ---- the laws

abbrev pub OperationsKeepAccounts : Type 0
OperationsKeepAccounts = (ctx : Ctx) (of : OperationBody) (m : EntryMap) → is_merge of ≡ false
    → DoAccountsExist m (any_operation ctx of m).entries

abbrev pub SetsKeepAccounts : Type 0
SetsKeepAccounts = (setting : Setting) (set : TransactionSet) (m : EntryMap) → MergesNone set
    → DoAccountsExist m (set_done setting set m).entries

-- also after the entire close
abbrev pub ClosesKeepAccounts : Type 0
ClosesKeepAccounts = (s : ClosingState) (closing : CloseRecord) (after : EntryMap) → MergesNone closing.tx_set
    → AreClosed s closing after → DoAccountsExist s.entries after
