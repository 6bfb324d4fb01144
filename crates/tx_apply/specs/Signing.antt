-- The signature checks of a transaction and of its operations (TransactionFrame::checkSignature and
-- OperationFrame::checkSignature in stellar-core). One list of signatures goes through all of them.
use Rattle.std.specs.Prelude.{Bool, true, false, List, [], ◌∷◌, Option, Some, None}
use Rattle.std.specs.List.{list_all}
use Rattle.ledger_types.specs.Ids.{account_of}
use Rattle.ledger_types.specs.declared.ids.AccountId.{AccountId}
use Rattle.ledger_types.specs.declared.ids.Hash.{Hash}
use Rattle.ledger_types.specs.declared.ids.MuxedAccount.{MuxedAccount}
use Rattle.ledger_types.specs.declared.account.AccountEntry.{AccountEntry}
use Rattle.op_types.specs.declared.operation.Operation.{Operation}
use Rattle.op_types.specs.declared.operation_result.OperationResult.{OperationResult}
use Rattle.op_types.specs.declared.operation_result.OperationResult.TheVariants.{BadAuth}
use Rattle.entry_map.specs.EntryMap.{EntryMap}
use Rattle.entry_slots.specs.Accounts.{account_at}
use Rattle.signer_check.specs.declared.held.HeldSignature.{HeldSignature}
use Rattle.signer_check.specs.Weight.{succeeds, after_check, lone_succeeds, after_lone}
use Rattle.op_form.specs.declared.levels.ThresholdLevel.{ThresholdLevel}
use Rattle.op_form.specs.Levels.{level_of, threshold_at}
use Rattle.op_form.specs.DefaultResults.{default_result}

-- ---- one account

-- whether a check passed, and the signatures after it
pub record Auth : Type 0 where
  pub passes : Bool
  pub signatures : List HeldSignature

-- An account that doesn't exist is checked as its own key alone, at any threshold.
abbrev pub auth_by : Hash → ThresholdLevel → List HeldSignature → AccountId → Option AccountEntry → Auth
auth_by hash level signatures id None = record {
  passes = lone_succeeds hash signatures id;
  signatures = after_lone hash signatures id;
}
auth_by hash level signatures id (Some account) = record {
  passes = succeeds hash signatures account (threshold_at level account);
  signatures = after_check hash signatures account (threshold_at level account);
}

-- the check of an account, by its id
abbrev pub auth_of : Hash → ThresholdLevel → List HeldSignature → EntryMap → AccountId → Auth
auth_of hash level signatures m id = auth_by hash level signatures id (account_at m id)

-- every signature was used by some check
abbrev pub are_used : List HeldSignature → Bool
are_used signatures = list_all (λ signature. signature.is_used) signatures

-- ---- operations

-- an operation's own source, or else the transaction's
abbrev pub source_by : AccountId → Option MuxedAccount → AccountId
source_by source None = source
source_by source (Some own) = account_of own

abbrev pub source_of : AccountId → Operation → AccountId
source_of source operation = source_by source operation.source_account

-- whether the check of each operation passed, and the signatures after them all
pub record Auths : Type 0 where
  pub passes : List Bool
  pub signatures : List HeldSignature

abbrev pub with_auth : Bool → Auths → Auths
with_auth passes rest = record { passes = passes ∷ rest.passes; signatures = rest.signatures }

-- each operation in turn, over the signatures that those before it left
unfoldable pub auths_of : Hash → AccountId → EntryMap → List HeldSignature → List Operation → Auths
auths_of hash source m signatures [] = record { passes = []; signatures = signatures }
auths_of hash source m signatures (operation ∷ operations) =
    let auth = auth_of hash (level_of operation.body) signatures m (source_of source operation) in
    with_auth auth.passes (auths_of hash source m auth.signatures operations)

abbrev pub auth_result : Bool → Operation → OperationResult
auth_result true operation = default_result operation.body
auth_result false operation = BadAuth

-- where a check failed: each operation that failed has its code, and each other one the default result of its type
unfoldable pub auth_results : List Bool → List Operation → List OperationResult
auth_results [] operations = []
auth_results (passes ∷ more) [] = []
auth_results (passes ∷ more) (operation ∷ operations) = auth_result passes operation ∷ auth_results more operations
