-- One transaction, from its checks to its outcome (TransactionFrame::apply in stellar-core).
use Rattle.std.specs.Prelude.{ℕ, nat_eq, Bool, List, [], ◌∷◌, length, Option, Some, None, if◌then◌else◌}
use Rattle.ledger_types.specs.declared.ids.AccountId.{AccountId}
use Rattle.ledger_types.specs.declared.ids.Hash.{Hash}
use Rattle.op_types.specs.declared.operation.Operation.{Operation}
use Rattle.op_types.specs.declared.transaction.Transaction.{Transaction}
use Rattle.op_types.specs.declared.transaction.TransactionV0.{TransactionV0}
use Rattle.op_types.specs.declared.transaction_result.TransactionOutcome.{TransactionOutcome}
use Rattle.op_types.specs.declared.transaction_result.TransactionOutcome.TheVariants as outcome
use Rattle.entry_map.specs.EntryMap.{EntryMap}
use Rattle.sponsor_rules.specs.declared.context.Ctx.{Ctx}
use Rattle.sponsor_rules.specs.Signers.{map_after_removing_preauth}
use Rattle.signer_check.specs.declared.held.HeldSignature.{HeldSignature}
use Rattle.op_form.specs.Done.{Move}
use Rattle.tx_apply.specs.Signing.{source_of}
use Rattle.tx_apply.specs.Checks.{source_account, Judged, judged}
use Rattle.tx_apply.specs.Running.{Step, Ran, run}

-- what a transaction does: how it ended, the entries and the ids that it leaves, what it moves, and the operations that
-- were run
pub record Applied : Type 0 where
  pub outcome : TransactionOutcome
  pub entries : EntryMap
  pub id_pool : ℕ
  pub moves : List Move
  pub steps : List Step

-- a transaction whose operations were run and are undone
abbrev pub undone : TransactionOutcome → Ctx → EntryMap → List Step → Applied
undone end ctx m steps =
    record { outcome = end; entries = m; id_pool = ctx.id_pool; moves = []; steps = steps }

-- a transaction whose operations are not run
abbrev pub ended : TransactionOutcome → Ctx → EntryMap → Applied
ended end ctx m = undone end ctx m []

-- ---- pre-authorised signers

-- the map without the signers of a hash that the operations' sources have
unfoldable pub map_without_preauths : Hash → (source : AccountId) → List Operation → EntryMap → EntryMap
map_without_preauths hash source [] m = m
map_without_preauths hash source (operation ∷ operations) m =
    map_without_preauths hash source operations (map_after_removing_preauth (source_of source operation) hash m)

-- nor those of the transaction's source; whatever the checks answered
abbrev pub map_without_used : Hash → (source : AccountId) → List Operation → EntryMap → EntryMap
map_without_used hash source operations m =
    map_without_preauths hash source operations (map_after_removing_preauth source hash m)

-- ---- the operations

-- a sponsorship that is still open after the last operation undoes all
abbrev pub succeeded : Ctx → EntryMap → Ran → Applied
succeeded ctx m ran =
    if nat_eq (length ran.ctx.sponsorships) 0
    then
    record {
      outcome = outcome.Success ran.results;
      entries = ran.entries;
      id_pool = ran.ctx.id_pool;
      moves = ran.moves;
      steps = ran.steps;
    }
    else undone outcome.BadSponsorship ctx m ran.steps

-- any failure undoes all operations
abbrev pub settled : Ctx → EntryMap → Ran → Applied
settled ctx m ran = if ran.succeeds then succeeded ctx m ran else undone (outcome.Failed ran.results) ctx m ran.steps

abbrev pub operations_applied : Ctx → Transaction → EntryMap → Applied
operations_applied ctx tx m = settled ctx m (run ctx (source_account tx) 0 tx.operations m)

abbrev pub applied_or_ended : Ctx → Transaction → EntryMap → Option TransactionOutcome → Applied
applied_or_ended ctx tx m (Some end) = ended end ctx m
applied_or_ended ctx tx m None = operations_applied ctx tx m

-- ---- the transaction

abbrev pub finished : Ctx → Hash → Transaction → Judged → Applied
finished ctx hash tx checked =
    applied_or_ended ctx tx (map_without_used hash (source_account tx) tx.operations checked.entries) checked.outcome

abbrev pub transaction_applied : (pays : Bool) → (base_fee : ℕ) → Ctx → Hash → List HeldSignature → Transaction
    → EntryMap → Applied
transaction_applied pays base_fee ctx hash signatures tx m =
    finished ctx hash tx (judged pays base_fee ctx hash signatures tx m)

-- The first version of transactions isn't supported since protocol 13.
abbrev pub v0_applied : Ctx → Hash → TransactionV0 → EntryMap → Applied
v0_applied ctx hash tx m =
    ended outcome.NotSupported ctx (map_without_used hash (record { 0 = tx.source_account_ed25519 }) tx.operations m)
