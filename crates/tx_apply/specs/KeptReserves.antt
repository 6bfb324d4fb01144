-- The reserve law of a set: each operation leaves each account an available balance of at least 0, or of what it had,
-- by the base reserve of the ledger before (CAP-0003; the charge of a fee may take an account below it).
use Rattle.std.specs.Prelude.{◌≡◌, ℕ, All, Some}
use Rattle.ledger_types.specs.declared.account.AccountEntry.{AccountEntry}
use Rattle.ledger_types.specs.declared.ids.AccountId.{AccountId}
use Rattle.op_types.specs.declared.transaction.TransactionSet.{TransactionSet}
use Rattle.entry_map.specs.EntryMap.{EntryMap}
use Rattle.entry_slots.specs.Accounts.{account_at}
use Rattle.op_laws.specs.Laws.{IsCovered}
use Rattle.tx_apply.specs.Laws.{CanClose}
use Rattle.tx_apply.specs.Running.{Step}
use Rattle.tx_apply.specs.Set.{Setting, set_done}

-- each account that exists after an operation that was run, also one whose transaction is undone
pub record KeepsReserves (base_reserve : ℕ) (step : Step) : Type 0 where
  pub terms : step.ctx.base_reserve ≡ base_reserve
  pub covered : (id : AccountId) (account : AccountEntry) → account_at step.done.entries id ≡ Some account
      → IsCovered step.ctx step.entries account

abbrev pub OperationsKeepReserves : Type 0
OperationsKeepReserves = (setting : Setting) (set : TransactionSet) (m : EntryMap) → CanClose setting set m
    → All (λ step. KeepsReserves setting.header.base_reserve step) (set_done setting set m).steps
