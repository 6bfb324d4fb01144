-- An operation that isn't ACCOUNT_MERGE keeps each account that existed.
use Rattle.account_laws.proofs.Existing.{existing, keeps_itself}
use Rattle.account_laws.specs.Existing.{OperationsKeepAccounts, is_merge}
use Rattle.close_laws.proofs.SetsKeep.{Admits}
use Rattle.close_laws.specs.entry_map.EntryMap.{EntryMap}
use Rattle.close_laws.specs.op_types.declared.operation.OperationBody.{OperationBody}
use Rattle.close_laws.specs.sponsor_rules.declared.context.Ctx.{Ctx}
use Rattle.op_laws.proofs.AccountsAsked.{AccountAsked, IsOfAccounts, of_accounts}
use Rattle.op_laws.proofs.AllSteps.{any_left}
use Rattle.std.specs.Prelude.{false, ◌≡◌}
use Rattle.close_laws.specs.op_types.declared.operation.OperationBody.TheVariants as body

-- nothing is asked of what is put
free : (old : EntryMap) → IsOfAccounts (existing old)
free old = record {
  line = λ t. tt;
  offer = λ o. tt;
  data_entry = λ d. tt;
  balance = λ b. tt;
  pool = λ p. tt;
  sponsor = λ one. tt;
  named = λ of. tt;
  answer = λ of. tt;
  asks = λ asks. asks;
}

accounts_asked : (old : EntryMap) (ctx : Ctx) (of : OperationBody) → is_merge of ≡ false
    → AccountAsked (existing old) ctx of
accounts_asked old ctx (body.AccountMerge op) plain = absurd (cc)
accounts_asked old ctx (body.SetOptions op) plain = (λ good one is. tt, λ range a fits. tt)
accounts_asked old ctx other plain = tt

pub admits : (old : EntryMap) → Admits (existing old) (λ of. is_merge of ≡ false)
admits old = record {
  asked = λ ctx m of plain context.
      of_accounts (existing old) (free old) ctx m of (accounts_asked old ctx of plain);
  indexed = λ ctx index source context. context;
}

pub operations_keep_accounts : OperationsKeepAccounts
operations_keep_accounts ctx of m plain =
    (any_left (existing m) ctx m (record { entries = keeps_itself m; context = tt }) of
    ((admits m).asked ctx m of plain tt)).entries.each
