-- What a logic shows of entries is kept by a set, where what it asks of an operation follows from the operation and the
-- context alone.
use Rattle.bucket_levels.specs.entry_map.EntryMap.{EntryMap}
use Rattle.close_rules.proofs.tx_apply_proofs.Conserving.{all_at}
use Rattle.close_rules.specs.entry_slots.Accounts.{account_at}
use Rattle.close_rules.specs.fee_rules.Fees.{set_base_fee}
use Rattle.close_rules.specs.fee_rules.Turns.{apply_order_of}
use Rattle.close_rules.specs.ledger_types.declared.account.AccountEntry.{AccountEntry}
use Rattle.close_rules.specs.ledger_types.declared.ids.AccountId.{AccountId}
use Rattle.close_rules.specs.ledger_types.declared.signer.SignerKey.TheVariants.{PreAuthTx}
use Rattle.close_rules.specs.op_types.declared.operation.Operation.{Operation}
use Rattle.close_rules.specs.op_types.declared.operation.OperationBody.{OperationBody}
use Rattle.close_rules.specs.op_types.declared.transaction.Transaction.{Transaction}
use Rattle.close_rules.specs.op_types.declared.transaction.TransactionEnvelope.{TransactionEnvelope}
use Rattle.close_rules.specs.op_types.declared.transaction.TransactionSet.{TransactionSet}
use Rattle.close_rules.specs.sponsor_rules.declared.context.Ctx.{Ctx}
use Rattle.close_rules.specs.tx_apply.Operations.{operations_of}
use Rattle.close_rules.specs.tx_apply.Running.{done_at, done_by, inserted, run}
use Rattle.close_rules.specs.tx_apply.Set.{Setting, all_applied, ctx_in, envelope_applied, envelopes_in_order}
use Rattle.close_rules.specs.tx_apply.Set.{fees_taken_of, set_done}
use Rattle.close_rules.specs.tx_apply.Signing.{source_of}
use Rattle.op_form.proofs.Walks.{Before, Left, Logic}
use Rattle.op_laws.proofs.AllSteps.{Asked, any_left}
use Rattle.sponsor_rules.proofs.Charges.{removing_signer}
use Rattle.std.proofs.Common.{ℤ, ◌+◌}
use Rattle.std.proofs.lemmas.List.Elements.{All-head, All-tail}
use Rattle.std.specs.Prelude.{All, List, None, Option, Some, [], ℕ, ◌∷◌}
use Rattle.tx_apply.proofs.SetsHold.{Begins, BeginsEnvelope, envelope_holds, fees_hold, judged_holds, without_used}
use Rattle.close_rules.specs.op_types.declared.transaction.TransactionEnvelope.TheVariants as envelope
use Rattle.close_rules.specs.tx_apply.Checks as checks

-- operations for which it is so
pub record Admits (w : Logic) (Admitted : OperationBody → Type 0) : Type 0 where
  pub asked : (ctx : Ctx) (m : EntryMap) (of : OperationBody) → Admitted of → w.Context ctx → Asked w ctx m of
  pub indexed : (ctx : Ctx) (index : ℕ) (source : AccountId) → w.Context ctx → w.Context (inserted ctx index source)

-- each operation of an envelope is one of these
abbrev pub AreAdmitted : (OperationBody → Type 0) → List Operation → Type 0
AreAdmitted Admitted operations = All (λ of. Admitted of.body) operations

module _ (w : Logic) (Admitted : OperationBody → Type 0) (admits : Admits w Admitted) where
  -- ---- operations

  done_left : (ctx : Ctx) (of : Operation) (m : EntryMap) (found : Option AccountEntry) → Admitted of.body
      → Before w ctx m → Left w (done_by ctx of m found)
  done_left ctx of m None admitted before =
      record { entries = before.entries; context = before.context; answer = w.answers.no_account }
  done_left ctx of m (Some account) admitted before =
      any_left w ctx m before of.body (admits.asked ctx m of.body admitted before.context)

  run_keeps : (ctx : Ctx) (source : AccountId) (index : ℕ) (operations : List Operation) (m : EntryMap)
      → AreAdmitted Admitted operations → Before w ctx m → w.inv.Holds (run ctx source index operations m).entries
  unfolding run
  run_keeps ctx source index [] m admitted before = before.entries
  run_keeps ctx source index (of ∷ operations) m admitted before =
      let first = done_at ctx source index of m in
      let left = done_left (inserted ctx index (source_of source of)) of m (account_at m (source_of source of))
      (All-head (λ o. Admitted o.body) of operations admitted)
      (record { entries = before.entries; context = admits.indexed ctx index (source_of source of) before.context }) in
      run_keeps first.ctx source (index + 1) operations first.entries
      (All-tail (λ o. Admitted o.body) of operations admitted)
      (record { entries = left.entries; context = left.context })

  -- ---- transactions

  record IsBegun (ctx : Ctx) (tx : Transaction) (m : EntryMap) : Type 0 where
    admitted : AreAdmitted Admitted tx.operations
    before : Before w ctx m

  begins : Begins w.inv IsBegun
  begins = record {
    entries = λ ctx tx m begun. begun.before.entries;
    extension = λ ctx tx m begun. w.extension ctx begun.before.context;
    used = λ ctx tx payer hash m begun. record {
      admitted = begun.admitted;
      before = record {
        entries = removing_signer w.inv payer (PreAuthTx hash) m begun.before.entries;
        context = begun.before.context;
      };
    };
    ran = λ pays base_fee ctx hash signatures tx m begun.
        let checked = checks.judged pays base_fee ctx hash signatures tx m in
        run_keeps ctx (checks.source_account tx) 0 tx.operations _ begun.admitted (record {
          entries = without_used w.inv hash (checks.source_account tx) tx.operations checked.entries
              (judged_holds w.inv pays ctx hash signatures tx m (checks.early_fault pays base_fee ctx tx m)
              (w.extension ctx begun.before.context) begun.before.entries);
          context = begun.before.context;
        });
  }

  -- ---- envelopes

  module _ (setting : Setting)
      (begun : (id_pool : ℕ) (entire : TransactionEnvelope) → w.Context (ctx_in setting id_pool entire)) where
    begins_envelope : (id_pool : ℕ) (entire : TransactionEnvelope) (m : EntryMap)
        → AreAdmitted Admitted (operations_of entire) → w.inv.Holds m
        → BeginsEnvelope w.inv IsBegun begins setting id_pool entire m
    begins_envelope id_pool (envelope.V0 signed) m admitted holds = holds
    begins_envelope id_pool (envelope.V1 signed) m admitted holds =
        record {
          admitted = admitted;
          before = record { entries = holds; context = begun id_pool (envelope.V1 signed) };
        }
    begins_envelope id_pool (envelope.FeeBump signed) m admitted holds =
        record {
          admitted = admitted;
          before = record { entries = holds; context = begun id_pool (envelope.FeeBump signed) };
        }

    all_keep : (id_pool : ℕ) (envelopes : List TransactionEnvelope) (fees : List ℤ) (m : EntryMap)
        → All (λ entire. AreAdmitted Admitted (operations_of entire)) envelopes → w.inv.Holds m
        → w.inv.Holds (all_applied setting id_pool envelopes fees m).entries
    unfolding all_applied
    all_keep id_pool [] fees m admitted holds = holds
    all_keep id_pool (entire ∷ others) [] m admitted holds = holds
    all_keep id_pool (entire ∷ others) (fee ∷ fees) m admitted holds =
        let first = envelope_applied setting id_pool entire m in
        all_keep first.id_pool others fees first.entries
        (All-tail (λ one. AreAdmitted Admitted (operations_of one)) entire others admitted)
        (envelope_holds w.inv IsBegun begins setting id_pool entire m
        (begins_envelope id_pool entire m
        (All-head (λ one. AreAdmitted Admitted (operations_of one)) entire others admitted) holds))

    -- ---- sets

    pub set_keeps : (set : TransactionSet) (m : EntryMap)
        → All (λ entire. AreAdmitted Admitted (operations_of entire)) set.txs → w.inv.Holds m
        → w.inv.Holds (set_done setting set m).entries
    set_keeps set m admitted holds =
        let taken = fees_taken_of setting set m in
        all_keep setting.header.id_pool (envelopes_in_order set) taken.fees taken.entries
        (all_at (λ entire. AreAdmitted Admitted (operations_of entire)) set.txs (apply_order_of set) admitted)
        (fees_hold w.inv (set_base_fee setting.header set.txs) (envelopes_in_order set) m holds)
