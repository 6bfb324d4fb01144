-- The operations of a set keep reserves, all by the base reserve of the ledger before.
use Rattle.tx_apply.proofs.Prelude as prelude
use prelude.{◌≡◌, ℕ, ◌+◌, ◌<◌, ℤ, ◌∙◌, refl, Bool, true, false, not, if◌then◌else◌, nat_eq, length, List, [], ◌∷◌}
use prelude.{Option, Some, None, All, All-nil, All-cons, All-append, AccountId, Hash, Operation, Transaction}
use prelude.{TransactionEnvelope, EntryMap, account_at, TransactionOutcome, first_fault, Ctx}
use prelude.{map_after_removing_preauth, HeldSignature, IsLawful, TransactionLaws, LegalSettles, IsSettled}
use prelude.{operations_of, AreFit, AreAllFit, AreLawful, source_account, judged, is_poor, source_of, Auth, auth_of}
use prelude.{are_used, Step, Ran, inserted, done_at, run, Applied, undone, ended, Setting, ctx_in, all_held}
use prelude.{signed_hash_of, transaction_hash_of, envelope_applied, all_applied, envelopes_in_order, fees_taken_of}
use Rattle.std.proofs.lemmas.List.Elements.{All-head, All-tail}
use Rattle.ledger_types.proofs.Booleans.{if_either}
use Rattle.op_types.specs.declared.transaction.FeeBumpTransaction.{FeeBumpTransaction}
use Rattle.op_types.specs.declared.transaction.TransactionEnvelope.TheVariants as envelope
use Rattle.op_types.specs.declared.transaction_result.TransactionOutcome.TheVariants as outcome
use Rattle.op_form.specs.declared.levels.ThresholdLevel.TheVariants.{Low}
use Rattle.tx_apply.specs.FeeBump as bump
use Rattle.tx_apply.specs.Transaction as spec
use Rattle.tx_apply.specs.KeptReserves.{KeepsReserves, OperationsKeepReserves}
use Rattle.tx_apply.proofs.Conserving.{fees_sound, set_fit}
use Rattle.tx_apply.proofs.Sound.{envelope_sound}

-- a lawful operation
abbrev Lawful : Step → Type 0
Lawful step = IsLawful step.ctx step.entries step.done

module _ (base : ℕ) where
  abbrev Keeps : Step → Type 0
  Keeps step = KeepsReserves base step

  kept : (step : Step) → step.ctx.base_reserve ≡ base → Lawful step → Keeps step
  kept step terms lawful = record { terms = terms; covered = lawful.reserves }

  -- ---- operations

  run_keeps : (ctx : Ctx) (source : AccountId) (index : ℕ) (operations : List Operation) (m : EntryMap)
      → ctx.base_reserve ≡ base → AreLawful (run ctx source index operations m).steps
      → All Keeps (run ctx source index operations m).steps
  unfolding run
  run_keeps ctx source index [] m terms lawful = All-nil Keeps
  run_keeps ctx source index (operation ∷ operations) m terms lawful =
      let first = done_at ctx source index operation m in
      let after = run first.ctx source (index + 1) operations first.entries in
      let step : Step =
      record { ctx = inserted ctx index (source_of source operation); entries = m; done = first } in
      let own = All-head Lawful step after.steps lawful in
      All-cons Keeps step after.steps (kept step terms own)
      (run_keeps first.ctx source (index + 1) operations first.entries (own.terms.base_reserve ∙ terms)
      (All-tail Lawful step after.steps lawful))

  -- ---- transactions

  -- operations of a transaction that are lawful keep reserves
  abbrev Applies : Applied → Type 0
  Applies applied = AreLawful applied.steps → All Keeps applied.steps

  ended_keeps : (end : TransactionOutcome) (ctx : Ctx) (m : EntryMap) → Applies (ended end ctx m)
  ended_keeps end ctx m = λ lawful. All-nil Keeps

  settled_keeps : (ctx : Ctx) (m : EntryMap) (ran : Ran) → (AreLawful ran.steps → All Keeps ran.steps)
      → Applies (spec.settled ctx m ran)
  settled_keeps ctx m ran keeps =
      if_either Applies ran.succeeds (spec.succeeded ctx m ran)
      (undone (outcome.Failed ran.results) ctx m ran.steps)
      (if_either Applies (nat_eq (length ran.ctx.sponsorships) 0) _
      (undone outcome.BadSponsorship ctx m ran.steps) keeps keeps) keeps

  by_outcome : (ctx : Ctx) (tx : Transaction) (m : EntryMap) (end : Option TransactionOutcome)
      → ctx.base_reserve ≡ base → Applies (spec.applied_or_ended ctx tx m end)
  by_outcome ctx tx m (Some end) terms = ended_keeps end ctx m
  by_outcome ctx tx m None terms =
      settled_keeps ctx m (run ctx (source_account tx) 0 tx.operations m)
      (run_keeps ctx (source_account tx) 0 tx.operations m terms)

  transaction_keeps : (pays : Bool) (base_fee : ℕ) (ctx : Ctx) (hash : Hash) (signatures : List HeldSignature)
      (tx : Transaction) (m : EntryMap) → ctx.base_reserve ≡ base
      → Applies (spec.transaction_applied pays base_fee ctx hash signatures tx m)
  transaction_keeps pays base_fee ctx hash signatures tx m terms =
      let checked = judged pays base_fee ctx hash signatures tx m in
      by_outcome ctx tx (spec.map_without_used hash (source_account tx) tx.operations checked.entries) checked.outcome
      terms

  -- ---- fee bumps

  module _ (base_fee : ℕ) (ctx : Ctx) (signed : bump.BumpSigned) (tx : FeeBumpTransaction)
      (terms : ctx.base_reserve ≡ base) where
    inner_keeps : (m : EntryMap) → Applies (bump.inner_applied base_fee ctx signed tx m)
    inner_keeps m =
        transaction_keeps false base_fee ctx signed.inner_hash signed.inner_signatures tx.inner_tx.tx m terms

    after_auth : (after : List HeldSignature) (m : EntryMap)
        → Applies (bump.applied_after_auth base_fee ctx signed tx after m)
    after_auth after m =
        if_either Applies (is_poor ctx (account_at m (bump.payer_of tx)))
        (ended outcome.InsufficientBalance ctx m)
        (if are_used after then bump.inner_applied base_fee ctx signed tx m else ended outcome.BadAuthExtra ctx m)
        (ended_keeps outcome.InsufficientBalance ctx m)
        (if_either Applies (are_used after) (bump.inner_applied base_fee ctx signed tx m)
        (ended outcome.BadAuthExtra ctx m) (inner_keeps m) (ended_keeps outcome.BadAuthExtra ctx m))

    by_auth : (m : EntryMap) (auth : Auth) → Applies (bump.applied_by_auth base_fee ctx signed tx m auth)
    by_auth m auth =
        let after = map_after_removing_preauth (bump.payer_of tx) signed.hash m in
        if_either Applies (not auth.passes) (ended outcome.BadAuth ctx m)
        (bump.applied_after_auth base_fee ctx signed tx auth.signatures after) (ended_keeps outcome.BadAuth ctx m)
        (after_auth auth.signatures after)

    by_fault : (m : EntryMap) (fault : Option TransactionOutcome)
        → Applies (bump.applied_by_fault base_fee ctx signed tx m fault)
    by_fault m (Some fault) = ended_keeps fault ctx m
    by_fault m None = by_auth m (auth_of signed.hash Low signed.signatures m (bump.payer_of tx))

    bump_keeps : (m : EntryMap) → Applies (bump.bump_applied base_fee ctx signed tx m)
    bump_keeps m = by_fault m (first_fault (bump.payer_tests base_fee tx (account_at m (bump.payer_of tx))))

-- ---- envelopes

envelope_keeps : (setting : Setting) (id_pool : ℕ) (entire : TransactionEnvelope) (m : EntryMap)
    → Applies setting.header.base_reserve (envelope_applied setting id_pool entire m)
unfolding envelope_applied
envelope_keeps setting id_pool (envelope.V0 signed) m = λ lawful. All-nil (KeepsReserves setting.header.base_reserve)
envelope_keeps setting id_pool (envelope.V1 signed) m =
    transaction_keeps setting.header.base_reserve true setting.header.base_fee
    (ctx_in setting id_pool (envelope.V1 signed)) (signed_hash_of setting.network (envelope.V1 signed))
    (all_held (signed_hash_of setting.network (envelope.V1 signed)) setting.vouches signed.signatures) signed.tx m refl
envelope_keeps setting id_pool (envelope.FeeBump signed) m =
    bump_keeps setting.header.base_reserve setting.header.base_fee (ctx_in setting id_pool (envelope.FeeBump signed))
    (bump.signed_by (signed_hash_of setting.network (envelope.FeeBump signed))
    (all_held (signed_hash_of setting.network (envelope.FeeBump signed)) setting.vouches signed.signatures)
    (transaction_hash_of setting.network signed.tx.inner_tx.tx)
    (all_held (transaction_hash_of setting.network signed.tx.inner_tx.tx) setting.vouches
    signed.tx.inner_tx.signatures)) signed.tx refl m

-- ---- sets

module _ (laws : TransactionLaws) (setting : Setting) (seq : setting.header.ledger_seq < 2147483647) where
  all_keep : (id_pool : ℕ) (envelopes : List TransactionEnvelope) (fees : List ℤ) (m : EntryMap)
      → IsSettled id_pool m → AreAllFit envelopes
      → All (KeepsReserves setting.header.base_reserve) (all_applied setting id_pool envelopes fees m).steps
  unfolding all_applied
  all_keep id_pool [] fees m settled fit = All-nil (KeepsReserves setting.header.base_reserve)
  all_keep id_pool (entire ∷ others) [] m settled fit = All-nil (KeepsReserves setting.header.base_reserve)
  all_keep id_pool (entire ∷ others) (fee ∷ fees) m settled fit =
      let P = λ (w : TransactionEnvelope). AreFit (operations_of w) in
      let first = envelope_applied setting id_pool entire m in
      let sound = envelope_sound laws setting id_pool entire m settled seq (All-head P entire others fit) in
      All-append (KeepsReserves setting.header.base_reserve) first.steps
      (all_applied setting first.id_pool others fees first.entries).steps
      (envelope_keeps setting id_pool entire m sound.steps)
      (all_keep first.id_pool others fees first.entries sound.left.settled (All-tail P entire others fit))

pub operations_keep_reserves : TransactionLaws → LegalSettles → OperationsKeepReserves
operations_keep_reserves laws settles setting set m can =
    all_keep laws setting can.seq setting.header.id_pool (envelopes_in_order set) (fees_taken_of setting set m).fees
    (fees_taken_of setting set m).entries (fees_sound laws settles setting set m can).settled
    (set_fit laws settles setting set m can)
