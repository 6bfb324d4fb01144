-- Transactions and sets, step by step, in a map of which an invariant holds.
use Rattle.entry_map.specs.EntryMap.{EntryMap}
use Rattle.ledger_types.proofs.Booleans.{if_either}
use Rattle.entry_slots.specs.AccountExtensions.{with_seq_num}
use Rattle.entry_slots.specs.Accounts.{account_at}
use Rattle.entry_slots.specs.Tests.{first_fault}
use Rattle.fee_rules.specs.Envelopes.{fee_source_of}
use Rattle.ledger_types.specs.declared.ids.AccountId.{AccountId}
use Rattle.ledger_types.specs.declared.ids.Hash.{Hash}
use Rattle.ledger_types.specs.declared.signer.SignerKey.TheVariants.{PreAuthTx}
use Rattle.legal_rules.specs.Payments.{paid}
use Rattle.op_form.specs.declared.levels.ThresholdLevel.TheVariants.{Low}
use Rattle.op_types.specs.declared.operation.Operation.{Operation}
use Rattle.op_types.specs.declared.transaction.FeeBumpTransaction.{FeeBumpTransaction}
use Rattle.op_types.specs.declared.transaction.Transaction.{Transaction}
use Rattle.op_types.specs.declared.transaction.TransactionEnvelope.{TransactionEnvelope}
use Rattle.op_types.specs.declared.transaction_result.TransactionOutcome.{TransactionOutcome}
use Rattle.signer_check.specs.declared.held.HeldSignature.{HeldSignature}
use Rattle.sponsor_rules.specs.SeqNums.{new_extension_v3}
use Rattle.sponsor_rules.specs.Signers.{map_after_removing_preauth}
use Rattle.sponsor_rules.specs.declared.context.Ctx.{Ctx}
use Rattle.tx_apply.specs.Fees.{fee_of, fees_taken, map_after_fee}
use Rattle.tx_apply.specs.Running.{Ran, run}
use Rattle.tx_apply.specs.Set.{Setting, all_held, ctx_in, envelope_applied}
use Rattle.tx_apply.specs.Signing.{Auth, are_used, auth_of, source_of}
use Rattle.value_hashes.specs.Hashes.{signed_hash_of, transaction_hash_of}
use Rattle.std.specs.Prelude.{Bool, List, None, Option, Some, [], false, if◌then◌else◌, length, nat_eq, neg_ℤ, not}
use Rattle.std.specs.Prelude.{true, ℕ, ◌∷◌}
use Rattle.sponsor_rules.proofs.Changes.{account_changed}
use Rattle.sponsor_rules.proofs.Charges.{removing_signer}
use Rattle.sponsor_rules.proofs.Entries.{Invariant}
use Rattle.op_types.specs.declared.transaction.TransactionEnvelope.TheVariants as envelope
use Rattle.op_types.specs.declared.transaction_result.TransactionOutcome.TheVariants as outcome
use Rattle.tx_apply.specs.Checks as checks
use Rattle.tx_apply.specs.FeeBump as bump
use Rattle.tx_apply.specs.Transaction as spec

module _ (v : Invariant) where
  -- ---- signers, sequence numbers and fees

  without_preauths : (hash : Hash) (source : AccountId) (operations : List Operation) (m : EntryMap) → v.Holds m
      → v.Holds (spec.map_without_preauths hash source operations m)
  unfolding spec.map_without_preauths
  without_preauths hash source [] m holds = holds
  without_preauths hash source (of ∷ operations) m holds =
      without_preauths hash source operations _
      (removing_signer v (source_of source of) (PreAuthTx hash) m holds)

  pub without_used : (hash : Hash) (source : AccountId) (operations : List Operation) (m : EntryMap) → v.Holds m
      → v.Holds (spec.map_without_used hash source operations m)
  without_used hash source operations m holds =
      without_preauths hash source operations _ (removing_signer v source (PreAuthTx hash) m holds)

  pub judged_holds : (pays : Bool) (ctx : Ctx) (hash : Hash) (signatures : List HeldSignature) (tx : Transaction)
      (m : EntryMap) (fault : Option TransactionOutcome) → v.of.Extension (new_extension_v3 ctx) → v.Holds m
      → v.Holds (checks.judged_by pays ctx hash signatures tx m fault).entries
  judged_holds pays ctx hash signatures tx m (Some fault) given holds = holds
  judged_holds pays ctx hash signatures tx m None given holds =
      account_changed v (with_seq_num tx.seq_num (new_extension_v3 ctx))
      (v.sequenced tx.seq_num (new_extension_v3 ctx) given) m (checks.source_account tx) holds

  pub fees_hold : (base : ℕ) (envelopes : List TransactionEnvelope) (m : EntryMap) → v.Holds m
      → v.Holds (fees_taken base envelopes m).entries
  unfolding fees_taken
  fees_hold base [] m holds = holds
  fees_hold base (entire ∷ others) m holds =
      fees_hold base others (map_after_fee base entire m)
      (account_changed v (paid (neg_ℤ (fee_of base entire m))) (λ a. v.numbered _ _ a) m (fee_source_of entire) holds)

  -- what a transaction leaves
  abbrev Applies : spec.Applied → Type 0
  Applies applied = v.Holds applied.entries

  settled_holds : (ctx : Ctx) (m : EntryMap) (ran : Ran) → v.Holds m → v.Holds ran.entries
      → v.Holds (spec.settled ctx m ran).entries
  settled_holds ctx m ran holds left =
      if_either Applies ran.succeeds (spec.succeeded ctx m ran)
      (spec.undone (outcome.Failed ran.results) ctx m ran.steps)
      (if_either Applies (nat_eq (length ran.ctx.sponsorships) 0) _
      (spec.undone outcome.BadSponsorship ctx m ran.steps) left holds) holds

  -- what holds before transactions, by what a proof knows of them
  pub record Begins (Begun : Ctx → Transaction → EntryMap → Type 0) : Type 0 where
    pub entries : (ctx : Ctx) (tx : Transaction) (m : EntryMap) → Begun ctx tx m → v.Holds m
    pub extension : (ctx : Ctx) (tx : Transaction) (m : EntryMap) → Begun ctx tx m
        → v.of.Extension (new_extension_v3 ctx)
    -- the transaction in a fee bump begins after the signers that its payer used up
    pub used : (ctx : Ctx) (tx : Transaction) (payer : AccountId) (hash : Hash) (m : EntryMap) → Begun ctx tx m
        → Begun ctx tx (map_after_removing_preauth payer hash m)
    pub ran : (pays : Bool) (base_fee : ℕ) (ctx : Ctx) (hash : Hash) (signatures : List HeldSignature)
        (tx : Transaction) (m : EntryMap) → Begun ctx tx m
        → v.Holds (run ctx (checks.source_account tx) 0 tx.operations
        (spec.map_without_used hash (checks.source_account tx) tx.operations
        (checks.judged pays base_fee ctx hash signatures tx m).entries)).entries

  module _ (Begun : Ctx → Transaction → EntryMap → Type 0) (begins : Begins Begun) where
    ended_holds : (ctx : Ctx) (tx : Transaction) (m : EntryMap) (end : Option TransactionOutcome) → v.Holds m
        → v.Holds (run ctx (checks.source_account tx) 0 tx.operations m).entries
        → v.Holds (spec.applied_or_ended ctx tx m end).entries
    ended_holds ctx tx m (Some end) holds left = holds
    ended_holds ctx tx m None holds left =
        settled_holds ctx m (run ctx (checks.source_account tx) 0 tx.operations m) holds left

    transaction_holds : (pays : Bool) (base_fee : ℕ) (ctx : Ctx) (hash : Hash) (signatures : List HeldSignature)
        (tx : Transaction) (m : EntryMap) → Begun ctx tx m
        → v.Holds (spec.transaction_applied pays base_fee ctx hash signatures tx m).entries
    transaction_holds pays base_fee ctx hash signatures tx m begun =
        let checked = checks.judged pays base_fee ctx hash signatures tx m in
        let source = checks.source_account tx in
        ended_holds ctx tx (spec.map_without_used hash source tx.operations checked.entries) checked.outcome
        (without_used hash source tx.operations checked.entries (judged_holds pays ctx hash signatures tx m
        (checks.early_fault pays base_fee ctx tx m) (begins.extension ctx tx m begun)
        (begins.entries ctx tx m begun)))
        (begins.ran pays base_fee ctx hash signatures tx m begun)

    -- ---- fee bumps

    module _ (base_fee : ℕ) (ctx : Ctx) (signed : bump.BumpSigned) (tx : FeeBumpTransaction) where
      after_auth : (after : List HeldSignature) (m : EntryMap) → Begun ctx tx.inner_tx.tx m
          → v.Holds (bump.applied_after_auth base_fee ctx signed tx after m).entries
      after_auth after m begun =
          let holds = begins.entries ctx tx.inner_tx.tx m begun in
          if_either Applies (checks.is_poor ctx (account_at m (bump.payer_of tx)))
          (spec.ended outcome.InsufficientBalance ctx m)
          (if are_used after then bump.inner_applied base_fee ctx signed tx m else spec.ended outcome.BadAuthExtra ctx
          m)
          holds
          (if_either Applies (are_used after) (bump.inner_applied base_fee ctx signed tx m)
          (spec.ended outcome.BadAuthExtra ctx m)
          (transaction_holds false base_fee ctx signed.inner_hash signed.inner_signatures tx.inner_tx.tx m begun) holds)

      by_auth : (m : EntryMap) (auth : Auth) → Begun ctx tx.inner_tx.tx m
          → v.Holds (bump.applied_by_auth base_fee ctx signed tx m auth).entries
      by_auth m auth begun =
          if_either Applies (not auth.passes) (spec.ended outcome.BadAuth ctx m)
          (bump.applied_after_auth base_fee ctx signed tx auth.signatures
          (map_after_removing_preauth (bump.payer_of tx) signed.hash m)) (begins.entries ctx tx.inner_tx.tx m begun)
          (after_auth auth.signatures (map_after_removing_preauth (bump.payer_of tx) signed.hash m)
          (begins.used ctx tx.inner_tx.tx (bump.payer_of tx) signed.hash m begun))

      by_fault : (m : EntryMap) (fault : Option TransactionOutcome) → Begun ctx tx.inner_tx.tx m
          → v.Holds (bump.applied_by_fault base_fee ctx signed tx m fault).entries
      by_fault m (Some fault) begun = begins.entries ctx tx.inner_tx.tx m begun
      by_fault m None begun = by_auth m (auth_of signed.hash Low signed.signatures m (bump.payer_of tx)) begun

      bump_holds : (m : EntryMap) → Begun ctx tx.inner_tx.tx m
          → v.Holds (bump.bump_applied base_fee ctx signed tx m).entries
      bump_holds m begun =
          by_fault m (first_fault (bump.payer_tests base_fee tx (account_at m (bump.payer_of tx)))) begun

    -- ---- envelopes

    -- what holds before an envelope is applied
    abbrev pub BeginsEnvelope : Setting → ℕ → TransactionEnvelope → EntryMap → Type 0
    BeginsEnvelope setting id_pool (envelope.V0 signed) m = v.Holds m
    BeginsEnvelope setting id_pool (envelope.V1 signed) m =
        Begun (ctx_in setting id_pool (envelope.V1 signed)) signed.tx m
    BeginsEnvelope setting id_pool (envelope.FeeBump signed) m =
        Begun (ctx_in setting id_pool (envelope.FeeBump signed)) signed.tx.inner_tx.tx m

    pub envelope_holds : (setting : Setting) (id_pool : ℕ) (entire : TransactionEnvelope) (m : EntryMap)
        → BeginsEnvelope setting id_pool entire m → v.Holds (envelope_applied setting id_pool entire m).entries
    unfolding envelope_applied
    envelope_holds setting id_pool (envelope.V0 signed) m holds =
        without_used (signed_hash_of setting.network (envelope.V0 signed))
        (record { 0 = signed.tx.source_account_ed25519 }) signed.tx.operations m holds
    envelope_holds setting id_pool (envelope.V1 signed) m begun =
        transaction_holds true setting.header.base_fee (ctx_in setting id_pool (envelope.V1 signed))
        (signed_hash_of setting.network (envelope.V1 signed))
        (all_held (signed_hash_of setting.network (envelope.V1 signed)) setting.vouches signed.signatures) signed.tx m
        begun
    envelope_holds setting id_pool (envelope.FeeBump signed) m begun =
        bump_holds setting.header.base_fee (ctx_in setting id_pool (envelope.FeeBump signed))
        (bump.signed_by (signed_hash_of setting.network (envelope.FeeBump signed))
        (all_held (signed_hash_of setting.network (envelope.FeeBump signed)) setting.vouches signed.signatures)
        (transaction_hash_of setting.network signed.tx.inner_tx.tx)
        (all_held (transaction_hash_of setting.network signed.tx.inner_tx.tx) setting.vouches
        signed.tx.inner_tx.signatures)) signed.tx
        m begun
