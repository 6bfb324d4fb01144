-- Transactions are sound: what they leave is settled, by the moves that they list, and their operations are lawful.
use Rattle.tx_apply.proofs.Prelude.{◌≡◌, ℕ, ◌<◌, Bool, false, true, not, List, [], Option, Some, None, refl, length}
use Rattle.tx_apply.proofs.Prelude.{AccountId, Hash, Transaction, TransactionV0, TransactionEnvelope}
use Rattle.tx_apply.proofs.Prelude.{TransactionOutcome, EntryMap, account_at, first_fault, Ctx}
use Rattle.tx_apply.proofs.Prelude.{map_after_removing_preauth, HeldSignature, TransactionLaws, IsSettled, IsUnderway}
use Rattle.tx_apply.proofs.Prelude.{signed_hash_of, transaction_hash_of, operations_of, source_account, judged, is_poor}
use Rattle.tx_apply.proofs.Prelude.{AreFit, Setting, ctx_in, all_held, envelope_applied, Auth, auth_of, are_used}
use Rattle.op_types.specs.declared.transaction.FeeBumpTransaction.{FeeBumpTransaction}
use Rattle.op_types.specs.declared.transaction.TransactionEnvelope.TheVariants as envelope
use Rattle.op_types.specs.declared.transaction_result.TransactionOutcome.TheVariants as outcome
use Rattle.op_form.specs.declared.levels.ThresholdLevel.TheVariants.{Low}
use Rattle.tx_apply.specs.FeeBump as bump
use Rattle.tx_apply.specs.Transaction as spec
use Rattle.tx_apply.proofs.Judging.{without_used, settled_judged}
use Rattle.tx_apply.proofs.Lawful.{operations_sound, none_open}
use Rattle.tx_apply.proofs.Settling.{IsSound, ended_sound, either_sound, sound_after}

-- a transaction that is under way before its first operation
underway_by : (ctx : Ctx) (m : EntryMap) → IsSettled ctx.id_pool m → ctx.sponsorships ≡ [] → ctx.seq < 2147483647
    → IsUnderway ctx m
underway_by ctx m settled closed seq =
    record { settled = settled; sponsorships = none_open ctx m closed; seq = seq }

module _ (laws : TransactionLaws) where
  by_outcome : (ctx : Ctx) (tx : Transaction) (m : EntryMap) (end : Option TransactionOutcome) → IsUnderway ctx m
      → AreFit tx.operations → IsSound (length tx.operations) ctx.id_pool m (spec.applied_or_ended ctx tx m end)
  by_outcome ctx tx m (Some end) underway fit = ended_sound end (length tx.operations) ctx m underway.settled
  by_outcome ctx tx m None underway fit = operations_sound laws.operations ctx tx m fit underway

  pub transaction_sound : (pays : Bool) (base_fee : ℕ) (ctx : Ctx) (hash : Hash) (signatures : List HeldSignature)
      (tx : Transaction) (m : EntryMap) → IsSettled ctx.id_pool m → ctx.sponsorships ≡ [] → ctx.seq < 2147483647
      → AreFit tx.operations → IsSound (length tx.operations) ctx.id_pool m
      (spec.transaction_applied pays base_fee ctx hash signatures tx m)
  transaction_sound pays base_fee ctx hash signatures tx m settled closed seq fit =
      let checked = judged pays base_fee ctx hash signatures tx m in
      let first = settled_judged laws.seq_nums pays base_fee ctx.id_pool ctx hash signatures tx m settled in
      let used = without_used laws.preauths ctx.id_pool hash (source_account tx) tx.operations checked.entries
      first.settled in
      let after = spec.map_without_used hash (source_account tx) tx.operations checked.entries in
      let applied = spec.applied_or_ended ctx tx after checked.outcome in
      sound_after (length tx.operations) ctx.id_pool m checked.entries applied first
      (sound_after (length tx.operations) ctx.id_pool checked.entries after applied used
      (by_outcome ctx tx after checked.outcome (underway_by ctx after used.settled closed seq) fit))

  v0_sound : (ctx : Ctx) (hash : Hash) (tx : TransactionV0) (m : EntryMap) → IsSettled ctx.id_pool m
      → IsSound (length tx.operations) ctx.id_pool m (spec.v0_applied ctx hash tx m)
  v0_sound ctx hash tx m settled =
      let source : AccountId = record { 0 = tx.source_account_ed25519 } in
      let used = without_used laws.preauths ctx.id_pool hash source tx.operations m settled in
      let after = spec.map_without_used hash source tx.operations m in
      sound_after (length tx.operations) ctx.id_pool m after (spec.ended outcome.NotSupported ctx after) used
      (ended_sound outcome.NotSupported (length tx.operations) ctx after used.settled)

  -- ---- fee bumps

  module _ (base_fee : ℕ) (ctx : Ctx) (signed : bump.BumpSigned) (tx : FeeBumpTransaction)
      (closed : ctx.sponsorships ≡ []) (seq : ctx.seq < 2147483647) (fit : AreFit tx.inner_tx.tx.operations) where
    abbrev count : ℕ
    count = length tx.inner_tx.tx.operations

    inner_sound : (m : EntryMap) → IsSettled ctx.id_pool m → IsSound (length tx.inner_tx.tx.operations) ctx.id_pool m
        (bump.inner_applied base_fee ctx signed tx m)
    inner_sound m settled =
        let sound = transaction_sound false base_fee ctx signed.inner_hash signed.inner_signatures tx.inner_tx.tx m
        settled closed seq fit in
        record { ids = sound.ids; left = sound.left; steps = sound.steps }

    after_auth_sound : (after : List HeldSignature) (m : EntryMap) → IsSettled ctx.id_pool m
        → IsSound (length tx.inner_tx.tx.operations) ctx.id_pool m
        (bump.applied_after_auth base_fee ctx signed tx after m)
    after_auth_sound after m settled =
        either_sound count ctx.id_pool m (is_poor ctx (account_at m (bump.payer_of tx))) _ _
        (ended_sound outcome.InsufficientBalance count ctx m settled)
        (either_sound count ctx.id_pool m (are_used after) _ _ (inner_sound m settled)
        (ended_sound outcome.BadAuthExtra count ctx m settled))

    by_auth_sound : (m : EntryMap) (auth : Auth) → IsSettled ctx.id_pool m
        → IsSound (length tx.inner_tx.tx.operations) ctx.id_pool m (bump.applied_by_auth base_fee ctx signed tx m auth)
    by_auth_sound m auth settled =
        let used = laws.preauths ctx.id_pool m (bump.payer_of tx) signed.hash settled in
        let after = map_after_removing_preauth (bump.payer_of tx) signed.hash m in
        either_sound count ctx.id_pool m (not auth.passes) _ _ (ended_sound outcome.BadAuth count ctx m settled)
        (sound_after count ctx.id_pool m after (bump.applied_after_auth base_fee ctx signed tx auth.signatures after)
        used
        (after_auth_sound auth.signatures after used.settled))

    by_fault_sound : (m : EntryMap) (fault : Option TransactionOutcome) → IsSettled ctx.id_pool m
        → IsSound (length tx.inner_tx.tx.operations) ctx.id_pool m
        (bump.applied_by_fault base_fee ctx signed tx m fault)
    by_fault_sound m (Some fault) settled = ended_sound fault count ctx m settled
    by_fault_sound m None settled =
        by_auth_sound m (auth_of signed.hash Low signed.signatures m (bump.payer_of tx)) settled

    pub bump_sound : (m : EntryMap) → IsSettled ctx.id_pool m → IsSound (length tx.inner_tx.tx.operations) ctx.id_pool m
        (bump.bump_applied base_fee ctx signed tx m)
    bump_sound m settled =
        by_fault_sound m (first_fault (bump.payer_tests base_fee tx (account_at m (bump.payer_of tx)))) settled

  -- ---- any envelope

  pub envelope_sound : (setting : Setting) (id_pool : ℕ) (entire : TransactionEnvelope) (m : EntryMap)
      → IsSettled id_pool m → setting.header.ledger_seq < 2147483647 → AreFit (operations_of entire)
      → IsSound (length (operations_of entire)) id_pool m (envelope_applied setting id_pool entire m)
  unfolding envelope_applied
  envelope_sound setting id_pool (envelope.V0 signed) m settled seq fit =
      v0_sound (ctx_in setting id_pool (envelope.V0 signed)) (signed_hash_of setting.network (envelope.V0 signed))
      signed.tx m settled
  envelope_sound setting id_pool (envelope.V1 signed) m settled seq fit =
      transaction_sound true setting.header.base_fee (ctx_in setting id_pool (envelope.V1 signed))
      (signed_hash_of setting.network (envelope.V1 signed))
      (all_held (signed_hash_of setting.network (envelope.V1 signed)) setting.vouches signed.signatures) signed.tx m
      settled refl seq
      fit
  envelope_sound setting id_pool (envelope.FeeBump signed) m settled seq fit =
      bump_sound setting.header.base_fee (ctx_in setting id_pool (envelope.FeeBump signed))
      (bump.signed_by (signed_hash_of setting.network (envelope.FeeBump signed))
      (all_held (signed_hash_of setting.network (envelope.FeeBump signed)) setting.vouches signed.signatures)
      (transaction_hash_of setting.network signed.tx.inner_tx.tx)
      (all_held (transaction_hash_of setting.network signed.tx.inner_tx.tx) setting.vouches
      signed.tx.inner_tx.signatures)) signed.tx
      refl seq fit m settled
