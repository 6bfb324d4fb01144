-- A complete set: all fees first, and then the transactions, both in the order in which they are applied
-- (LedgerManagerImpl::processFeesSeqNums and applyTransactions in stellar-core).
use Rattle.std.specs.Prelude.{◌≡◌, ℕ, ℤ, ◌+ℤ◌, Bool, true, false, not, List, [], ◌∷◌, ◌++◌, map, slice_get}
use Rattle.std.specs.Prelude.{Option, Some, None, is_some, Result, Ok, Err}
use Rattle.std.specs.List.{find}
use Rattle.ledger_types.specs.declared.ids.Hash.{Hash}
use Rattle.ledger_types.specs.declared.header.LedgerHeader.{LedgerHeader}
use Rattle.op_types.specs.declared.transaction.DecoratedSignature.{DecoratedSignature}
use Rattle.op_types.specs.declared.transaction.TransactionV1Envelope.{TransactionV1Envelope}
use Rattle.op_types.specs.declared.transaction.FeeBumpTransactionEnvelope.{FeeBumpTransactionEnvelope}
use Rattle.op_types.specs.declared.transaction.TransactionEnvelope.{TransactionEnvelope}
use Rattle.op_types.specs.declared.transaction.TransactionEnvelope.TheVariants as envelope
use Rattle.op_types.specs.declared.transaction.TransactionSet.{TransactionSet}
use Rattle.op_types.specs.declared.transaction_result.TransactionOutcome.{TransactionOutcome}
use Rattle.op_types.specs.declared.transaction_result.TransactionResultPair.{TransactionResultPair}
use Rattle.entry_map.specs.EntryMap.{EntryMap}
use Rattle.entry_map.specs.Undo.{Undo, with_current}
use Rattle.op_types.specs.declared.vouch.Vouch.{Vouch}
use Rattle.tx_apply.specs.declared.set.SetDone.{SetDone}
use Rattle.tx_apply.specs.declared.setting.Setting.{Setting as SettingOfCall}
use Rattle.tx_apply.specs.declared.fault.SetFault.{SetFault}
use Rattle.tx_apply.specs.declared.fault.SetFault.TheVariants as fault
use Rattle.entry_slots.specs.Accounts.{account_at}
use Rattle.signer_check.specs.declared.held.HeldSignature.{HeldSignature}
use Rattle.signer_check.specs.Weight.{held}
use Rattle.value_hashes.specs.Hashes.{signed_hash_of, transaction_hash_of}
use Rattle.fee_rules.specs.Envelopes.{source_of, seq_num_of, fee_source_of}
use Rattle.fee_rules.specs.Fees.{set_base_fee}
use Rattle.fee_rules.specs.Turns.{apply_order_of}
use Rattle.op_form.specs.Done.{Move}
use Rattle.tx_apply.specs.Running.{Step}
use Rattle.tx_apply.specs.Transaction.{Applied, transaction_applied, v0_applied}
use Rattle.tx_apply.specs.FeeBump.{signed_by, bump_applied}
use Rattle.sponsor_rules.specs.declared.context.Ctx.{Ctx}
use Rattle.tx_apply.specs.Indices.{envelopes_at}
use Rattle.tx_apply.specs.Contexts.{ctx_of}
use Rattle.tx_apply.specs.Fees.{FeesTaken, fees_taken, sum_of}

-- ---- what a set closes over

-- the network, the header of the ledger before, the time at which the set closes, and what is vouched for
pub record Setting : Type 0 where
  pub network : Hash
  pub header : LedgerHeader
  pub close_time : ℕ
  pub vouches : List Vouch

-- the setting that calls are given
abbrev pub setting_of : SettingOfCall → Setting
setting_of setting = record {
  network = setting.network.now;
  header = setting.header.now;
  close_time = setting.close_time;
  vouches = setting.vouches.now;
}

-- the context of a transaction before its operations
abbrev pub ctx_in : Setting → (id_pool : ℕ) → TransactionEnvelope → Ctx
ctx_in setting id_pool entire = ctx_of setting.header setting.close_time id_pool (source_of entire) (seq_num_of entire)

-- ---- one envelope

-- signatures over a hash, before any check
abbrev pub all_held : Hash → List Vouch → List DecoratedSignature → List HeldSignature
all_held hash vouches signatures = map (held hash vouches) signatures

abbrev pub v1_applied : Setting → Ctx → Hash → TransactionV1Envelope → EntryMap → Applied
v1_applied setting ctx hash signed m =
    transaction_applied true setting.header.base_fee ctx hash (all_held hash setting.vouches signed.signatures)
    signed.tx m

abbrev pub fee_bump_applied : Setting → Ctx → Hash → FeeBumpTransactionEnvelope → EntryMap → Applied
fee_bump_applied setting ctx hash signed m =
    let inner = transaction_hash_of setting.network signed.tx.inner_tx.tx in
    bump_applied setting.header.base_fee ctx
    (signed_by hash (all_held hash setting.vouches signed.signatures) inner
    (all_held inner setting.vouches signed.tx.inner_tx.signatures)) signed.tx m

-- by the kind of the envelope, with the hash that its signatures are made over
abbrev pub envelope_by : Setting → Ctx → Hash → TransactionEnvelope → EntryMap → Applied
envelope_by setting ctx hash (envelope.V0 signed) m = v0_applied ctx hash signed.tx m
envelope_by setting ctx hash (envelope.V1 signed) m = v1_applied setting ctx hash signed m
envelope_by setting ctx hash (envelope.FeeBump signed) m = fee_bump_applied setting ctx hash signed m

-- one transaction, over the entries and ids that those before it left
unfoldable pub envelope_applied : Setting → (id_pool : ℕ) → TransactionEnvelope → EntryMap → Applied
envelope_applied setting id_pool entire m =
    envelope_by setting (ctx_in setting id_pool entire) (signed_hash_of setting.network entire) entire m

-- ---- all of them

abbrev pub pair_of : Hash → (fee : ℤ) → TransactionOutcome → TransactionResultPair
pair_of hash fee end =
    record { transaction_hash = hash; result = record { fee_charged = fee; outcome = end } }

abbrev pub result_pair : Setting → TransactionEnvelope → (fee : ℤ) → TransactionOutcome → TransactionResultPair
result_pair setting entire fee end = pair_of (signed_hash_of setting.network entire) fee end

-- what a set does: the results, the entries and the ids that it leaves, what it moves, and the operations that were run
pub record DoneSet : Type 0 where
  pub results : List TransactionResultPair
  pub entries : EntryMap
  pub id_pool : ℕ
  pub moves : List Move
  pub steps : List Step

abbrev pub none_applied : (id_pool : ℕ) → EntryMap → DoneSet
none_applied id_pool m = record { results = []; entries = m; id_pool = id_pool; moves = []; steps = [] }

abbrev pub after_transaction : TransactionResultPair → Applied → DoneSet → DoneSet
after_transaction pair first rest =
    record {
      results = pair ∷ rest.results;
      entries = rest.entries;
      id_pool = rest.id_pool;
      moves = first.moves ++ rest.moves;
      steps = first.steps ++ rest.steps;
    }

-- each in turn, with its fee
unfoldable pub all_applied : Setting → (id_pool : ℕ) → List TransactionEnvelope → (fees : List ℤ) → EntryMap
    → DoneSet
all_applied setting id_pool [] fees m = none_applied id_pool m
all_applied setting id_pool (entire ∷ others) [] m = none_applied id_pool m
all_applied setting id_pool (entire ∷ others) (fee ∷ fees) m =
    let first = envelope_applied setting id_pool entire m in
    after_transaction (result_pair setting entire fee first.outcome) first
    (all_applied setting first.id_pool others fees first.entries)

-- ---- the set

-- the envelopes of a set in the order in which they are applied
abbrev pub envelopes_in_order : TransactionSet → List TransactionEnvelope
envelopes_in_order set = envelopes_at set.txs (apply_order_of set)

abbrev pub fees_taken_of : Setting → TransactionSet → EntryMap → FeesTaken
fees_taken_of setting set m = fees_taken (set_base_fee setting.header set.txs) (envelopes_in_order set) m

abbrev pub set_done : Setting → TransactionSet → EntryMap → DoneSet
set_done setting set m =
    all_applied setting setting.header.id_pool (envelopes_in_order set) (fees_taken_of setting set m).fees
    (fees_taken_of setting set m).entries

-- the fee pool after the set, in stroops
abbrev pub fee_pool_after : Setting → TransactionSet → EntryMap → ℤ
fee_pool_after setting set m = setting.header.fee_pool +ℤ sum_of (fees_taken_of setting set m).fees

-- ---- sets that can't be applied

abbrev pub lacks_fee_source : EntryMap → Option TransactionEnvelope → Bool
lacks_fee_source m None = false
lacks_fee_source m (Some entire) = not (is_some (account_at m (fee_source_of entire)))

-- the first of these indices at which there is a transaction whose fee source has no account
unfoldable pub missing_among : EntryMap → List TransactionEnvelope → List ℕ → Option ℕ
missing_among m envelopes indices = find (λ index. lacks_fee_source m (slice_get envelopes index)) indices

abbrev pub missing_index : EntryMap → TransactionSet → Option ℕ
missing_index m set = missing_among m set.txs (apply_order_of set)

-- ---- what a call answers

-- the set was applied
pub record IsApplied (setting : Setting) (set : TransactionSet) (old new : Undo) (done : SetDone) : Type 0 where
  pub results : done.results.results ≡ (set_done setting set old.current).results
  pub entries : new ≡ with_current old (set_done setting set old.current).entries
  pub fee_pool : done.fee_pool ≡ fee_pool_after setting set old.current
  pub id_pool : done.id_pool ≡ (set_done setting set old.current).id_pool

-- Allocation failure is the one free answer. A set that is refused leaves the entries.
abbrev pub IsAnswer : Setting → TransactionSet → (old new : Undo) → Result SetDone SetFault → Type 0
IsAnswer setting set old new (Ok done) =
    (missing_index old.current set ≡ None) × IsApplied setting set old new done
IsAnswer setting set old new (Err (fault.FeeSourceMissing index)) =
    (missing_index old.current set ≡ Some index) × (new ≡ old)
IsAnswer setting set old new (Err fault.NoMemory) = Unit {0}
