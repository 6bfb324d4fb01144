-- Sets leave the bytes of entries.
use Rattle.close_laws.proofs.Prelude as prelude
use prelude.{◌≡◌, refl, sym, subst, ℕ, suc, ◌+◌, ◌<◌, ◌≤◌, List, [], ◌∷◌, All, Option, Some, None, Bool}
use prelude.{length, arith, All-nil, All-head, All-tail, AccountId, Hash, MuxedAccount}
use prelude.{AccountEntry, Operation, Transaction, TransactionV1Envelope, TransactionEnvelope}
use prelude.{TransactionSet, option, optional, muxed_account, operation, transaction}
use prelude.{fee_bump_transaction, fee_bump_envelope, transaction_envelope, transaction_set, EntryMap, account_at}
use prelude.{Ctx, map_after_removing_preauth, HeldSignature, apply_order_of}
use prelude.{AllLawful, TransactionLaws, LegalSettles, IsSettled, IsUnderway}
use prelude.{operations_of, operation_total, CanDraw, CanClose, inserted, done_by}
use prelude.{done_at, run, Setting, ctx_in, envelope_applied, all_applied, envelopes_in_order}
use prelude.{fees_taken_of, set_done, source_by, source_of, all_at, IsEncoded}
use Rattle.std.proofs.Common.{ℤ}
use Rattle.close_rules.specs.ledger_types.declared.signer.SignerKey.TheVariants.{PreAuthTx}
use Rattle.close_rules.specs.op_types.declared.transaction.FeeBumpTransactionEnvelope.{FeeBumpTransactionEnvelope}
use Rattle.close_rules.specs.op_types.declared.transaction.TransactionEnvelope.TheVariants as envelope
use Rattle.close_rules.specs.fee_rules.Fees.{set_base_fee}
use Rattle.close_rules.specs.sponsor_rules.SeqNums.{new_extension_v3}
use Rattle.close_rules.specs.tx_apply.Checks as checks
use Rattle.close_rules.specs.tx_apply.Transaction as spec
use Rattle.close_rules.proofs.tx_apply_proofs.Judging as judging
use Rattle.close_rules.proofs.tx_apply_proofs.Judging.{settled_judged}
use Rattle.close_rules.proofs.tx_apply_proofs.Lawful.{underway_at_index, lawful_at, none_open}
use Rattle.close_rules.proofs.tx_apply_proofs.Sound.{envelope_sound}
use Rattle.close_rules.proofs.tx_apply_proofs.TakenFees.{all_taken}
use Rattle.close_laws.proofs.Encoded.{each_encoded}
use Rattle.close_laws.proofs.EncodedSets.{envelopes_encoded, operations_encoded, all_operations_encoded, v1_encoded}
use Rattle.close_laws.proofs.EncodedSets.{body_encoded, body_fit, operations_fit}
use Rattle.close_laws.proofs.FewDrawn.{set_fits}
use Rattle.close_laws.proofs.WrittenOffers.{CanTrade}
use Rattle.close_laws.proofs.Bytes.{IsId, muxed_id, AreBytes, IsOpener, IsContextBytes, IsThird, new_third}
use Rattle.tx_apply.proofs.SetsHold.{Begins, BeginsEnvelope, envelope_holds, fees_hold, judged_holds, without_used}
use Rattle.close_laws.proofs.Written.{no_account, of_bytes, writing}
use Rattle.close_laws.proofs.WrittenOperations.{any_written}
use Rattle.sponsor_rules.proofs.Charges.{removing_signer}
use Rattle.op_form.proofs.Walks.{Before, Left}

-- ---- sources

some_source : (source : MuxedAccount) → IsEncoded (optional muxed_account) (Some source)
    → IsEncoded muxed_account source
unfolding option
some_source source encoded = record { within = encoded.within; sized = encoded.sized }

source_by_id : (source : AccountId) (own : Option MuxedAccount) → IsId source → IsEncoded (optional muxed_account) own
    → IsId (source_by source own)
source_by_id source None id encoded = id
source_by_id source (Some own) id encoded = muxed_id own (some_source own encoded)

own_source : (of : Operation) → IsEncoded operation of → IsEncoded (optional muxed_account) of.source_account
unfolding operation
own_source of encoded = record { within = encoded.within.0; sized = encoded.sized.0 }

-- ---- operations

abbrev AreOperations : List Operation → Type 0
AreOperations operations = All (IsEncoded operation) operations

indexed_bytes : (ctx : Ctx) (index : ℕ) (source : AccountId) (m : EntryMap) → Before writing ctx m
    → Before writing (inserted ctx index source) m
indexed_bytes ctx index source m work =
    record { entries = work.entries; context = record { all = work.context.all; extension = work.context.extension } }

-- what holds before the operations of a transaction that are left: each may draw an id that can be written
pub record AreRunning (ctx : Ctx) (source : AccountId) (operations : List Operation) (m : EntryMap) : Type 0 where
  pub work : Before writing ctx m
  pub under : IsUnderway ctx m
  pub id : IsId source
  pub encoded : AreOperations operations
  pub ids : CanDraw (length operations) ctx.id_pool

one_of : (was n : ℕ) → CanDraw (suc n) was → CanDraw 1 was
one_of was n le = omega arith

rest_of : (was now n : ℕ) → CanDraw (suc n) was → now ≤ was + 1 → CanDraw n now
rest_of was now n le drawn = omega arith

module _ (ctx : Ctx) (source : AccountId) (index : ℕ) (of : Operation) (operations : List Operation) (m : EntryMap)
    (running : AreRunning ctx source (of ∷ operations) m) where
  abbrev own : Ctx
  own = inserted ctx index (source_of source of)

  here_encoded : IsEncoded operation of
  here_encoded = All-head (IsEncoded operation) of operations running.encoded

  here_id : IsId own.op_source
  here_id = source_by_id source of.source_account running.id (own_source of here_encoded)

  here_work : Before writing own m
  here_work = indexed_bytes ctx index (source_of source of) m running.work

  here_can : (account : AccountEntry) → account_at m (source_of source of) ≡ Some account → CanTrade own m
  here_can account at = record {
    under = underway_at_index ctx index (source_of source of) m running.under;
    exists = (account, at);
    next = one_of ctx.id_pool (length operations) running.ids;
  }

  by_account : (found : Option AccountEntry) → account_at m (source_of source of) ≡ found
      → Left writing (done_by own of m found)
  by_account None at = record { entries = here_work.entries; context = here_work.context; answer = no_account }
  by_account (Some account) at =
      any_written own m (here_can account at) here_id of.body (body_encoded of here_encoded) here_work

  pub here_done : Left writing (done_at ctx source index of m)
  here_done = by_account (account_at m (source_of source of)) refl

  pub rest_running : AllLawful → AreRunning (done_at ctx source index of m).ctx source operations
      (done_at ctx source index of m).entries
  rest_running all =
      let fit = body_fit of.body (body_encoded of here_encoded) in
      let lawful = lawful_at all ctx source index of m fit running.under in
      record {
        work = record { entries = here_done.entries; context = here_done.context };
        under = lawful.legal;
        id = running.id;
        encoded = All-tail (IsEncoded operation) of operations running.encoded;
        ids = rest_of ctx.id_pool (done_at ctx source index of m).ctx.id_pool (length operations) running.ids
            lawful.ids.high;
      }

run_bytes : AllLawful → (ctx : Ctx) (source : AccountId) (index : ℕ) (operations : List Operation) (m : EntryMap)
    → AreRunning ctx source operations m → AreBytes (run ctx source index operations m).entries
unfolding run
run_bytes all ctx source index [] m running = running.work.entries
run_bytes all ctx source index (of ∷ operations) m running =
    let first = done_at ctx source index of m in
    run_bytes all first.ctx source (index + 1) operations first.entries
    (rest_running ctx source index of operations m running all)

-- ---- transactions

tx_source : (tx : Transaction) → IsEncoded transaction tx → IsId (checks.source_account tx)
unfolding transaction
tx_source tx encoded = muxed_id tx.source_account (record { within = encoded.within.0; sized = encoded.sized.0 })

-- what holds before a transaction, whose operations may draw ids that can be written
pub record IsBegun (ctx : Ctx) (tx : Transaction) (m : EntryMap) : Type 0 where
  pub encoded : IsEncoded transaction tx
  pub closed : ctx.sponsorships ≡ []
  pub seq : ctx.seq < 2147483647
  pub extension : IsThird (new_extension_v3 ctx)
  pub settled : IsSettled ctx.id_pool m
  pub each : AreBytes m
  pub ids : CanDraw (length tx.operations) ctx.id_pool

closed_context : (ctx : Ctx) → ctx.sponsorships ≡ [] → IsThird (new_extension_v3 ctx) → IsContextBytes ctx
closed_context ctx closed extension =
    record { all = subst (All IsOpener) (sym closed) (All-nil IsOpener); extension = extension }

module _ (laws : TransactionLaws) where
  -- what its checks leave
  pub begun_running : (pays : Bool) (base_fee : ℕ) (ctx : Ctx) (hash : Hash) (signatures : List HeldSignature)
      (tx : Transaction) (m : EntryMap) → IsBegun ctx tx m
      → AreRunning ctx (checks.source_account tx) tx.operations
      (spec.map_without_used hash (checks.source_account tx) tx.operations
      (checks.judged pays base_fee ctx hash signatures tx m).entries)
  begun_running pays base_fee ctx hash signatures tx m begun =
      let checked = checks.judged pays base_fee ctx hash signatures tx m in
      let after = spec.map_without_used hash (checks.source_account tx) tx.operations checked.entries in
      let judged = settled_judged laws.seq_nums pays base_fee ctx.id_pool ctx hash signatures tx m begun.settled in
      let used = judging.without_used laws.preauths ctx.id_pool hash (checks.source_account tx) tx.operations
      checked.entries judged.settled in
      record {
        work = record {
          entries = without_used of_bytes hash (checks.source_account tx) tx.operations checked.entries
              (judged_holds of_bytes pays ctx hash signatures tx m (checks.early_fault pays base_fee ctx tx m)
              begun.extension begun.each);
          context = closed_context ctx begun.closed begun.extension;
        };
        under = record {
          settled = used.settled;
          sponsorships = none_open ctx after begun.closed;
          seq = begun.seq;
        };
        id = tx_source tx begun.encoded;
        encoded = each_encoded 100 operation tx.operations (operations_encoded tx begun.encoded);
        ids = begun.ids;
      }

-- ---- fee bumps

-- the transaction in a fee bump, after the signers that its payer used up
pub begun_after : TransactionLaws → (ctx : Ctx) (tx : Transaction) (payer : AccountId) (hash : Hash) (m : EntryMap)
    → IsBegun ctx tx m → IsBegun ctx tx (map_after_removing_preauth payer hash m)
begun_after laws ctx tx payer hash m begun = record {
  encoded = begun.encoded;
  closed = begun.closed;
  seq = begun.seq;
  extension = begun.extension;
  settled = (laws.preauths ctx.id_pool m payer hash begun.settled).settled;
  each = removing_signer of_bytes payer (PreAuthTx hash) m begun.each;
  ids = begun.ids;
}

begins : TransactionLaws → Begins of_bytes IsBegun
begins laws = record {
  entries = λ ctx tx m begun. begun.each;
  extension = λ ctx tx m begun. begun.extension;
  used = λ ctx tx payer hash m begun. begun_after laws ctx tx payer hash m begun;
  ran = λ pays base_fee ctx hash signatures tx m begun. run_bytes laws.operations ctx (checks.source_account tx) 0
      tx.operations _ (begun_running laws pays base_fee ctx hash signatures tx m begun);
}

-- ---- envelopes

-- what holds before an envelope is applied
pub record MayApply (setting : Setting) (id_pool : ℕ) (entire : TransactionEnvelope) (m : EntryMap) : Type 0 where
  pub encoded : IsEncoded transaction_envelope entire
  pub seq : setting.header.ledger_seq < 2147483647
  pub time : setting.close_time < 18446744073709551616
  pub settled : IsSettled id_pool m
  pub each : AreBytes m
  pub ids : CanDraw (length (operations_of entire)) id_pool

pub begun_v1 : (setting : Setting) (id_pool : ℕ) (signed : TransactionV1Envelope) (m : EntryMap)
    → MayApply setting id_pool (envelope.V1 signed) m
    → IsBegun (ctx_in setting id_pool (envelope.V1 signed)) signed.tx m
unfolding transaction_envelope
begun_v1 setting id_pool signed m may = record {
  encoded = v1_encoded signed (record { within = may.encoded.within; sized = may.encoded.sized });
  closed = refl;
  seq = may.seq;
  extension = new_third (ctx_in setting id_pool (envelope.V1 signed)) may.seq may.time;
  settled = may.settled;
  each = may.each;
  ids = may.ids;
}

pub begun_bump : (setting : Setting) (id_pool : ℕ) (signed : FeeBumpTransactionEnvelope) (m : EntryMap)
    → MayApply setting id_pool (envelope.FeeBump signed) m
    → IsBegun (ctx_in setting id_pool (envelope.FeeBump signed)) signed.tx.inner_tx.tx m
unfolding transaction_envelope fee_bump_envelope fee_bump_transaction
begun_bump setting id_pool signed m may = record {
  encoded = v1_encoded signed.tx.inner_tx
      (record { within = may.encoded.within.0.1.1.0.1; sized = may.encoded.sized.0.1.1.0.1 });
  closed = refl;
  seq = may.seq;
  extension = new_third (ctx_in setting id_pool (envelope.FeeBump signed)) may.seq may.time;
  settled = may.settled;
  each = may.each;
  ids = may.ids;
}

begins_envelope : (setting : Setting) (id_pool : ℕ) (entire : TransactionEnvelope) (m : EntryMap)
    (laws : TransactionLaws) → MayApply setting id_pool entire m
    → BeginsEnvelope of_bytes IsBegun (begins laws) setting id_pool entire m
begins_envelope setting id_pool (envelope.V0 signed) m laws may = may.each
begins_envelope setting id_pool (envelope.V1 signed) m laws may = begun_v1 setting id_pool signed m may
begins_envelope setting id_pool (envelope.FeeBump signed) m laws may = begun_bump setting id_pool signed m may

-- what holds before envelopes are applied: their operations may draw ids that can be written
pub record MayApplyAll (setting : Setting) (id_pool : ℕ) (envelopes : List TransactionEnvelope)
    (m : EntryMap) : Type 0 where
  pub encoded : All (IsEncoded transaction_envelope) envelopes
  pub seq : setting.header.ledger_seq < 2147483647
  pub time : setting.close_time < 18446744073709551616
  pub settled : IsSettled id_pool m
  pub each : AreBytes m
  pub ids : CanDraw (operation_total envelopes) id_pool

first_ids : (was first rest : ℕ) → CanDraw (first + rest) was → CanDraw first was
first_ids was first rest le = omega arith

other_ids : (was now first rest : ℕ) → CanDraw (first + rest) was → now ≤ was + first → CanDraw rest now
other_ids was now first rest le drawn = omega arith

module _ (setting : Setting) (id_pool : ℕ) (entire : TransactionEnvelope) (others : List TransactionEnvelope)
    (m : EntryMap) (may : MayApplyAll setting id_pool (entire ∷ others) m) where
  its_ids : CanDraw (length (operations_of entire) + operation_total others) id_pool
  unfolding operation_total
  its_ids = may.ids

  pub may_first : MayApply setting id_pool entire m
  may_first = record {
    encoded = All-head (IsEncoded transaction_envelope) entire others may.encoded;
    seq = may.seq;
    time = may.time;
    settled = may.settled;
    each = may.each;
    ids = first_ids id_pool (length (operations_of entire)) (operation_total others) its_ids;
  }

  pub may_others : TransactionLaws → MayApplyAll setting (envelope_applied setting id_pool entire m).id_pool others
      (envelope_applied setting id_pool entire m).entries
  may_others laws =
      let fit = operations_fit (operations_of entire)
      (each_encoded 100 operation (operations_of entire) (all_operations_encoded entire may_first.encoded)) in
      let sound = envelope_sound laws setting id_pool entire m may.settled may.seq fit in
      record {
        encoded = All-tail (IsEncoded transaction_envelope) entire others may.encoded;
        seq = may.seq;
        time = may.time;
        settled = sound.left.settled;
        each = envelope_holds of_bytes IsBegun (begins laws) setting id_pool entire m
            (begins_envelope setting id_pool entire m laws may_first);
        ids = other_ids id_pool (envelope_applied setting id_pool entire m).id_pool (length (operations_of entire))
            (operation_total others) its_ids sound.ids.high;
      }

all_bytes : TransactionLaws → (setting : Setting) (id_pool : ℕ) (envelopes : List TransactionEnvelope) (fees : List ℤ)
    (m : EntryMap) → MayApplyAll setting id_pool envelopes m
    → AreBytes (all_applied setting id_pool envelopes fees m).entries
unfolding all_applied
all_bytes laws setting id_pool [] fees m may = may.each
all_bytes laws setting id_pool (entire ∷ others) [] m may = may.each
all_bytes laws setting id_pool (entire ∷ others) (fee ∷ fees) m may =
    let first = envelope_applied setting id_pool entire m in
    all_bytes laws setting first.id_pool others fees first.entries
    (may_others setting id_pool entire others m may laws)

-- ---- sets

-- what holds before the transactions of a set, after their fees
pub set_begun : TransactionLaws → LegalSettles → (setting : Setting) (set : TransactionSet) (m : EntryMap)
    → CanClose setting set m → setting.close_time < 18446744073709551616 → IsEncoded transaction_set set
    → length set.txs ≤ 16777216 → AreBytes m
    → MayApplyAll setting setting.header.id_pool (envelopes_in_order set) (fees_taken_of setting set m).entries
set_begun laws settles setting set m can time encoded few each = record {
  encoded = all_at (IsEncoded transaction_envelope) set.txs (apply_order_of set) (envelopes_encoded set encoded);
  seq = can.seq;
  time = time;
  settled = (all_taken laws setting.header.id_pool (set_base_fee setting.header set.txs) (envelopes_in_order set) m
      (settles setting.header m can.legal)).settled;
  each = fees_hold of_bytes (set_base_fee setting.header set.txs) (envelopes_in_order set) m each;
  ids = set_fits setting.header.ledger_seq setting.header.id_pool set encoded few can.legal.header.id_pool can.seq;
}

pub set_bytes : TransactionLaws → LegalSettles → (setting : Setting) (set : TransactionSet) (m : EntryMap)
    → CanClose setting set m → setting.close_time < 18446744073709551616 → IsEncoded transaction_set set
    → length set.txs ≤ 16777216 → AreBytes m
    → AreBytes (set_done setting set m).entries
set_bytes laws settles setting set m can time encoded few each =
    all_bytes laws setting setting.header.id_pool (envelopes_in_order set) (fees_taken_of setting set m).fees
    (fees_taken_of setting set m).entries (set_begun laws settles setting set m can time encoded few each)
