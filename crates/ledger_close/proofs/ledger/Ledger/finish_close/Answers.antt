use Rattle.ledger_close.proofs.Prelude.{◌≡◌, ◌≤◌, None, length, ℕ, refl, sym, ap, ◌∙◌, subst, arith, IsExactBatch}
use Rattle.ledger_close.proofs.Prelude.{Worked, AreStepsTo, AreStepsWith, Leaves, LedgerAt, Hash, LedgerHeader}
use Rattle.ledger_close.proofs.Prelude.{CloseRecord, EntryMap, IsKeyed, list_hash, finished, close_record, ClosingState}
use Rattle.ledger_close.proofs.Prelude.{IsClosingState, IsEncoded, record_fault, IsClosed, upgraded_header, IsClosable}
use Rattle.ledger_close.proofs.Prelude.{AreClosed, NextIsLegal, next_counts, IsLeveled, LevelsAfter, entries_after}
use Rattle.ledger_close.proofs.Prelude.{List, Pair, pair_of}
use Rattle.std.proofs.lemmas.List.{length-map}
use Rattle.page_cache.specs.Caches.{AreNewCaches}
use Rattle.ledger_close.proofs.Counting.{steps_with}
use Rattle.close_laws.proofs.Unrefused.{seq_below}
use Rattle.ledger_close.proofs.Works.{keyed_by}
use Rattle.ledger_close.proofs.Finishing.{closes, closed_with, results_encoded, header_encoded}
use Rattle.ledger_close.proofs.ledger.Ledger.finish_close.Goals as goal

-- the entries after a close are under their own keys
keyed_after : NextIsLegal → (s : ClosingState) (closing : CloseRecord) (after : EntryMap) → IsClosable s closing
    → AreClosed s closing after → IsKeyed after
keyed_after law s closing after can closed =
    keyed_by after (law s closing after s.header.bucket_list_hash can closed).keyed

-- the record closes the ledger whose state this is
closable_by : (own now : LedgerAt) (closing : CloseRecord) → own ≡ now → IsClosingState own.state
    → IsEncoded close_record closing → record_fault now.state closing ≡ None → length closing.tx_set.txs ≤ 16777216
    → IsClosable now.state closing
closable_by own now closing is state encoded unrefused few = record {
  state = subst (λ (l : LedgerAt). IsClosingState l.state) is state;
  encoded = encoded;
  unrefused = unrefused;
  few = few;
}

-- the levels make the step of a close
leveled_by : NextIsLegal → (l : LedgerAt) (closing : CloseRecord) (worked : Worked) (version : ℕ) (step : LevelsAfter)
    → IsClosable l.state closing → Leaves l.state closing worked
    → ((after : EntryMap) → IsExactBatch l.state.entries after worked.batch → IsKeyed after
    → IsLeveled l.state version after step)
    → IsLeveled l.state version (entries_after l.state worked) step
leveled_by law l closing worked version step can left levels =
    let after = entries_after l.state worked in
    levels after left.batch (keyed_after law l.state closing after can left.entries)

-- the steps of a close are those of its levels
counted : NextIsLegal → (l : LedgerAt) (closing : CloseRecord) (worked : Worked) (old new : ℕ)
    → IsClosable l.state closing → Leaves l.state closing worked
    → ((after : EntryMap) → IsExactBatch l.state.entries after worked.batch → IsKeyed after
    → AreStepsTo l after old new)
    → AreStepsWith l closing old new
counted law l closing worked old new can left few =
    let after = entries_after l.state worked in
    steps_with l closing after old new can.unrefused left.entries
    (few after left.batch (keyed_after law l.state closing after can left.entries))

pub level-requires-clause-seq : goal.level-requires-clause-seq
level-requires-clause-seq g c =
    let state = subst (λ (l : LedgerAt). IsClosingState l.state) c.self.view_is c.self.invariant.state in
    seq_below c.args.self.now.state c.args.closing c.requires.unrefused state.legal.header.seq_high

pub level-requires-clause-encodable : goal.level-requires-clause-encodable
level-requires-clause-encodable g c =
    let after = entries_after c.args.self.now.state c.args.worked in
    let can = closable_by _ c.args.self.now c.args.closing c.self.view_is c.self.invariant.state
    c.requires.encoded c.requires.unrefused c.requires.few in (
      after,
      c.requires.worked.batch,
      c.entries_stay_encodable.ensures c.args.self.now.state c.args.closing after can c.requires.worked.entries,
    )

pub file_total-bytes-requires : goal.file_total-bytes-requires
file_total-bytes-requires g c =
    let can = closable_by _ c.args.self.now c.args.closing c.self.view_is c.self.invariant.state
    c.requires.encoded c.requires.unrefused c.requires.few in
    let leveled = leveled_by c.next_is_legal.ensures c.args.self.now c.args.closing c.args.worked _ c.in_ok-step.step
    can c.requires.worked c.in_ok-step.ensures.levels in
    omega (arith, leveled.levels.count)

pub returns-then-bytes-gt-MAX_FILE_TOTAL-clause-finished : goal.returns-then-bytes-gt-MAX_FILE_TOTAL-clause-finished
returns-then-bytes-gt-MAX_FILE_TOTAL-clause-finished g c =
    let s = c.args.self.now.state in
    let worked = c.args.worked in
    let step = c.in_ok-step.step in
    let can = closable_by _ c.args.self.now c.args.closing c.self.view_is c.self.invariant.state
    c.requires.encoded c.requires.unrefused c.requires.few in
    let leveled = subst (λ (h : LedgerHeader). IsLeveled s h.ledger_version (entries_after s worked) step)
    c.requires.next (leveled_by c.next_is_legal.ensures c.args.self.now c.args.closing worked _ step can
    c.requires.worked c.in_ok-step.ensures.levels) in (
      closed_with worked.done.results.results s.network
          (finished (upgraded_header s c.args.closing) (list_hash step.pairs)) (entries_after s worked) step.pairs,
      closes s c.args.closing worked step c.requires.worked leveled,
      c.file_total-bytes.ensures,
      omega (arith, c.if-bytes-gt-MAX_FILE_TOTAL.true),
    )

pub entries_after-requires-clause-step : goal.entries_after-requires-clause-step
entries_after-requires-clause-step g c =
    let can = closable_by _ c.args.self.now c.args.closing c.self.view_is c.self.invariant.state
    c.requires.encoded c.requires.unrefused c.requires.few in (
      c.args.next.ledger_version,
      leveled_by c.next_is_legal.ensures c.args.self.now c.args.closing c.args.worked
          c.args.next.ledger_version c.in_ok-step.step can c.requires.worked c.in_ok-step.ensures.levels,
    )

pub head-requires-clause-seq : goal.head-requires-clause-seq
head-requires-clause-seq g c =
    let state = subst (λ (l : LedgerAt). IsClosingState l.state) c.self.view_is c.self.invariant.state in
    seq_below c.args.self.now.state c.args.closing c.requires.unrefused state.legal.header.seq_high

pub head-requires-clause-results : goal.head-requires-clause-results
head-requires-clause-results g c =
    results_encoded c.results_are_encoded.ensures c.args.self.now.state c.args.closing c.args.worked.done.results
    (closable_by _ c.args.self.now c.args.closing c.self.view_is c.self.invariant.state
    c.requires.encoded c.requires.unrefused c.requires.few)
    c.requires.worked.done.results

pub ledger_hash-requires : goal.ledger_hash-requires
ledger_hash-requires g c =
    header_encoded c.next_header_is_encoded.ensures c.args.self.now.state c.args.closing c.in_ok-step.step
    c.in_ok-header.header
    (closable_by _ c.args.self.now c.args.closing c.self.view_is c.self.invariant.state
    c.requires.encoded c.requires.unrefused c.requires.few)
    (c.in_ok-header.ensures c.args.closing refl c.requires.next c.requires.worked.done)

pub new_caches-requires : goal.new_caches-requires
new_caches-requires g c =
    let can = closable_by _ c.args.self.now c.args.closing c.self.view_is c.self.invariant.state
    c.requires.encoded c.requires.unrefused c.requires.few in
    let leveled = leveled_by c.next_is_legal.ensures c.args.self.now c.args.closing c.args.worked _ c.in_ok-step.step
    can c.requires.worked c.in_ok-step.ensures.levels in
    sym (length-map c.pairs.result.now pair_of) ∙ ap length c.pairs.ensures ∙ leveled.levels.count

pub invariant_of-prepared : goal.invariant_of-prepared
invariant_of-prepared g c =
    let s = c.args.self.now.state in
    let closing = c.args.closing in
    let can = closable_by _ c.args.self.now c.args.closing c.self.view_is c.self.invariant.state
    c.requires.encoded c.requires.unrefused c.requires.few in
    let leveled = leveled_by c.next_is_legal.ensures c.args.self.now closing c.args.worked _ c.in_ok-step.step can
    c.requires.worked c.in_ok-step.ensures.levels in
    let header_is = c.in_ok-header.ensures closing refl c.requires.next c.requires.worked.done in
    let counts = next_counts s closing (list_hash c.in_ok-step.step.pairs) in
    record {
      hashed = c.in_ok-digest.ensures;
      number = leveled.seq ∙ sym (ap (λ (h : LedgerHeader). h.ledger_seq) header_is ∙ counts.ledger_seq);
      files = subst (λ (pairs : List Pair). AreNewCaches c.in_ok-header.header.ledger_seq pairs
          c.in_ok-caches.caches.items)
          c.pairs.ensures c.in_ok-caches.ensures;
    }

pub returns-clause-finished : goal.returns-clause-finished
returns-clause-finished g c =
    let s = c.args.self.now.state in
    let closing = c.args.closing in
    let worked = c.args.worked in
    let step = c.in_ok-step.step in
    let can = closable_by _ c.args.self.now c.args.closing c.self.view_is c.self.invariant.state
    c.requires.encoded c.requires.unrefused c.requires.few in
    let leveled = subst (λ (h : LedgerHeader). IsLeveled s h.ledger_version (entries_after s worked) step)
    c.requires.next (leveled_by c.next_is_legal.ensures c.args.self.now closing worked _ step can c.requires.worked
    c.in_ok-step.ensures.levels) in
    let header_is = c.in_ok-header.ensures closing refl c.requires.next c.requires.worked.done in
    let made = closes s closing worked step c.requires.worked leveled in
    let headed = subst (λ (h : LedgerHeader).
    IsClosed s closing (closed_with worked.done.results.results s.network h (entries_after s worked) step.pairs))
    (sym header_is) made in
    let stored = subst (λ (m : EntryMap).
    IsClosed s closing (closed_with worked.done.results.results s.network c.in_ok-header.header m step.pairs))
    (sym c.in_ok-entries.ensures) headed in (
      subst (λ (n : Hash).
          IsClosed s closing (closed_with worked.done.results.results n c.in_ok-header.header c.in_ok-entries.entries
          step.pairs))
          (sym (ap (λ (x : LedgerAt). x.state.network) c.self.view_is)) stored,
      omega (arith, c.file_total-bytes.ensures, c.if-bytes-gt-MAX_FILE_TOTAL.false),
    )

pub returns-clause-detail : goal.returns-clause-detail
returns-clause-detail g c = record {
  set = refl;
  batch = subst (λ (m : EntryMap). IsExactBatch c.args.self.now.state.entries m c.args.worked.batch)
      (sym c.in_ok-entries.ensures) c.requires.worked.batch;
}

pub returns-in_err-entries-clause-steps : goal.returns-in_err-entries-clause-steps
returns-in_err-entries-clause-steps g c =
    counted c.next_is_legal.ensures c.args.self.now c.args.closing c.args.worked _ _
    (closable_by _ c.args.self.now c.args.closing c.self.view_is c.self.invariant.state c.requires.encoded
    c.requires.unrefused c.requires.few) c.requires.worked c.level.ensures.steps

pub returns-in_err-step-clause-steps : goal.returns-in_err-step-clause-steps
returns-in_err-step-clause-steps g c =
    counted c.next_is_legal.ensures c.args.self.now c.args.closing c.args.worked _ _
    (closable_by _ c.args.self.now c.args.closing c.self.view_is c.self.invariant.state c.requires.encoded
    c.requires.unrefused c.requires.few) c.requires.worked c.level.ensures.steps

pub returns-then-bytes-gt-MAX_FILE_TOTAL-clause-steps : goal.returns-then-bytes-gt-MAX_FILE_TOTAL-clause-steps
returns-then-bytes-gt-MAX_FILE_TOTAL-clause-steps g c =
    counted c.next_is_legal.ensures c.args.self.now c.args.closing c.args.worked _ _
    (closable_by _ c.args.self.now c.args.closing c.self.view_is c.self.invariant.state c.requires.encoded
    c.requires.unrefused c.requires.few) c.requires.worked c.level.ensures.steps

pub returns-in_err-header-clause-steps : goal.returns-in_err-header-clause-steps
returns-in_err-header-clause-steps g c =
    counted c.next_is_legal.ensures c.args.self.now c.args.closing c.args.worked _ _
    (closable_by _ c.args.self.now c.args.closing c.self.view_is c.self.invariant.state c.requires.encoded
    c.requires.unrefused c.requires.few) c.requires.worked c.level.ensures.steps

pub returns-in_err-digest-clause-steps : goal.returns-in_err-digest-clause-steps
returns-in_err-digest-clause-steps g c =
    counted c.next_is_legal.ensures c.args.self.now c.args.closing c.args.worked _ _
    (closable_by _ c.args.self.now c.args.closing c.self.view_is c.self.invariant.state c.requires.encoded
    c.requires.unrefused c.requires.few) c.requires.worked c.level.ensures.steps

pub returns-in_err-caches-clause-steps : goal.returns-in_err-caches-clause-steps
returns-in_err-caches-clause-steps g c =
    counted c.next_is_legal.ensures c.args.self.now c.args.closing c.args.worked _ _
    (closable_by _ c.args.self.now c.args.closing c.self.view_is c.self.invariant.state c.requires.encoded
    c.requires.unrefused c.requires.few) c.requires.worked c.level.ensures.steps

pub returns-clause-steps : goal.returns-clause-steps
returns-clause-steps g c =
    counted c.next_is_legal.ensures c.args.self.now c.args.closing c.args.worked _ _
    (closable_by _ c.args.self.now c.args.closing c.self.view_is c.self.invariant.state c.requires.encoded
    c.requires.unrefused c.requires.few) c.requires.worked c.level.ensures.steps
