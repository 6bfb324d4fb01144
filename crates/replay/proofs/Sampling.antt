-- What a sample yields is one thing, and what is written of its run.
use Rattle.replay.proofs.Prelude.{◌≡◌, ℕ, zero, suc, ◌<◌, length, Result, Ok, Err, refl, sym, ap, subst, ◌∙◌, arith}
use Rattle.replay.proofs.Prelude.{inl, inr, ◌⊎◌, Seen, Failed, Received, CloseFault, PreparedClose, IsClose}
use Rattle.replay.proofs.Prelude.{closes_are_one, Status, sample_line, refused_line, success_count, IsCutShort, Outcome}
use Rattle.replay.proofs.Prelude.{Answered, Progress, HaveClosed, progress_after, record_bytes, SamplesGoOn}
use Rattle.replay.proofs.Prelude.{IsAcceptedOrFull, IsEntire, IsRefusedAfter, IsSampled, IsSamplePrefix, IsSampleEnd}
use Rattle.replay.proofs.Prelude.{DidSample, IsFullAt, SamplesAreCompleteOrFull, SamplesAreOne, SamplesAreComplete}
use Rattle.stored_outcome.specs.close_rules.declared.close_fault.CloseFault.TheVariants as fault
use Rattle.stored_outcome.specs.run_outcome.declared.status.Status.TheVariants as status
use Rattle.replay.proofs.Runs.{same_close}
use Rattle.replay.proofs.ShowCompleting.{neither_failed}

-- ---- one progress

next_is_one : (seed k : ℕ) (was other : Progress) (closed again : PreparedClose) → was ≡ other
    → IsClose was.state (record_bytes seed (suc k) was.state) (Ok closed)
    → IsClose other.state (record_bytes seed (suc k) other.state) (Ok again)
    → progress_after was closed ≡ progress_after other again
next_is_one seed k was other closed again same closes closes_again =
    let own = subst (λ (x : Progress). IsClose x.state (record_bytes seed (suc k) x.state) (Ok again)) (sym same)
    closes_again in
    let one : closed ≡ again = same_close was.state (record_bytes seed (suc k) was.state) closed again closes own in
    λ i. progress_after (same i) (one i)

progress_is_one : (seed k : ℕ) (a b : Progress) → HaveClosed seed k a → HaveClosed seed k b → a ≡ b
unfolding HaveClosed
progress_is_one seed zero a b is same = is ∙ sym same
progress_is_one seed (suc k) a b (was, closed, before, closes, is) (other, again, others, closes_again, same) =
    is
    ∙ next_is_one seed k was other closed again (progress_is_one seed k was other before others) closes closes_again
    ∙ sym same

-- ---- what closed before

below_or_same : (k n : ℕ) → k < suc n → (k < n) ⊎ (k ≡ n)
below_or_same zero zero below = inr refl
below_or_same zero (suc n) below = inl (omega arith)
below_or_same (suc k) zero below = absurd (omega (arith, below))
below_or_same (suc k) (suc n) below = elim (below_or_same k n (omega (arith, below))) [
  | inl less ↦ inl (omega (arith, less))
  | inr same ↦ inr (ap suc same)
]

-- the record after the first k ones closed its ledger
abbrev ClosedNext : (seed k : ℕ) → Type 0
ClosedNext seed k =
    (was : Progress) × (closed : PreparedClose) × HaveClosed seed k was
    × IsClose was.state (record_bytes seed (suc k) was.state) (Ok closed)

closed_before : (seed k n : ℕ) (now : Progress) → k < n → HaveClosed seed n now → ClosedNext seed k
unfolding HaveClosed
closed_before seed k zero now below have = absurd (omega (arith, below))
closed_before seed k (suc n) now below (was, closed, before, closes, is) = elim (below_or_same k n below) [
  | inl less ↦ closed_before seed k n was less before
  | inr same ↦ subst (ClosedNext seed) (sym same) (was, closed, before, closes)
]

abbrev answer : Result PreparedClose CloseFault → Result PreparedClose CloseFault
answer r = r

not_refused : (seed k : ℕ) (o : Outcome) → ClosedNext seed k → IsRefusedAfter seed k o → ⊥
not_refused seed k o (was, closed, before, closes) (now, have, wrong, refused, is) =
    let same = progress_is_one seed k now was have before in
    let own = subst (λ (x : Progress). IsClose x.state (record_bytes seed (suc k) x.state) (Err wrong)) same refused in
    let both : answer (Ok closed) ≡ Err wrong =
    closes_are_one was.state (record_bytes seed (suc k) was.state) (Ok closed) (Err wrong) closes own in
    absurd (cc both)

-- ---- one outcome

complete_is_one : (seed ledgers : ℕ) (a b : Outcome) → IsEntire seed ledgers a → IsEntire seed ledgers b → a ≡ b
complete_is_one seed ledgers a b (now, have, is) (other, others, same) =
    is
    ∙ ap (λ (p : Progress). record {
      status = status.Done;
      text = sample_line seed ledgers p.state.header (length p.results) (success_count p.results);
    }) (progress_is_one seed ledgers now other have others)
    ∙ sym same

refused_is_one : (seed k : ℕ) (a b : Outcome) → IsRefusedAfter seed k a → IsRefusedAfter seed k b → a ≡ b
refused_is_one seed k a b (now, have, wrong, refused, is) (other, others, second, again, same) =
    let back : other ≡ now = progress_is_one seed k other now others have in
    let one : now ≡ other = sym back in
    let own = subst (λ (x : Progress). IsClose x.state (record_bytes seed (suc k) x.state) (Err second)) back again in
    let both : answer (Err wrong) ≡ Err second =
    closes_are_one now.state (record_bytes seed (suc k) now.state) (Err wrong) (Err second) refused own in
    let faults : wrong ≡ second = cc both in
    is ∙ (λ i. record { status = status.Refused; text = refused_line (one i).state.header (faults i) }) ∙ sym same

above_or_below : (a b : ℕ) → (a < b) ⊎ (a ≡ b) ⊎ (b < a)
above_or_below zero zero = inr (inl refl)
above_or_below zero (suc b) = inl (omega arith)
above_or_below (suc a) zero = inr (inr (omega arith))
above_or_below (suc a) (suc b) = elim (above_or_below a b) [
  | inl less ↦ inl (omega (arith, less))
  | inr (inl same) ↦ inr (inl (ap suc same))
  | inr (inr more) ↦ inr (inr (omega (arith, more)))
]

progress_of : (seed k : ℕ) (o : Outcome) → IsRefusedAfter seed k o → (now : Progress) × HaveClosed seed k now
progress_of seed k o (now, have, wrong, refused, is) = (now, have)

both_refused : (seed k n : ℕ) (a b : Outcome) → IsRefusedAfter seed k a → IsRefusedAfter seed n b → a ≡ b
both_refused seed k n a b one other = elim (above_or_below k n) [
  | inl less ↦
      let later = progress_of seed n b other in
      absurd (not_refused seed k a (closed_before seed k n later.0 less later.1) one)
  | inr (inl same) ↦
      refused_is_one seed k a b one (subst (λ (m : ℕ). IsRefusedAfter seed m b) (sym same) other)
  | inr (inr more) ↦
      let later = progress_of seed k a one in
      absurd (not_refused seed n b (closed_before seed n k later.0 more later.1) other)
]

pub samples_are_one : SamplesAreOne
samples_are_one seed ledgers a b fits few (inl entire) (inl other) = complete_is_one seed ledgers a b entire other
samples_are_one seed ledgers a b fits few (inl (now, have, is)) (inr (k, below, refused)) =
    absurd (not_refused seed k b (closed_before seed k ledgers now below have) refused)
samples_are_one seed ledgers a b fits few (inr (k, below, refused)) (inl (now, have, is)) =
    absurd (not_refused seed k a (closed_before seed k ledgers now below have) refused)
samples_are_one seed ledgers a b fits few (inr (k, below, one)) (inr (n, under, other)) =
    both_refused seed k n a b one other

-- ---- what is refused

full_of : (seed k : ℕ) (o : Outcome) (now : Progress) (wrong : CloseFault) → HaveClosed seed k now
    → IsClose now.state (record_bytes seed (suc k) now.state) (Err wrong) → IsAcceptedOrFull (Err wrong)
    → o ≡ record { status = status.Refused; text = refused_line now.state.header wrong } → IsFullAt seed k o
full_of seed k o now (fault.LedgerFull bytes) have refused full is =
    record { now = now; closed = have; bytes = bytes; full = refused; is = is }
full_of seed k o now (fault.BadXdr at kind) have refused full is = absurd full
full_of seed k o now fault.SeqEnd have refused full is = absurd full
full_of seed k o now (fault.WrongSeq want given) have refused full is = absurd full
full_of seed k o now (fault.WrongPrevious own given) have refused full is = absurd full
full_of seed k o now (fault.WrongSetHash own given) have refused full is = absurd full
full_of seed k o now (fault.StaleTime last given) have refused full is = absurd full
full_of seed k o now (fault.BadUpgrade index) have refused full is = absurd full
full_of seed k o now (fault.UpgradeOutOfProfile index) have refused full is = absurd full
full_of seed k o now (fault.FeeSourceMissing index) have refused full is = absurd full
full_of seed k o now fault.NoMemory have refused full is = absurd full

pub complete_or_full : SamplesGoOn → SamplesAreCompleteOrFull
complete_or_full go_on seed ledgers o fits few (inl entire) = inl entire
complete_or_full go_on seed ledgers o fits few (inr (k, below, (now, have, wrong, refused, is))) =
    inr (
      k,
      below,
      full_of seed k o now wrong have refused
          (go_on seed k now (Err wrong) fits (omega (arith, below, few)) have refused) is,
    )

-- ---- where nothing failed

memory_alone : (end : Status) → IsSampleEnd end → IsCutShort end → (end ≡ status.WriteFault → ⊥)
    → end ≡ status.NoMemory
memory_alone status.NoMemory is short other = refl
memory_alone status.WriteFault is short other = absurd (other refl)
memory_alone status.Done is short other = absurd short
memory_alone status.Refused is short other = absurd short
memory_alone status.ReadFault is short other = absurd is
memory_alone status.DiskFault is short other = absurd is
memory_alone status.Usage is short other = absurd is
memory_alone (status.BadStore file offset) is short other = absurd is
memory_alone status.Missing is short other = absurd is
memory_alone status.AlreadyThere is short other = absurd is
memory_alone status.TooLarge is short other = absurd is
memory_alone (status.BadInput at) is short other = absurd is
memory_alone (status.BadImage rule) is short other = absurd is

-- all of its text was received, or memory was refused
abbrev IsComplete : (seed ledgers : ℕ) → Seen → Status → Type 0
IsComplete seed ledgers out end =
    ((o : Outcome) × IsSampled seed ledgers o × (end ≡ o.status) × Received out o.text) ⊎ (end ≡ status.NoMemory)

complete_as : (seed ledgers : ℕ) (out err : Seen) (end : Status) → DidSample seed ledgers out err end
    → (Failed out → ⊥) → (Failed err → ⊥) → Answered (IsSampled seed ledgers) (IsSamplePrefix seed ledgers) out end
    → IsComplete seed ledgers out end
complete_as seed ledgers out err end did no_out no_err (text, received, inl (o, is, end_is, text_is)) =
    inl (o, is, end_is, subst (Received out) text_is received)
complete_as seed ledgers out err end did no_out no_err (text, received, inr (short, prefix)) =
    inr (memory_alone end did.is_end short (λ e. neither_failed out err no_out no_err (did.write_fault e)))

pub samples_are_complete : SamplesAreComplete
samples_are_complete seed ledgers out err end did no_out no_err =
    complete_as seed ledgers out err end did no_out no_err did.answered
