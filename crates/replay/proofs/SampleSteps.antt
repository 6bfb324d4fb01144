-- What the steps of a sample's run keep.
use Rattle.replay.proofs.Prelude as prelude
use prelude.{◌≡◌, ℕ, suc, ◌+◌, ◌<◌, ◌^◌, List, ◌++◌, length, Result, Ok, Err, refl, sym, ap, subst, arith, inl, inr}
use prelude.{◌∙◌, cond, MatchResult, sum_by-append, Seen, Hash, TransactionResultPair, StartImage, CloseFault}
use prelude.{ImageFault, ClosingState, PreparedClose, IsClose, FaultIs, Status, is_success, success_count, sample_line}
use prelude.{refused_line, HaveClosed, progress_after, first_progress, first_state, sample_network, record_bytes}
use prelude.{FirstStatesClose, SamplesClose, Wrote, Refuses, IsJudgedSo, HasReached, Samples, add-one}
use Rattle.std.proofs.Common.{length-append}
use Rattle.xdr_header.specs.Header.{ledger_header}
use Rattle.stored_outcome.specs.close_rules.declared.close_fault.CloseFault.TheVariants as close
use Rattle.stored_outcome.specs.close_rules.declared.image_fault.ImageFault.TheVariants as image_fault
use Rattle.worker_merges.specs.close_laws.Images.{ImagesAreOne}
use Rattle.worker_merges.specs.ledger_close.States.{LedgerAt}
use Rattle.stored_outcome.specs.run_outcome.declared.status.Status.TheVariants as status
use Rattle.stored_outcome.specs.sample_ledger.Image.{first_image}

-- before the first record
pub nothing_closed : (seed : ℕ) (state : ClosingState) → state ≡ first_state seed → HasReached seed 0 state 0 0
unfolding HaveClosed
nothing_closed seed state is = record {
  now = first_progress seed;
  closed = refl;
  state_is = is;
  transactions_are = refl;
  successes_are = refl;
  few = omega arith;
  few_successes = omega arith;
}

successes_more : (pairs more : List TransactionResultPair)
    → success_count (pairs ++ more) ≡ success_count pairs + success_count more
successes_more pairs more =
    sum_by-append (λ (pair : TransactionResultPair). cond (is_success pair.result.outcome) 1 0) pairs more

-- one record more
pub one_more : (seed k : ℕ) (state next : ClosingState) (transactions successes more_transactions more_successes : ℕ)
    (closed : PreparedClose) → HasReached seed k state transactions successes
    → IsClose state (record_bytes seed (suc k) state) (Ok closed) → next ≡ closed.state
    → more_transactions ≡ transactions + length closed.results
    → more_successes ≡ successes + success_count closed.results
    → length closed.results < 2 ^ 64 → success_count closed.results < 2 ^ 64
    → HasReached seed (suc k) next more_transactions more_successes
unfolding HaveClosed
one_more seed k state next transactions successes more_transactions more_successes closed h closes next_is
    transactions_are successes_are fits success_fits = record {
      now = progress_after h.now closed;
      closed = (
        h.now,
        closed,
        h.closed,
        subst (λ (s : ClosingState). IsClose s (record_bytes seed (suc k) s) (Ok closed)) h.state_is closes,
        refl,
      );
      state_is = next_is;
      transactions_are =
          omega (arith, transactions_are, h.transactions_are, length-append h.now.results closed.results);
      successes_are = omega (arith, successes_are, h.successes_are, successes_more h.now.results closed.results);
      few = omega (arith, transactions_are, h.few, fits);
      few_successes = omega (arith, successes_are, h.few_successes, success_fits);
    }

-- ---- the first ledger

abbrev answer : Result ClosingState ImageFault → Result ClosingState ImageFault
answer r = r

judged_first : (seed : ℕ) → seed < 2 ^ 32 → FirstStatesClose → ImagesAreOne → (result : Result LedgerAt Status)
    → IsJudgedSo sample_network (first_image seed) result
    → MatchResult result (λ ledger. ledger.state ≡ first_state seed) (λ end. end ≡ status.NoMemory)
judged_first seed low first one (Ok ledger) judged =
    let both : answer (Ok ledger.state) ≡ Ok (first_state seed) =
    one sample_network (first_image seed) (Ok ledger.state) (Ok (first_state seed)) judged (first seed low).judged in
    cc both
judged_first seed low first one (Err (status.BadImage rule)) judged =
    let both : answer (Err (image_fault.BadImage rule)) ≡ Ok (first_state seed) =
    one sample_network (first_image seed) (Err (image_fault.BadImage rule)) (Ok (first_state seed)) judged
    (first seed low).judged in absurd (cc both)
judged_first seed low first one (Err status.NoMemory) judged = refl
judged_first seed low first one (Err status.Done) judged = judged
judged_first seed low first one (Err status.Usage) judged = judged
judged_first seed low first one (Err status.Refused) judged = judged
judged_first seed low first one (Err status.ReadFault) judged = judged
judged_first seed low first one (Err status.WriteFault) judged = judged
judged_first seed low first one (Err status.DiskFault) judged = judged
judged_first seed low first one (Err (status.BadStore file offset)) judged = judged
judged_first seed low first one (Err (status.BadInput at)) judged = judged
judged_first seed low first one (Err status.Missing) judged = judged
judged_first seed low first one (Err status.AlreadyThere) judged = judged
judged_first seed low first one (Err status.TooLarge) judged = judged

-- the ledger of a sample's image
pub first_of : (seed : ℕ) → seed < 2 ^ 32 → FirstStatesClose → ImagesAreOne → (network : Hash) (image : StartImage)
    (result : Result LedgerAt Status) → network ≡ sample_network → image ≡ first_image seed
    → IsJudgedSo network image result
    → MatchResult result (λ ledger. ledger.state ≡ first_state seed) (λ end. end ≡ status.NoMemory)
first_of seed low first one network image result network_is image_is judged =
    let own = subst (λ (n : Hash). IsJudgedSo n image result) network_is judged in
    judged_first seed low first one result (subst (λ (i : StartImage). IsJudgedSo sample_network i result) image_is own)

-- ---- the next record

pub header_within : (seed k : ℕ) (state : ClosingState) (transactions successes : ℕ) → SamplesClose → seed < 2 ^ 32
    → k < 20000 → HasReached seed k state transactions successes → ledger_header.within state.header
header_within seed k state transactions successes exist low few h =
    subst (λ (s : ClosingState). ledger_header.within s.header) (sym h.state_is)
    (exist seed k h.now low (omega (arith, few)) h.closed).header.within

-- ---- the number of the next record

pub bytes_next : (seed k : ℕ) (state : ClosingState) (bytes : List ℕ) → bytes ≡ record_bytes seed (k + 1) state
    → bytes ≡ record_bytes seed (suc k) state
bytes_next seed k state bytes are = are ∙ ap (λ (n : ℕ). record_bytes seed n state) (add-one k)

pub reached_next : (seed k : ℕ) (state : ClosingState) (transactions successes : ℕ)
    → HasReached seed (suc k) state transactions successes → HasReached seed (k + 1) state transactions successes
reached_next seed k state transactions successes h =
    subst (λ (n : ℕ). HasReached seed n state transactions successes) (sym (add-one k)) h

-- ---- the end

refused_as : (seed k ledgers : ℕ) (state : ClosingState) (transactions successes : ℕ) (wrong : CloseFault) (out : Seen)
    (end : Status) → k < ledgers → HasReached seed k state transactions successes
    → IsClose state (record_bytes seed (suc k) state) (Err wrong)
    → Wrote out (refused_line state.header wrong) status.Refused end → Samples seed ledgers out end
refused_as seed k ledgers state transactions successes wrong out end below h closes wrote =
    let refused = subst (λ (s : ClosingState). IsClose s (record_bytes seed (suc k) s) (Err wrong)) h.state_is closes in
    inl (
      record { status = status.Refused; text = refused_line h.now.state.header wrong },
      inr (k, below, (h.now, h.closed, wrong, refused, refl)),
      subst (λ (s : ClosingState). Wrote out (refused_line s.header wrong) status.Refused end) h.state_is wrote,
    )

-- the next record is refused, or memory is
pub refused_after : (seed k ledgers : ℕ) (state : ClosingState) (transactions successes : ℕ) (wrong : CloseFault)
    (out : Seen) (end : Status) → k < ledgers → HasReached seed k state transactions successes
    → FaultIs wrong (λ f. IsClose state (record_bytes seed (suc k) state) (Err f))
    → Refuses state.header out wrong end → Samples seed ledgers out end
refused_after seed k ledgers state t s close.NoMemory out end below h closes r = inr r
refused_after seed k ledgers state t s close.SeqEnd out end below h closes r =
    refused_as seed k ledgers state t s close.SeqEnd out end below h closes r
refused_after seed k ledgers state t s (close.BadXdr at kind) out end below h closes r =
    refused_as seed k ledgers state t s (close.BadXdr at kind) out end below h closes r
refused_after seed k ledgers state t s (close.WrongSeq want given) out end below h closes r =
    refused_as seed k ledgers state t s (close.WrongSeq want given) out end below h closes r
refused_after seed k ledgers state t s (close.WrongPrevious own given) out end below h closes r =
    refused_as seed k ledgers state t s (close.WrongPrevious own given) out end below h closes r
refused_after seed k ledgers state t s (close.WrongSetHash own given) out end below h closes r =
    refused_as seed k ledgers state t s (close.WrongSetHash own given) out end below h closes r
refused_after seed k ledgers state t s (close.StaleTime last given) out end below h closes r =
    refused_as seed k ledgers state t s (close.StaleTime last given) out end below h closes r
refused_after seed k ledgers state t s (close.BadUpgrade index) out end below h closes r =
    refused_as seed k ledgers state t s (close.BadUpgrade index) out end below h closes r
refused_after seed k ledgers state t s (close.UpgradeOutOfProfile index) out end below h closes r =
    refused_as seed k ledgers state t s (close.UpgradeOutOfProfile index) out end below h closes r
refused_after seed k ledgers state t s (close.FeeSourceMissing index) out end below h closes r =
    refused_as seed k ledgers state t s (close.FeeSourceMissing index) out end below h closes r
refused_after seed k ledgers state t s (close.LedgerFull total) out end below h closes r =
    refused_as seed k ledgers state t s (close.LedgerFull total) out end below h closes r

-- all records closed ledgers
pub all_closed : (seed ledgers : ℕ) (state : ClosingState) (transactions successes : ℕ) (out : Seen) (end : Status)
    → HasReached seed ledgers state transactions successes
    → Wrote out (sample_line seed ledgers state.header transactions successes) status.Done end
    → Samples seed ledgers out end
all_closed seed ledgers state transactions successes out end h wrote =
    let line : sample_line seed ledgers state.header transactions successes
    ≡ sample_line seed ledgers h.now.state.header (length h.now.results) (success_count h.now.results) =
    λ i. sample_line seed ledgers (h.state_is i).header (h.transactions_are i) (h.successes_are i) in
    inl (
      record {
        status = status.Done;
        text = sample_line seed ledgers h.now.state.header (length h.now.results) (success_count h.now.results);
      },
      inl (h.now, h.closed, refl),
      subst (λ (text : List ℕ). Wrote out text status.Done end) line wrote,
    )
