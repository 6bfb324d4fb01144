-- The next record of a sample closes its ledger, or is refused since the files would be too long.
use Rattle.sample_laws.proofs.Prelude as prelude
use prelude.{◌≡◌, ℕ, zero, suc, ◌+◌, ◌*◌, ◌<◌, ◌≤◌, ◌^◌, List, [], Some, None, Result, Ok, Err, refl, sym, ap, subst}
use prelude.{◌∙◌, arith, append-nil, LedgerHeader, ClosingState, IsClosingState, IsEncoded, ended, record_in}
use prelude.{record_fault, ClosesKeepAccounts, MergesNone, account_id, record_of, Progress, HaveClosed, record_bytes}
use prelude.{FirstStatesClose, RecordsAreWritten, IsAcceptedOrFull, SamplesGoOn, SamplesClose, first_state}
use Rattle.sample_ledger.specs.xdr_header.Records.{close_record}
use Rattle.legal_rules.specs.xdr_core.declared.fault.XdrFault.{XdrFault}
use Rattle.legal_rules.specs.xdr_core.Position.{start_of, ◌>>=◌}
use Rattle.sample_ledger.specs.xdr_header.declared.record.CloseRecord.{CloseRecord}
use Rattle.sample_ledger.proofs.xdr_header_proofs.RecordLaws.{close_record_laws}
use Rattle.sample_ledger.specs.close_rules.declared.close_fault.CloseFault.{CloseFault}
use Rattle.sample_ledger.specs.close_rules.declared.close_fault.CloseFault.TheVariants as fault
use Rattle.sample_ledger.specs.bucket_levels.Hash.{list_hash}
use Rattle.account_laws.specs.header_chain.SkipList.{finished}
use Rattle.sample_ledger.specs.close_rules.Close.{PreparedClose, IsClose, IsTaken, IsRefused, upgraded_header}
use Rattle.account_laws.specs.close_laws.Closes.{NextIsClosing, TakenIsClosable}
use Rattle.sample_laws.proofs.FirstEntries.{first_accounts}
use Rattle.sample_laws.proofs.MergesNone.{merges_none}
use Rattle.sample_laws.proofs.Unrefused.{IsNext, unrefused}

-- ---- records are read again

record_again : (closing : CloseRecord) → IsEncoded close_record closing
    → record_in (close_record.encoding closing) ≡ Ok closing
unfolding record_in
record_again closing encoded =
    ap (λ (bytes : List ℕ). close_record.read (start_of bytes) >>= ended)
    (sym (append-nil (close_record.encoding closing)))
    ∙ ap (λ read. read >>= ended) (close_record_laws.lawful.again 0 closing [] encoded.within encoded.sized)

abbrev reading : Result CloseRecord XdrFault → Result CloseRecord XdrFault
reading r = r

one_record : (a b : CloseRecord) → reading (Ok a) ≡ Ok b → a ≡ b
one_record a b same = cc

ok_is_err : {P : Type 0} (a : CloseRecord) (b : XdrFault) → reading (Ok a) ≡ Err b → P
ok_is_err a b same = absurd cc

none_is_some : (wrong : CloseFault) → None ≡ Some wrong → ⊥
none_is_some wrong same = absurd cc

-- ---- where a sample is

record Holds (seed k : ℕ) (s : ClosingState) : Type 0 where
  closing : IsClosingState s
  next : IsNext seed k s

module _ (first_states : FirstStatesClose) (written : RecordsAreWritten) (closable : TakenIsClosable)
    (next_closing : NextIsClosing) (keep : ClosesKeepAccounts) (seed : ℕ) (fits : seed < 2 ^ 32) where
  at_first : Holds seed 0 (first_state seed)
  at_first = record {
    closing = (first_states seed fits).closing;
    next = record { seq = refl; time = refl; accounts = λ account below. first_accounts seed account below };
  }

  -- bytes that are taken are the record
  is_record : (k : ℕ) (s : ClosingState) → k < 20000 → (taken : IsTaken s (record_bytes seed (suc k) s))
      → taken.closing ≡ record_of seed (suc k) s.header
  is_record k s few taken =
      let read = record_again (record_of seed (suc k) s.header)
      (written seed (suc k) s.header fits (omega (arith, few))).encoded in
      one_record _ _ (sym taken.reads ∙ read)

  after : (k : ℕ) (s : ClosingState) (closed : PreparedClose) → k < 20000 → Holds seed k s
      → IsClose s (record_bytes seed (suc k) s) (Ok closed) → Holds seed (suc k) closed.state
  after k s closed few exists (total, with, low) =
      let is = is_record k s few with.taken in
      let can = closable s (record_bytes seed (suc k) s) with.taken exists.closing
      (written seed (suc k) s.header fits (omega (arith, few))).short in
      let low_files = subst (λ (n : ℕ). n ≤ 536870912) with.files low in
      let head : closed.state.header ≡ finished (upgraded_header s (record_of seed (suc k) s.header))
      (list_hash closed.state.levels) =
      with.closes.header
      ∙ ap (λ (closing : CloseRecord). finished (upgraded_header s closing) (list_hash closed.state.levels)) is in
      let number : closed.state.header.ledger_seq ≡ s.header.ledger_seq + 1 =
      ap (λ (h : LedgerHeader). h.ledger_seq) head in
      record {
        closing = next_closing s with.taken.closing closed can with.closes low_files;
        next = record {
          seq = omega (arith, number, exists.next.seq);
          time = ap (λ (h : LedgerHeader). h.scp_value.close_time) head;
          accounts = λ account below.
              keep s with.taken.closing closed.state.entries
              (subst (λ (x : CloseRecord). MergesNone x.tx_set) (sym is) (merges_none seed (suc k) s.header))
              with.closes.entries (account_id seed account) (exists.next.accounts account below);
        };
      }

  holds_after : (k : ℕ) (now : Progress) → k ≤ 20000 → HaveClosed seed k now → Holds seed k now.state
  unfolding HaveClosed
  holds_after zero now few is = subst (λ (p : Progress). Holds seed 0 p.state) (sym is) at_first
  holds_after (suc k) now few (was, closed, before, closes, is) =
      subst (λ (p : Progress). Holds seed (suc k) p.state) (sym is)
      (after k was.state closed (omega (arith, few)) (holds_after k was (omega (arith, few)) before) closes)

  -- ---- what comes next

  refused : (k : ℕ) (s : ClosingState) (wrong : CloseFault) → k < 20000 → Holds seed k s
      → IsRefused s (record_bytes seed (suc k) s) wrong → ⊥
  refused k s wrong few exists (closing, reads, faulted) =
      let read = record_again (record_of seed (suc k) s.header)
      (written seed (suc k) s.header fits (omega (arith, few))).encoded in
      let same : record_of seed (suc k) s.header ≡ closing = one_record _ _ (sym read ∙ reads) in
      none_is_some wrong (sym (unrefused seed k s few exists.next) ∙ ap (record_fault s) same ∙ faulted)

  judged_so : (k : ℕ) (s : ClosingState) (answer : Result PreparedClose CloseFault) → k < 20000 → Holds seed k s
      → IsClose s (record_bytes seed (suc k) s) answer → IsAcceptedOrFull answer
  judged_so k s (Ok closed) few exists closes = tt
  judged_so k s (Err (fault.LedgerFull bytes)) few exists closes = tt
  judged_so k s (Err fault.NoMemory) few exists closes = closes
  judged_so k s (Err (fault.BadXdr at kind)) few exists closes =
      let read = record_again (record_of seed (suc k) s.header)
      (written seed (suc k) s.header fits (omega (arith, few))).encoded in
      ok_is_err (record_of seed (suc k) s.header) (record { at = at; kind = kind }) (sym read ∙ closes)
  judged_so k s (Err fault.SeqEnd) few exists closes = refused k s _ few exists closes
  judged_so k s (Err (fault.WrongSeq want given)) few exists closes = refused k s _ few exists closes
  judged_so k s (Err (fault.WrongPrevious have given)) few exists closes = refused k s _ few exists closes
  judged_so k s (Err (fault.WrongSetHash have given)) few exists closes = refused k s _ few exists closes
  judged_so k s (Err (fault.StaleTime last given)) few exists closes = refused k s _ few exists closes
  judged_so k s (Err (fault.BadUpgrade index)) few exists closes = refused k s _ few exists closes
  judged_so k s (Err (fault.UpgradeOutOfProfile index)) few exists closes = refused k s _ few exists closes
  judged_so k s (Err (fault.FeeSourceMissing index)) few exists closes = refused k s _ few exists closes

  pub samples_go_on_from : (k : ℕ) (now : Progress) (answer : Result PreparedClose CloseFault) → k < 20000
      → HaveClosed seed k now → IsClose now.state (record_bytes seed (suc k) now.state) answer → IsAcceptedOrFull answer
  samples_go_on_from k now answer few closed closes =
      judged_so k now.state answer few (holds_after k now (omega (arith, few)) closed) closes

  pub samples_close_at : (k : ℕ) (now : Progress) → k ≤ 20000 → HaveClosed seed k now → IsClosingState now.state
  samples_close_at k now few closed = (holds_after k now few closed).closing

pub samples_close : FirstStatesClose → RecordsAreWritten → TakenIsClosable → NextIsClosing → ClosesKeepAccounts
    → SamplesClose
samples_close first_states written closable next_closing keep seed k now fits few closed =
    samples_close_at first_states written closable next_closing keep seed fits k now few closed

pub samples_go_on : FirstStatesClose → RecordsAreWritten → TakenIsClosable → NextIsClosing → ClosesKeepAccounts
    → SamplesGoOn
samples_go_on first_states written closable next_closing keep seed k now answer fits few closed closes =
    samples_go_on_from first_states written closable next_closing keep seed fits k now answer few closed closes
