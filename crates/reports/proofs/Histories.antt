-- One close more in the files of `history`, and how they are written.
use Rattle.reports.proofs.Prelude.{◌≡◌, ℕ, ◌≤◌, List, [], ◌∷◌, ◌++◌, Result, Ok, Err, refl, sym, ap, subst, ◌∙◌, arith}
use Rattle.reports.proofs.Prelude.{inl, length, max_record_len}
use Rattle.reports.proofs.Prelude.{inr, ClosingState, RecordClose, IsCloseOf, Status, LedgerHeader, IsDetailed, Seen}
use Rattle.reports.proofs.Prelude.{IsGatheredOrNot, WroteGathered, Wrote, PreparedClose}
use Rattle.op_types.specs.declared.transaction.TransactionSet.{TransactionSet}
use Rattle.op_types.specs.declared.transaction_result.TransactionResultSet.{TransactionResultSet}
use Rattle.xdr_core.specs.Combinators.{constant}
use Rattle.xdr_core.specs.Leaves.{u32}
use Rattle.run_outcome.specs.close_rules.xdr_tx.Transactions.{transaction_set}
use Rattle.run_outcome.specs.close_rules.xdr_results.Results.{transaction_result_set}
use Rattle.run_outcome.specs.close_rules.xdr_header.Header.{ledger_header}
use Rattle.run_outcome.specs.close_rules.xdr_header.Records.{close_record}
use Rattle.run_outcome.specs.close_rules.xdr_header.declared.record.CloseRecord.{CloseRecord}
use Rattle.run_outcome.specs.close_rules.xdr_core.declared.fault.XdrFault.{XdrFault}
use Rattle.run_outcome.specs.close_rules.State.{IsClosingState}
use Rattle.run_outcome.specs.close_rules.Close.{ClosesWith, IsTaken, result_set}
use Rattle.run_outcome.specs.value_hashes.Hashes.{ledger_hash_of}
use Rattle.ledger_close.specs.close_laws.Closes.{NextIsClosing, TakenIsClosable}
use Rattle.ledger_close.specs.close_laws.Legal.{IsClosable}
use Rattle.ledger_close.specs.close_laws.Results.{ResultsAreEncoded}
use Rattle.ledger_close.specs.declared.prepared.DetailedClose.{DetailedClose}
use Rattle.ledger_close.proofs.close_laws_proofs.Digests.{hash_len}
use Rattle.archive_files.specs.declared.adding.AddCloseFault.{AddCloseFault}
use Rattle.archive_files.specs.declared.closed.Closed.{Closed}
use Rattle.archive_files.specs.declared.form.StatedHistory.{StatedHistory}
use Rattle.archive_files.specs.declared.history.History.{History}
use Rattle.archive_files.specs.Added.{IsSmall, IsTooLarge, IsWithinBounds, added, no_closes}
use Rattle.archive_files.specs.Entries.{ledger_header_history_entry, transaction_history_entry}
use Rattle.archive_files.specs.Entries.{transaction_history_result_entry}
use Rattle.archive_files.specs.Form.{stated_history}
use Rattle.archive_files.specs.Stating.{PiecesAreStated, stated_pieces}
use Rattle.run_outcome.specs.HistoryRun.{closed_of, files_of, history_after, history_file}
use Rattle.run_outcome.specs.declared.status.Status.TheVariants as status
use Rattle.reports.specs.Adding.{IsAdded}
use Rattle.reports.specs.Files.{IsWritten}
use Rattle.reports.proofs.OneMore.{files_more, small_more}

-- ---- what a close has keeps the bounds of its formats

set_within : (closing : CloseRecord) → close_record.within closing → transaction_set.within closing.tx_set
unfolding close_record
set_within closing h = h.1.1.0

header_entry_within : (h : LedgerHeader) → ledger_header.within h
    → ledger_header_history_entry.within (record { hash = ledger_hash_of h; header = h })
unfolding ledger_header_history_entry constant
header_entry_within h within = (hash_len (ledger_header.encoding h), (within, tt))

set_entry_within : (seq : ℕ) (set : TransactionSet) → transaction_set.within set
    → transaction_history_entry.within (record { ledger_seq = seq; tx_set = set })
unfolding transaction_history_entry constant u32
set_entry_within seq set within = (tt, (within, tt))

results_entry_within : (seq : ℕ) (results : TransactionResultSet) → transaction_result_set.within results
    → transaction_history_result_entry.within (record { ledger_seq = seq; tx_result_set = results })
unfolding transaction_history_result_entry constant u32
results_entry_within seq results within = (tt, (within, tt))

abbrev record_read : Result CloseRecord XdrFault → Result CloseRecord XdrFault
record_read r = r

same_record : (a b : CloseRecord) → record_read (Ok a) ≡ Ok b → a ≡ b
same_record a b e = cc

-- the state after a close is one from which the next ledger closes
pub closes_on : TakenIsClosable → NextIsClosing → (s : ClosingState) (bytes : List ℕ) (c : RecordClose)
    → IsClosingState s → length bytes ≤ max_record_len → IsCloseOf s bytes c → IsClosingState c.closed.state
closes_on closable closing s bytes c state short is =
    let with = is.closes.1 in
    closing s with.taken.closing c.closed (closable s bytes with.taken state short) with.closes
    (omega (arith, with.files, is.closes.2))

pub next_closing : TakenIsClosable → NextIsClosing → (s : ClosingState) (close : DetailedClose) (c : RecordClose)
    → IsClosingState s → IsDetailed s close c → IsClosingState c.closed.state
next_closing closable closing s close c state d = closes_on closable closing s d.bytes c state d.short d.is

pub bounds_of : TakenIsClosable → NextIsClosing → ResultsAreEncoded → (s : ClosingState) (bytes : List ℕ)
    (c : RecordClose) → IsClosingState s → length bytes ≤ max_record_len → IsCloseOf s bytes c
    → IsWithinBounds (closed_of c)
bounds_of closable closing results s bytes c state short is =
    let with = is.closes.1 in
    let can = closable s bytes with.taken state short in
    let next = closes_on closable closing s bytes c state short is in
    let seq : ℕ = c.closed.state.header.ledger_seq in
    let same : with.taken.closing ≡ c.closing =
    same_record with.taken.closing c.closing (sym with.taken.reads ∙ is.reads) in
    record {
      header = header_entry_within c.closed.state.header next.header.within;
      set = set_entry_within seq c.closing.tx_set
          (set_within c.closing (subst (λ (r : CloseRecord). close_record.within r) same can.encoded.within));
      results = results_entry_within seq (result_set c.closed.results)
          (subst (λ rs. transaction_result_set.within (result_set rs)) (sym with.closes.results)
          (results s with.taken.closing can));
    }

pub within_bounds : TakenIsClosable → NextIsClosing → ResultsAreEncoded → (s : ClosingState) (close : DetailedClose)
    (c : RecordClose) → IsClosingState s → IsDetailed s close c → IsWithinBounds (closed_of c)
within_bounds closable closing results s close c state d =
    bounds_of closable closing results s d.bytes c state d.short d.is

-- what is added of a close is its header, its set and its results
pub same_closed : (s : ClosingState) (close : DetailedClose) (c : RecordClose) (header : LedgerHeader)
    (set : TransactionSet) (results : TransactionResultSet) → IsDetailed s close c
    → header ≡ close.prepared.state.header → set ≡ close.set → results.results ≡ close.prepared.results
    → closed_of c ≡ record { header = header; set = set; results = results }
same_closed s close c header set results d of_header of_set of_results =
    let headers : c.closed.state.header ≡ header =
    ap (λ (x : PreparedClose). x.state.header) d.closed ∙ sym of_header in
    let sets : c.closing.tx_set ≡ set = sym d.detail.set ∙ sym of_set in
    let all : result_set c.closed.results ≡ results =
    ap (λ (x : PreparedClose). result_set x.results) d.closed ∙ sym (ap result_set of_results) in
    λ i. record { header = headers i; set = sets i; results = all i }

-- ---- one close more

pub history_gathered : (old new : StatedHistory) (c : RecordClose) (r : Result (Unit {0}) Status)
    → new.before ≡ old.before → new.first ≡ old.first → IsAdded old.history (closed_of c) r new.history
    → IsGatheredOrNot history_file (λ start closes. old ≡ history_after start closes)
    (λ start closes. new ≡ history_after start closes) c r
history_gathered old new c (Ok x) before first h = λ start closes e.
    let files : old.history ≡ files_of closes = ap (λ (x : StatedHistory). x.history) e in
    let befores : new.before ≡ ledger_hash_of start.header = before ∙ ap (λ (x : StatedHistory). x.before) e in
    let firsts : new.first ≡ (history_after start closes).first = first ∙ ap (λ (x : StatedHistory). x.first) e in
    let all : new.history ≡ files_of (closes ++ c ∷ []) =
    h.1 ∙ ap (λ (f : History). added f (closed_of c)) files ∙ sym (files_more no_closes closes c) in (
      λ i. record { before = befores i; first = firsts i; history = all i },
      λ small. small_more no_closes closes c small (subst (λ (f : History). IsSmall (added f (closed_of c))) files h.0),
    )
history_gathered old new c (Err status.TooLarge) before first h = λ start closes e.
    subst (λ (f : History). IsTooLarge (added f (closed_of c))) (ap (λ (x : StatedHistory). x.history) e) h
history_gathered old new c (Err status.NoMemory) before first h = tt
history_gathered old new c (Err status.Done) before first h = absurd h
history_gathered old new c (Err status.Usage) before first h = absurd h
history_gathered old new c (Err status.Refused) before first h = absurd h
history_gathered old new c (Err status.ReadFault) before first h = absurd h
history_gathered old new c (Err status.WriteFault) before first h = absurd h
history_gathered old new c (Err status.DiskFault) before first h = absurd h
history_gathered old new c (Err (status.BadStore file place)) before first h = absurd h
history_gathered old new c (Err (status.BadInput at)) before first h = absurd h
history_gathered old new c (Err (status.BadImage rule)) before first h = absurd h
history_gathered old new c (Err status.Missing) before first h = absurd h
history_gathered old new c (Err status.AlreadyThere) before first h = absurd h

-- ---- writing

-- the end of the pieces
abbrev pub end_of : {E : Type 0} → Result (Unit {0}) E → Status
end_of (Ok x) = status.Done
end_of (Err failed) = status.WriteFault

wrote_text : {E : Type 0} (text : List ℕ) (out : Seen) (r : Result (Unit {0}) E) → IsWritten text out r
    → Wrote out text status.Done (end_of r)
wrote_text text out (Ok x) h = inl (refl, h.0)
wrote_text text out (Err failed) h = inr (inl (refl, h.0, h.1))

pub wrote_history : {E : Type 0} (h : StatedHistory) (out : Seen) (r : Result (Unit {0}) E) → PiecesAreStated
    → IsWritten (stated_pieces h) out r
    → WroteGathered history_file (λ start closes. h ≡ history_after start closes) out (end_of r)
wrote_history h out r stated written start closes e = (
  stated_history.encoding (history_after start closes),
  refl,
  subst (λ (t : List ℕ). Wrote out t status.Done (end_of r))
      (sym (stated h) ∙ ap (λ (x : StatedHistory). stated_history.encoding x) e)
      (wrote_text (stated_pieces h) out r written),
)
