-- Bytes do something to a state.
use Rattle.existence_laws.proofs.Prelude.{◌≡◌, ℕ, ◌+◌, ◌≤◌, List, length, Option, Some, None, Result, Ok, Err, inl, inr}
use Rattle.existence_laws.proofs.Prelude.{refl, cases_lt, XdrFault, IsBytes, CloseRecord, list_hash, file_total}
use Rattle.existence_laws.proofs.Prelude.{CloseFault, ClosingState, IsClosingState, max_file_total, record_in}
use Rattle.existence_laws.proofs.Prelude.{record_fault, PreparedClose, applied_in, upgraded_header, IsClosed, IsTaken}
use Rattle.existence_laws.proofs.Prelude.{ClosesWith, IsClose, TakenIsClosable, max_record_len, EachClose}
use Rattle.close_laws.specs.header_chain.SkipList.{finished}
use Rattle.close_laws.specs.Legal.{IsClosable, NextIsLegal}
use Rattle.close_laws.specs.close_rules.declared.close_fault.CloseFault.TheVariants as fault
use Rattle.existence_laws.proofs.Steps.{some_step}
use Rattle.existence_laws.proofs.Changes.{some_next, some_fresh}
use Rattle.existence_laws.proofs.Refusing.{refusal}

-- ---- a close

some_closed : NextIsLegal → (s : ClosingState) (closing : CloseRecord) → IsClosable s closing
    → (closed : PreparedClose) × IsClosed s closing closed
some_closed next_legal s closing can =
    let seq = s.header.ledger_seq + 1 in
    let worked = (applied_in s closing).entries in
    let upgraded = upgraded_header s closing in
    let next = some_next seq s.entries worked in
    let legal = next_legal s closing next.0 s.header.bucket_list_hash can next.1 in
    let fresh = some_fresh seq upgraded.ledger_version s.entries worked next.0 next.1 legal.keyed in
    let step = some_step seq fresh.0 s.levels in (
      record {
        results = (applied_in s closing).results;
        state = record {
          network = s.network;
          header = finished upgraded (list_hash step.0);
          entries = next.0;
          levels = step.0;
        };
      },
      record {
        results = refl;
        network = refl;
        entries = next.1;
        fresh = fresh.0;
        recorded = record { meta = fresh.1; changes = fresh.2 };
        levels = step.1;
        header = refl;
      },
    )

-- ---- an answer

abbrev Answered : ClosingState → List ℕ → Type 0
Answered s bytes = (answer : Result PreparedClose CloseFault) × IsClose s bytes answer

-- a close is answered where its files aren't too long
by_length : (s : ClosingState) (bytes : List ℕ) (taken : IsTaken s bytes) (closed : PreparedClose)
    → IsClosed s taken.closing closed → Answered s bytes
by_length s bytes taken closed closes =
    let total = file_total closed.state.levels in
    let with_total : ClosesWith s bytes closed total = record { taken = taken; closes = closes; files = refl } in
    elim (cases_lt max_file_total total) [
      | inl more ↦ (Err (fault.LedgerFull total), (closed, with_total, more))
      | inr few ↦ (Ok closed, (total, with_total, few))
    ]

module _ (closable : TakenIsClosable) (next_legal : NextIsLegal) (s : ClosingState) (bytes : List ℕ)
    (state : IsClosingState s) (text : IsBytes bytes) (short : length bytes ≤ max_record_len) where
  of_record : (closing : CloseRecord) → record_in bytes ≡ Ok closing → (found : Option CloseFault)
      → record_fault s closing ≡ found → Answered s bytes
  of_record closing reads (Some wrong) found = (Err wrong, refusal s bytes wrong (closing, reads, found))
  of_record closing reads None found =
      let taken : IsTaken s bytes = record { closing = closing; text = text; reads = reads; unrefused = found } in
      let close = some_closed next_legal s closing (closable s bytes taken state short) in
      by_length s bytes taken close.0 close.1

  of_bytes : (read : Result CloseRecord XdrFault) → record_in bytes ≡ read → Answered s bytes
  of_bytes (Err wrong) reads = (Err (fault.BadXdr wrong.at wrong.kind), reads)
  of_bytes (Ok closing) reads = of_record closing reads (record_fault s closing) refl

pub each_close : TakenIsClosable → NextIsLegal → EachClose
each_close closable next_legal s bytes state text short =
    of_bytes closable next_legal s bytes state text short (record_in bytes) refl
