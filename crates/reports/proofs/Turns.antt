-- What a turn yields, from what its parts answer.
use Rattle.reports.proofs.Prelude.{◌≡◌, ℕ, ◌+◌, ◌<◌, ◌≤◌, List, [], ◌∷◌, ◌++◌, length, take, drop, Option, Some, None}
use Rattle.reports.proofs.Prelude.{IfSome}
use Rattle.reports.proofs.Prelude.{Result, Ok, Err, refl, sym, ap, subst, ◌∙◌, arith, inl, inr, ◌⊎◌, IsNone, IsAtEnd}
use Rattle.reports.proofs.Prelude.{length-append, nil_from_length, Seen, Grown, record_end, IsPiece, PieceFault}
use Rattle.reports.proofs.Prelude.{XdrFault}
use Rattle.reports.proofs.Prelude.{Position, Reading, start_of, IsBytes, CloseFault, ClosingState, IsClose, Status}
use Rattle.reports.proofs.Prelude.{framed, max_record_len, last_seq, RecordClose, IsCloseOf, FileKind, FileOutcome}
use Rattle.reports.proofs.Prelude.{IsFileStop, IsFileEnd, without_file, Gathers, Closes, Passes}
use Rattle.reports.proofs.Prelude.{RunPosition}
use Rattle.reports.proofs.Prelude.{IsUnread, EndsIn, StopsAt, Turned, Stop, Short}
use Rattle.record_stream.specs.declared.piece.PieceFault.TheVariants as piece
use Rattle.run_outcome.specs.declared.status.Status.TheVariants as status
use Rattle.reports.specs.declared.gathering.Stop.TheVariants as stop
use Rattle.reports.proofs.Marking.{read_mark, framed_is_read, framed_above, fault_after, empty_is_short, prefix_of}
use Rattle.reports.proofs.Streams.{reported_prefix, nothing_after_end, empty_or_some, text_of, prefix_text, end_err}
use Rattle.reports.proofs.Streams.{mark_stays}

-- ---- what stops a run

-- a record at the start of what is left stops it
stop_at_record : (kind : FileKind) (start : ClosingState) (closes : List RecordClose) (s : ClosingState) (at : ℕ)
    (bytes rest : List ℕ) (o : FileOutcome) → length bytes ≤ max_record_len
    → IsFileStop kind closes s (Ok (bytes, record { at = at + length (framed bytes); rest = rest })) o
    → IsFileEnd kind start closes s at (framed bytes ++ rest) o
stop_at_record kind start closes s at bytes rest o fits stops =
    at_text (framed bytes ++ rest)
    (omega (arith, length-append (framed bytes) rest, framed_above bytes))
    (framed_is_read at bytes rest fits)
  where
    at_text : (text : List ℕ) → 0 < length text
        → read_mark (record { at = at; rest = text })
        ≡ Ok (bytes, record { at = at + length (framed bytes); rest = rest })
        → IsFileEnd kind start closes s at text o
    at_text [] some e = absurd (omega arith)
    at_text (byte ∷ more) some e = subst (λ (r : Reading XdrFault (List ℕ)). IsFileStop kind closes s r o) (sym e) stops

-- so does a mark that doesn't read
stop_at_mark : (kind : FileKind) (start : ClosingState) (closes : List RecordClose) (s : ClosingState) (at : ℕ)
    (text : List ℕ) (wrong : XdrFault) → 0 < length text → read_mark (start_of text) ≡ Err wrong
    → IsFileEnd kind start closes s at text (without_file (status.BadInput (at + wrong.at)))
stop_at_mark kind start closes s at [] wrong some e = absurd (omega arith)
stop_at_mark kind start closes s at (byte ∷ rest) wrong some e =
    subst (λ (r : Reading XdrFault (List ℕ)). IsFileStop kind closes s r
    (without_file (status.BadInput (at + wrong.at))))
    (sym (fault_after at (byte ∷ rest) wrong e)) refl

-- ---- a record was ahead

-- the record ends the run, whatever follows it
ends_at_record : (kind : FileKind) (old : Gathers) (s : ClosingState) (at : ℕ) (ahead new rest bytes : List ℕ)
    (input : Seen) (o : FileOutcome)
    → Grown input.before input.now ahead new → new ≡ framed bytes ++ rest → length bytes ≤ max_record_len
    → ((start : ClosingState) (closes : List RecordClose) (q : Position) → old start closes
    → IsFileStop kind closes s (Ok (bytes, q)) o)
    → EndsIn kind old (record { state = s; at = at; ahead = ahead }) input o
ends_at_record kind old s at ahead new rest bytes input o grown cut fits stops start closes g =
    reported_prefix input.before input.now grown.given
    (λ given. IsFileEnd kind start closes s at (ahead ++ given) o) grown.gave
    (λ others reported. subst (λ (t : List ℕ). IsFileEnd kind start closes s at t o)
    (sym (prefix_text ahead new grown.given (framed bytes) rest others grown.grown cut))
    (stop_at_record kind start closes s at bytes (rest ++ others) o fits
    (stops start closes (record { at = at + length (framed bytes); rest = rest ++ others }) g)))

stops_at_record : (kind : FileKind) (old new : Gathers) (s : ClosingState) (at : ℕ) (ahead mid rest bytes : List ℕ)
    (next : ClosingState) (input : Seen) (why : Stop)
    → Grown input.before input.now ahead mid → mid ≡ framed bytes ++ rest → length bytes ≤ max_record_len
    → Closes kind old new s bytes next (Some why)
    → StopsAt kind old new (record { state = s; at = at; ahead = ahead }) next input why
stops_at_record kind old new s at ahead mid rest bytes next input (stop.Refused wrong) grown cut fits h = (
  h.0,
  ends_at_record kind old s at ahead mid rest bytes input (kind.refused s.header wrong) grown cut fits
      (λ start closes q g. inl (wrong, h.1, refl)),
)
stops_at_record kind old new s at ahead mid rest bytes next input (stop.Ended status.TooLarge) grown cut fits h = (
  ends_at_record kind old s at ahead mid rest bytes input (without_file status.TooLarge) grown cut fits
      (λ start closes q g. inr (h.0, h.1, h.2 start closes g, refl)),
  (h.0, h.2),
)
stops_at_record kind old new s at ahead mid rest bytes next input (stop.Ended status.NoMemory) grown cut fits h = tt
stops_at_record kind old new s at ahead mid rest bytes next input stop.AtEnd grown cut fits h = absurd h
stops_at_record kind old new s at ahead mid rest bytes next input (stop.Ended status.Done) grown cut fits h = absurd h
stops_at_record kind old new s at ahead mid rest bytes next input (stop.Ended status.Usage) grown cut fits h = absurd h
stops_at_record kind old new s at ahead mid rest bytes next input (stop.Ended status.Refused) grown cut fits h =
    absurd h
stops_at_record kind old new s at ahead mid rest bytes next input (stop.Ended status.ReadFault) grown cut fits h =
    absurd h
stops_at_record kind old new s at ahead mid rest bytes next input (stop.Ended status.WriteFault) grown cut fits h =
    absurd h
stops_at_record kind old new s at ahead mid rest bytes next input (stop.Ended status.DiskFault) grown cut fits h =
    absurd h
stops_at_record kind old new s at ahead mid rest bytes next input (stop.Ended (status.BadStore file place)) grown cut
    fits h = absurd h
stops_at_record kind old new s at ahead mid rest bytes next input (stop.Ended (status.BadInput place)) grown cut fits
    h = absurd h
stops_at_record kind old new s at ahead mid rest bytes next input (stop.Ended (status.BadImage rule)) grown cut fits
    h = absurd h
stops_at_record kind old new s at ahead mid rest bytes next input (stop.Ended status.Missing) grown cut fits h =
    absurd h
stops_at_record kind old new s at ahead mid rest bytes next input (stop.Ended status.AlreadyThere) grown cut fits h =
    absurd h

pub turned_at : (kind : FileKind) (old new : Gathers) (s : ClosingState) (at : ℕ) (ahead mid : List ℕ) (end : ℕ)
    (next : ClosingState) (after : List ℕ) (input : Seen) (r : Option Stop) → IsBytes mid
    → Grown input.before input.now ahead mid
    → record_end mid ≡ Ok end → Passes kind old new s mid end next r → (IsNone r → after ≡ drop end mid)
    → input.faults_before ≤ input.faults_now → s.header.ledger_seq ≤ last_seq
    → Turned kind old new (record { state = s; at = at; ahead = ahead })
    (record { state = next; at = at + end; ahead = after }) input r
turned_at kind old new s at ahead mid end next after input None fits grown measured p rest later low =
    let f = prefix_of mid end fits measured in
    let cut : ahead ++ grown.given ≡ framed p.bytes ++ after =
    sym grown.grown ∙ f.entire ∙ ap (λ (t : List ℕ). t ++ drop end mid) (f.framed_is ∙ sym p.framed_is)
    ∙ ap (λ (t : List ℕ). framed p.bytes ++ t) (sym (rest refl)) in
    let len : end ≡ length (framed p.bytes) = f.len ∙ ap length (f.framed_is ∙ sym p.framed_is) in
    record {
      bytes = p.bytes;
      short = p.short;
      close = p.closes.0;
      is = p.closes.1;
      state = p.closes.2;
      gathered = p.closes.3;
      given = grown.given;
      gave = grown.gave;
      cut = cut;
      at = ap (λ (n : ℕ). at + n) len;
      later = later;
      low = low;
    }
turned_at kind old new s at ahead mid end next after input (Some why) fits grown measured p rest later low =
    let f = prefix_of mid end fits measured in
    stops_at_record kind old new s at ahead mid (drop end mid) p.bytes next input why grown
    (f.entire ∙ ap (λ (t : List ℕ). t ++ drop end mid) (f.framed_is ∙ sym p.framed_is)) p.short p.closes

-- ---- no record was ahead

at_end : (kind : FileKind) (now : Gathers) (s : ClosingState) (at : ℕ) (ahead mid : List ℕ) (input : Seen)
    (wrong : XdrFault)
    → Grown input.before input.now ahead mid → record_end mid ≡ Err wrong
    → (wrong.kind ≡ Short → IsAtEnd input.now) → length mid ≡ 0
    → StopsAt kind now now (record { state = s; at = at; ahead = ahead }) s input stop.AtEnd
at_end kind now s at ahead mid input wrong grown measured cut none =
    let empty : mid ≡ [] = nil_from_length mid none in
    let over = cut (empty_is_short wrong (ap record_end (sym empty) ∙ measured)) in (
      over,
      λ start closes g. g,
      reported_prefix input.before input.now grown.given (λ bytes. ahead ++ bytes ≡ []) grown.gave
          (λ others reported. text_of ahead mid grown.given others grown.grown
          ∙ ap (λ (t : List ℕ). t ++ others) empty ∙ nothing_after_end input.now others over reported),
    )

bad_mark : (kind : FileKind) (now : Gathers) (s : ClosingState) (at : ℕ) (ahead mid : List ℕ) (input : Seen)
    (wrong : XdrFault)
    → Grown input.before input.now ahead mid → IsBytes mid → record_end mid ≡ Err wrong
    → (wrong.kind ≡ Short → IsAtEnd input.now) → 0 < length mid
    → EndsIn kind now (record { state = s; at = at; ahead = ahead }) input
    (without_file (status.BadInput (at + wrong.at)))
bad_mark kind now s at ahead mid input wrong grown fits measured cut some start closes g =
    let o : FileOutcome = without_file (status.BadInput (at + wrong.at)) in
    let e = end_err (read_mark (start_of mid)) wrong measured in
    reported_prefix input.before input.now grown.given
    (λ bytes. IsFileEnd kind start closes s at (ahead ++ bytes) o) grown.gave
    (λ others reported. subst (λ (t : List ℕ). IsFileEnd kind start closes s at t o)
    (sym (text_of ahead mid grown.given others grown.grown))
    (stop_at_mark kind start closes s at (mid ++ others) wrong (omega (arith, some, length-append mid others))
    (mark_stays mid others input.now wrong fits e cut reported)))

pub turned_off : (kind : FileKind) (now : Gathers) (s : ClosingState) (at : ℕ) (ahead mid : List ℕ) (input : Seen)
    (fault : PieceFault) (why : Stop) → IsBytes mid
    → IsPiece record_end input.before input.now input.faults_before input.faults_now ahead mid (Err fault)
    → IsUnread at mid fault why → StopsAt kind now now (record { state = s; at = at; ahead = ahead }) s input why
turned_off kind now s at ahead mid input (piece.Xdr wrong) why fits h e =
    let p : RunPosition = record { state = s; at = at; ahead = ahead } in
    elim (empty_or_some mid) [
      | inl none ↦ subst (StopsAt kind now now p s input) (sym (e.0 none))
          (at_end kind now s at ahead mid input wrong h.0 h.1 h.2 none)
      | inr some ↦ subst (StopsAt kind now now p s input) (sym (e.1 some))
          (bad_mark kind now s at ahead mid input wrong h.0 fits h.1 h.2 some)
    ]
turned_off kind now s at ahead mid input piece.Failed why fits h e =
    subst (StopsAt kind now now (record { state = s; at = at; ahead = ahead }) s input) (sym e) h.2
turned_off kind now s at ahead mid input piece.NoMemory why fits h e =
    subst (StopsAt kind now now (record { state = s; at = at; ahead = ahead }) s input) (sym e) tt
