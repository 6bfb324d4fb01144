-- How far a run has come, and why it stops there.
use Rattle.reports.proofs.Prelude.{◌≡◌, ℕ, ◌+◌, ◌*◌, ◌-◌, ◌^◌, ◌<◌, ◌≤◌, List, [], ◌∷◌, ◌++◌, length, Option, IfSome}
use Rattle.reports.proofs.Prelude.{refl}
use Rattle.reports.proofs.Prelude.{sym, ap, subst, ◌∙◌, add-zero, append-nil, append_assoc, arith, All, All-push}
use Rattle.reports.proofs.Prelude.{Consumes}
use Rattle.reports.proofs.Prelude.{Consumes-nil, Consumes-trans, length-append, max_record_len, framed, frames, Status}
use Rattle.reports.proofs.Prelude.{ClosingState, RecordClose, AreClosesOf, FileKind, FileOutcome, IsFileEnd, IsFileRun}
use Rattle.reports.proofs.Prelude.{with_file, without_file, Gathers, RunPosition, Goes, EndsIn, StopsAt}
use Rattle.reports.proofs.Prelude.{Reached, Stopped, Stop, Seen}
use Rattle.run_outcome.specs.declared.status.Status.TheVariants as status
use Rattle.reports.specs.declared.gathering.Stop.TheVariants as stop
use Rattle.reports.proofs.LedgerNumbers.{low_after, next_seq}
use Rattle.reports.proofs.Marking.{framed_len}
use Rattle.reports.proofs.OneMore.{closes_more, frames_more}
use Rattle.reports.proofs.Streams.{over, if_some, known_before, rose_before}

-- ---- the start

pub nothing_reached : (kind : FileKind) (now : Gathers) (p : RunPosition) (left : Option (List ℕ)) (faults : ℕ)
    → kind.AreSmall [] → now p.state [] → p.at ≤ 2 ^ 64 → Reached kind now p p (over left left faults faults)
nothing_reached kind now p left faults small gathered low = record {
  records = [];
  closes = [];
  closed = refl;
  short = λ k d lt. absurd (omega (arith, lt));
  small = small;
  gathered = gathered;
  given = [];
  gave = Consumes-nil left;
  cut = append-nil p.ahead;
  at = sym (add-zero p.at);
  low = omega (arith, low);
  later = omega arith;
}

-- ---- one record more

text_cut : (before given more prefix mid framed_one after : List ℕ) → before ++ given ≡ prefix ++ mid
    → mid ++ more ≡ framed_one ++ after → before ++ (given ++ more) ≡ (prefix ++ framed_one) ++ after
text_cut before given more prefix mid framed_one after e f =
    sym (append_assoc before given more) ∙ ap (λ (t : List ℕ). t ++ more) e ∙ append_assoc prefix mid more
    ∙ ap (λ (t : List ℕ). prefix ++ t) f ∙ sym (append_assoc prefix framed_one after)

seq_after : (kind : FileKind) (old new : Gathers) (p q : RunPosition) (input : Seen) (g : Goes kind old new p q input)
    → q.state.header.ledger_seq ≡ p.state.header.ledger_seq + 1
seq_after kind old new p q input g =
    ap (λ (s : ClosingState). s.header.ledger_seq) g.state ∙ next_seq p.state g.bytes g.close.closed g.is.closes

pub goes_smaller : (kind : FileKind) (old new : Gathers) (p q : RunPosition) (input : Seen)
    → Goes kind old new p q input
    → 2147483648 - q.state.header.ledger_seq < 2147483648 - p.state.header.ledger_seq
goes_smaller kind old new p q input g = omega (arith, seq_after kind old new p q input g, g.low)

pub reached_on : (kind : FileKind) (old new : Gathers) (p q r : RunPosition) (before mid now : Option (List ℕ))
    (faults_before faults_mid faults_now : ℕ) → Reached kind old p q (over before mid faults_before faults_mid)
    → Goes kind old new q r (over mid now faults_mid faults_now)
    → Reached kind new p r (over before now faults_before faults_now)
reached_on kind old new p q r before mid now faults_before faults_mid faults_now h g =
    let more = g.gathered p.state h.closes h.gathered in
    let framed_more = frames_more h.records g.bytes in
    let sizes : length (frames (h.records ++ g.bytes ∷ [])) ≡ length (frames h.records) + length (framed g.bytes) =
    ap length framed_more ∙ length-append (frames h.records) (framed g.bytes) in
    record {
      records = h.records ++ g.bytes ∷ [];
      closes = h.closes ++ g.close ∷ [];
      closed = subst (λ (s : ClosingState). AreClosesOf p.state (h.records ++ g.bytes ∷ [])
          (h.closes ++ g.close ∷ []) s)
          (sym g.state) (closes_more p.state h.records h.closes q.state g.bytes g.close h.closed g.is);
      short = All-push (λ bytes. length bytes ≤ max_record_len) h.records g.bytes h.short g.short;
      small = more.1 h.small;
      gathered = more.0;
      given = h.given ++ g.given;
      gave = Consumes-trans before mid now h.given g.given h.gave g.gave;
      cut = text_cut p.ahead h.given g.given (frames h.records) q.ahead (framed g.bytes) r.ahead h.cut g.cut
          ∙ ap (λ (t : List ℕ). t ++ r.ahead) (sym framed_more);
      at = omega (arith, g.at, h.at, sizes);
      low = low_after q.at (length (framed g.bytes)) r.at q.state.header.ledger_seq r.state.header.ledger_seq h.low
          (omega (arith, framed_len g.bytes, g.short)) g.at
          (seq_after kind old new q r (over mid now faults_mid faults_now) g);
      later = omega (arith, h.later, g.later);
    }

-- ---- the end

-- the run that ends so after these records
run_of : (kind : FileKind) (now : Gathers) (p q : RunPosition) (input : Seen) (h : Reached kind now p q input)
    (others : List ℕ) (o : FileOutcome) → IsFileEnd kind p.state h.closes q.state q.at (q.ahead ++ others) o
    → IsFileRun kind p.state (record { at = p.at; rest = p.ahead ++ (h.given ++ others) }) o
run_of kind now p q input h others o ends = record {
  records = h.records;
  rest = q.ahead ++ others;
  cut = sym (append_assoc p.ahead h.given others) ∙ ap (λ (t : List ℕ). t ++ others) h.cut
      ∙ append_assoc (frames h.records) q.ahead others;
  short = h.short;
  closes = h.closes;
  state = q.state;
  closed = h.closed;
  small = h.small;
  ends = subst (λ (at : ℕ). IsFileEnd kind p.state h.closes q.state at (q.ahead ++ others) o) h.at ends;
}

runs_to : (kind : FileKind) (old : Gathers) (p q : RunPosition) (before mid : Option (List ℕ))
    (faults_before faults_mid : ℕ) (h : Reached kind old p q (over before mid faults_before faults_mid))
    (o : FileOutcome) → IfSome mid (λ bytes. IsFileEnd kind p.state h.closes q.state q.at (q.ahead ++ bytes) o)
    → IfSome before (λ bytes. IsFileRun kind p.state (record { at = p.at; rest = p.ahead ++ bytes }) o)
runs_to kind old p q before mid faults_before faults_mid h o ends =
    known_before before mid h.given (λ bytes. IsFileEnd kind p.state h.closes q.state q.at (q.ahead ++ bytes) o)
    (λ bytes. IsFileRun kind p.state (record { at = p.at; rest = p.ahead ++ bytes }) o) h.gave
    (λ others e. run_of kind old p q (over before mid faults_before faults_mid) h others o e) ends

-- nothing is left
ended : (kind : FileKind) (start s : ClosingState) (closes : List RecordClose) (at : ℕ) (ahead text : List ℕ)
    (left : Option (List ℕ)) → IfSome left (λ bytes. ahead ++ bytes ≡ []) → kind.IsText start closes text
    → IfSome left (λ bytes. IsFileEnd kind start closes s at (ahead ++ bytes) (with_file text))
ended kind start s closes at ahead text left none is =
    if_some left (λ bytes. ahead ++ bytes ≡ [])
    (λ bytes. IsFileEnd kind start closes s at (ahead ++ bytes) (with_file text))
    (λ bytes e. subst (λ (t : List ℕ). IsFileEnd kind start closes s at t (with_file text)) (sym e) (text, is, refl))
    none

pub stopped : (kind : FileKind) (old new : Gathers) (p q : RunPosition) (next : ClosingState)
    (before mid now : Option (List ℕ)) (faults_before faults_mid faults_now : ℕ) (why : Stop)
    → Reached kind old p q (over before mid faults_before faults_mid)
    → StopsAt kind old new q next (over mid now faults_mid faults_now) why
    → Stopped kind new p next (over before now faults_before faults_now) why
stopped kind old new p q next before mid now fb fm fn stop.AtEnd h e = (
  e.0,
  (
    h.closes,
    e.1 p.state h.closes h.gathered,
    λ text is. runs_to kind old p q before mid fb fm h (with_file text)
        (ended kind p.state q.state h.closes q.at q.ahead text mid e.2 is),
  ),
)
stopped kind old new p q next before mid now fb fm fn (stop.Refused wrong) h e =
    runs_to kind old p q before mid fb fm h (kind.refused next.header wrong)
    (subst (λ (s : ClosingState). IfSome mid (λ bytes. IsFileEnd kind p.state h.closes q.state q.at (q.ahead ++ bytes)
    (kind.refused s.header wrong))) (sym e.0) (e.1 p.state h.closes h.gathered))
stopped kind old new p q next before mid now fb fm fn (stop.Ended (status.BadInput at)) h e =
    runs_to kind old p q before mid fb fm h (without_file (status.BadInput at)) (e p.state h.closes h.gathered)
stopped kind old new p q next before mid now fb fm fn (stop.Ended status.TooLarge) h e = (
  runs_to kind old p q before mid fb fm h (without_file status.TooLarge) (e.0 p.state h.closes h.gathered),
  (h.closes, e.1.0, e.1.1 p.state h.closes h.gathered),
)
stopped kind old new p q next before mid now fb fm fn (stop.Ended status.ReadFault) h e =
    rose_before fb fm fn h.later e
stopped kind old new p q next before mid now fb fm fn (stop.Ended status.NoMemory) h e = tt
stopped kind old new p q next before mid now fb fm fn (stop.Ended status.Done) h e = absurd e
stopped kind old new p q next before mid now fb fm fn (stop.Ended status.Usage) h e = absurd e
stopped kind old new p q next before mid now fb fm fn (stop.Ended status.Refused) h e = absurd e
stopped kind old new p q next before mid now fb fm fn (stop.Ended status.WriteFault) h e = absurd e
stopped kind old new p q next before mid now fb fm fn (stop.Ended status.DiskFault) h e = absurd e
stopped kind old new p q next before mid now fb fm fn (stop.Ended (status.BadStore file place)) h e = absurd e
stopped kind old new p q next before mid now fb fm fn (stop.Ended (status.BadImage rule)) h e = absurd e
stopped kind old new p q next before mid now fb fm fn (stop.Ended status.Missing) h e = absurd e
stopped kind old new p q next before mid now fb fm fn (stop.Ended status.AlreadyThere) h e = absurd e
