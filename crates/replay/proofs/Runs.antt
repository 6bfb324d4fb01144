-- One record more or less at the start of a run, and the end of a run.
use Rattle.replay.proofs.Prelude.{◌≡◌, ℕ, ◌+◌, ◌≤◌, List, [], ◌∷◌, ◌++◌, length, Result, Ok, Err, refl, sym, ap, subst}
use Rattle.replay.proofs.Prelude.{◌∙◌, add-zero, append_assoc, arith, inl, inr, All, map, length-append, All-cons}
use Rattle.replay.proofs.Prelude.{All-head, All-tail, XdrFault, Position, Reading, CloseFault, ClosingState}
use Rattle.replay.proofs.Prelude.{PreparedClose, IsClose, filled_header, LedgerHeader, closes_are_one, Status}
use Rattle.replay.proofs.Prelude.{refused_line, Outcome, after, framed, frames, max_record_len, lines_of, AreClosed}
use Rattle.replay.proofs.Prelude.{IsStopped, IsEnd, IsRun, AreClosedAhead, IsRunPrefix}
use Rattle.std.specs.Prelude.{Option, Some, None}
use Rattle.stored_outcome.specs.header_chain.Upgrades.{upgrade_in, upgraded_if, all_upgraded}
use Rattle.ledger_types.specs.declared.header.LedgerUpgrade.{LedgerUpgrade}
use Rattle.ledger_types.specs.declared.header.LedgerUpgrade.TheVariants as upgrade
use Rattle.stored_outcome.specs.run_outcome.declared.status.Status.TheVariants as status
use Rattle.reports.proofs.Prefixes.{prefix_later, nothing_prefix}
use Rattle.reports.proofs.Marking.{read_mark, framed_is_read, framed_above}

-- ---- closes

abbrev answer : Result PreparedClose CloseFault → Result PreparedClose CloseFault
answer r = r

pub same_close : (s : ClosingState) (bytes : List ℕ) (a b : PreparedClose) → IsClose s bytes (Ok a)
    → IsClose s bytes (Ok b)
    → a ≡ b
same_close s bytes a b h i = let e : answer (Ok a) ≡ Ok b = closes_are_one s bytes (Ok a) (Ok b) h i in cc

pub same_refusal : (s : ClosingState) (bytes : List ℕ) (a b : CloseFault) → IsClose s bytes (Err a)
    → IsClose s bytes (Err b)
    → a ≡ b
same_refusal s bytes a b h i = let e : answer (Err a) ≡ Err b = closes_are_one s bytes (Err a) (Err b) h i in cc

pub not_both : (s : ClosingState) (bytes : List ℕ) (a : PreparedClose) (b : CloseFault) → IsClose s bytes (Ok a)
    → IsClose s bytes (Err b) → ⊥
not_both s bytes a b h i = let e : answer (Ok a) ≡ Err b = closes_are_one s bytes (Ok a) (Err b) h i in absurd cc

-- ---- marks

abbrev read_of : Reading XdrFault (List ℕ) → Reading XdrFault (List ℕ)
read_of r = r

ok_of : (a b : List ℕ × Position) → read_of (Ok a) ≡ Ok b → a ≡ b
ok_of a b h = cc

pub framed_apart : (v w x y : List ℕ) → length v ≤ max_record_len → length w ≤ max_record_len
    → framed v ++ x ≡ framed w ++ y → (v ≡ w) × (x ≡ y)
framed_apart v w x y short_v short_w e =
    let first = framed_is_read 0 v x short_v in
    let second = framed_is_read 0 w y short_w in
    let both : read_of (Ok (v, record { at = 0 + length (framed v); rest = x }))
    ≡ Ok (w, record { at = 0 + length (framed w); rest = y }) =
    sym first ∙ ap (λ (t : List ℕ). read_mark (record { at = 0; rest = t })) e ∙ second in
    let same = ok_of _ _ both in
    (ap (λ (r : List ℕ × Position). r.0) same, ap (λ (r : List ℕ × Position). r.1.rest) same)

-- ---- the end of a run

pub nothing_framed : (bytes rest : List ℕ) → [] ≡ framed bytes ++ rest → ⊥
nothing_framed bytes rest e =
    let sizes : length (framed bytes ++ rest) ≡ 0 = sym (ap length e) in
    absurd (omega (arith, sizes, length-append (framed bytes) rest, framed_above bytes))

-- a record at the start of what is left is refused
pub refused_at : (s : ClosingState) (at : ℕ) (text : List ℕ) (last : Outcome) (bytes rest : List ℕ)
    → IsEnd s at text last → text ≡ framed bytes ++ rest → length bytes ≤ max_record_len
    → (wrong : CloseFault) × IsClose s bytes (Err wrong)
    × (last ≡ record { status = status.Refused; text = refused_line s.header wrong })
refused_at s at [] last bytes rest h e short = absurd (nothing_framed bytes rest e)
refused_at s at (byte ∷ more) last bytes rest h e short =
    let r = ap (λ (t : List ℕ). read_mark (record { at = at; rest = t })) e ∙ framed_is_read at bytes rest short in
    subst (λ (x : Reading XdrFault (List ℕ)). IsStopped s x last) r h

abbrev outcome : Status → List ℕ → Outcome
outcome end t = record { status = end; text = t }

abbrev refusal : ClosingState → CloseFault → Outcome
refusal s w = outcome status.Refused (refused_line s.header w)

same_stop : (s : ClosingState) (r : Reading XdrFault (List ℕ)) (a b : Outcome) → IsStopped s r a → IsStopped s r b
    → a ≡ b
same_stop s (Err wrong) a b h i = h ∙ sym i
same_stop s (Ok x) a b h i =
    h.2 ∙ ap (λ (w : CloseFault). refusal s w) (same_refusal s x.0 h.0 i.0 h.1 i.1) ∙ sym i.2

same_end : (s : ClosingState) (at : ℕ) (text : List ℕ) (a b : Outcome) → IsEnd s at text a → IsEnd s at text b → a ≡ b
same_end s at [] a b h i = h ∙ sym i
same_end s at (byte ∷ more) a b h i =
    same_stop s (read_mark (record { at = at; rest = byte ∷ more })) a b h i

abbrev pub AreShort : List (List ℕ) → Type 0
AreShort records = All (λ bytes. length bytes ≤ max_record_len) records

-- no record: what ends the run is at its start
pub at_prefix : (s state : ClosingState) (at : ℕ) (text rest : List ℕ) (end : Outcome) → IsEnd state (at + 0) rest end
    → state ≡ s → text ≡ rest → IsEnd s at text end
at_prefix s state at text rest end ends same e =
    let first = subst (λ (x : ClosingState). IsEnd x (at + 0) rest end) same ends in
    let second = subst (λ (a : ℕ). IsEnd s a rest end) (add-zero at) first in
    subst (λ (t : List ℕ). IsEnd s at t end) (sym e) second

ends_by : (s : ClosingState) (at : ℕ) (text : List ℕ) (last o : Outcome) (records : List (List ℕ)) (rest lines : List ℕ)
    (state : ClosingState) (end : Outcome) → IsEnd s at text last → text ≡ frames records ++ rest → AreShort records
    → AreClosed s records lines state → IsEnd state (at + length (frames records)) rest end → o ≡ after lines end
    → o ≡ last
ends_by s at text last o [] rest lines state end h cut short closed ends is =
    is ∙ ap (λ (l : List ℕ). after l end) closed.0
    ∙ same_end s at text end last (at_prefix s state at text rest end ends closed.1 cut) h
ends_by s at text last o (w ∷ ws) rest lines state end h cut short closed ends is =
    let r = refused_at s at text last w (frames ws ++ rest) h (cut ∙ append_assoc (framed w) (frames ws) rest)
    (All-head (λ bytes. length bytes ≤ max_record_len) w ws short) in
    absurd (not_both s w closed.0 r.0 closed.2 r.1)

-- where a run is at its end, that is all of it
pub one_end : (s : ClosingState) (at : ℕ) (text : List ℕ) (last o : Outcome) → IsEnd s at text last
    → IsRun s (record { at = at; rest = text }) o → o ≡ last
one_end s at text last o h run =
    ends_by s at text last o run.records run.rest run.lines run.state run.last h run.cut run.short run.closed run.ends
    run.is

pub ended_run : (s : ClosingState) (at : ℕ) (text : List ℕ) (last : Outcome) → IsEnd s at text last
    → IsRun s (record { at = at; rest = text }) last
ended_run s at text last h = record {
  records = [];
  rest = text;
  cut = refl;
  short = λ k d lt. absurd (omega (arith, lt));
  lines = [];
  state = s;
  closed = (refl, refl);
  last = last;
  ends = subst (λ (a : ℕ). IsEnd s a text last) (sym (add-zero at)) h;
  is = refl;
}

-- ---- one record

-- what is left of a run after its first record
abbrev pub Later : (s : ClosingState) (at : ℕ) (rest lines : List ℕ) (o : Outcome) → Type 0
Later s at rest lines o = (later : Outcome) × IsRun s (record { at = at; rest = rest }) later × (o ≡ after lines later)

peeled_by : (s : ClosingState) (bytes : List ℕ) (c : PreparedClose) (at : ℕ) (others : List ℕ) (o : Outcome)
    (records : List (List ℕ)) (rest lines : List ℕ) (state : ClosingState) (last : Outcome)
    → length bytes ≤ max_record_len → IsClose s bytes (Ok c) → framed bytes ++ others ≡ frames records ++ rest
    → AreShort records → AreClosed s records lines state → IsEnd state (at + length (frames records)) rest last
    → o ≡ after lines last → Later c.state (at + length (framed bytes)) others (lines_of c) o
peeled_by s bytes c at others o [] rest lines state last fits closes cut short closed ends is =
    let r = refused_at s at (framed bytes ++ others) last bytes others
    (at_prefix s state at (framed bytes ++ others) rest last ends closed.1 cut) refl fits in
    absurd (not_both s bytes c r.0 closes r.1)
peeled_by s bytes c at others o (w ∷ ws) rest lines state last fits closes cut short closed ends is =
    let P : List ℕ → Type 0 = λ (b : List ℕ). length b ≤ max_record_len in
    let apart = framed_apart bytes w others (frames ws ++ rest) fits (All-head P w ws short)
    (cut ∙ append_assoc (framed w) (frames ws) rest) in
    let same = same_close s w closed.0 c closed.2 (subst (λ (b : List ℕ). IsClose s b (Ok c)) apart.0 closes) in
    let sizes : length (framed bytes) ≡ length (framed w) = ap (λ (b : List ℕ). length (framed b)) apart.0 in
    let offset : at + length (framed w ++ frames ws) ≡ at + length (framed bytes) + length (frames ws) =
    omega (arith, sizes, length-append (framed w) (frames ws)) in
    let text : (lines_of closed.0 ++ closed.1) ++ last.text ≡ lines_of c ++ (closed.1 ++ last.text) =
    append_assoc (lines_of closed.0) closed.1 last.text
    ∙ ap (λ (x : PreparedClose). lines_of x ++ (closed.1 ++ last.text)) same in (
      after closed.1 last,
      record {
        records = ws;
        rest = rest;
        cut = apart.1;
        short = All-tail P w ws short;
        lines = closed.1;
        state = state;
        closed = subst (λ (x : PreparedClose). AreClosed x.state ws closed.1 state) same closed.3;
        last = last;
        ends = subst (λ (a : ℕ). IsEnd state a rest last) offset ends;
        is = refl;
      },
      is ∙ ap (λ (l : List ℕ). after l last) closed.4
          ∙ ap (λ (t : List ℕ). outcome last.status t) text,
    )

pub peeled : (s : ClosingState) (bytes : List ℕ) (c : PreparedClose) (at : ℕ) (others : List ℕ) (o : Outcome)
    → length bytes ≤ max_record_len → IsClose s bytes (Ok c)
    → IsRun s (record { at = at; rest = framed bytes ++ others }) o
    → Later c.state (at + length (framed bytes)) others (lines_of c) o
peeled s bytes c at others o fits closes run =
    peeled_by s bytes c at others o run.records run.rest run.lines run.state run.last fits closes run.cut run.short
    run.closed run.ends run.is

pub prepended : (s : ClosingState) (bytes : List ℕ) (c : PreparedClose) (at : ℕ) (others : List ℕ) (o : Outcome)
    → length bytes ≤ max_record_len → IsClose s bytes (Ok c)
    → IsRun c.state (record { at = at + length (framed bytes); rest = others }) o
    → IsRun s (record { at = at; rest = framed bytes ++ others }) (after (lines_of c) o)
prepended s bytes c at others o fits closes run =
    let offset : at + length (framed bytes) + length (frames run.records)
    ≡ at + length (framed bytes ++ frames run.records) =
    omega (arith, length-append (framed bytes) (frames run.records)) in
    record {
      records = bytes ∷ run.records;
      rest = run.rest;
      cut = ap (λ (t : List ℕ). framed bytes ++ t) run.cut
          ∙ sym (append_assoc (framed bytes) (frames run.records) run.rest);
      short = All-cons (λ b. length b ≤ max_record_len) bytes run.records fits run.short;
      lines = lines_of c ++ run.lines;
      state = run.state;
      closed = (c, run.lines, closes, run.closed, refl);
      last = run.last;
      ends = subst (λ (a : ℕ). IsEnd run.state a run.rest run.last) offset run.ends;
      is = ap (λ (x : Outcome). after (lines_of c) x) run.is
          ∙ ap (λ (t : List ℕ). outcome run.last.status t)
          (sym (append_assoc (lines_of c) run.lines run.last.text));
    }

-- ---- records that close ledgers, in a run that may go on

abbrev pub no_records : (s : ClosingState) (p : Position) → AreClosedAhead s p []
no_records s p = record {
  records = [];
  rest = p.rest;
  cut = refl;
  short = λ k d lt. absurd (omega (arith, lt));
  state = s;
  closed = (refl, refl);
}

abbrev pub one_more : (s : ClosingState) (bytes : List ℕ) (c : PreparedClose) (at next : ℕ) (others lines : List ℕ)
    → length bytes ≤ max_record_len → IsClose s bytes (Ok c)
    → AreClosedAhead c.state (record { at = next; rest = others }) lines
    → AreClosedAhead s (record { at = at; rest = framed bytes ++ others }) (lines_of c ++ lines)
one_more s bytes c at next others lines fits closes a = record {
  records = bytes ∷ a.records;
  rest = a.rest;
  cut = ap (λ (t : List ℕ). framed bytes ++ t) a.cut ∙ sym (append_assoc (framed bytes) (frames a.records) a.rest);
  short = All-cons (λ b. length b ≤ max_record_len) bytes a.records fits a.short;
  state = a.state;
  closed = (c, lines, closes, a.closed, refl);
}

pub empty_prefix : (s : ClosingState) (p : Position) → IsRunPrefix s p []
empty_prefix s p = inl ([], no_records s p, nothing_prefix [])

pub later_prefix : (s : ClosingState) (bytes : List ℕ) (c : PreparedClose) (at : ℕ) (others prefix : List ℕ)
    → length bytes ≤ max_record_len → IsClose s bytes (Ok c)
    → IsRunPrefix c.state (record { at = at + length (framed bytes); rest = others }) prefix
    → IsRunPrefix s (record { at = at; rest = framed bytes ++ others }) (lines_of c ++ prefix)
later_prefix s bytes c at others prefix fits closes (inl (lines, a, f)) = inl (
  lines_of c ++ lines,
  one_more s bytes c at (at + length (framed bytes)) others lines fits closes a,
  prefix_later (lines_of c) prefix lines f,
)
later_prefix s bytes c at others prefix fits closes (inr (o, run, f)) = inr (
  after (lines_of c) o,
  prepended s bytes c at others o fits closes run,
  prefix_later (lines_of c) prefix o.text f,
)
