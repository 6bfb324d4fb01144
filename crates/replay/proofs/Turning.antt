-- What a turn yields, from what its parts answer.
use Rattle.replay.proofs.Prelude as prelude
use prelude.{◌≡◌, ℕ, ◌+◌, ◌-◌, ◌*◌, ◌^◌, ◌<◌, ◌≤◌, List, [], ◌∷◌, ◌++◌, length, take, drop, Option, Some, None, IfSome}
use prelude.{Result, Ok, Err, refl, sym, ap, subst, ◌∙◌, append_assoc, append-nil, arith, inl, inr, ◌⊎◌, ◌≢◌, IsNone}
use prelude.{Consumes, IsAtEnd, Appends-trans, Consumes-trans, length-append, Seen, Failed, Received, Grown, end_by}
use prelude.{record_end, IsShort, IsPiece, PieceFault, FaultIs, XdrFault, XdrKind, Reading, start_of, IsBytes}
use prelude.{CloseFault, ClosingState, PreparedClose, IsClose, Status, IsCutShort, IsRecordsEnd, end_line, refused_line}
use prelude.{Outcome, silent, after, framed, max_record_len, lines_of, IsStopped, IsEnd, IsRun, IsPrefix, IsRunPrefix}
use prelude.{AreComplete, IsAnswer, Answered, Refuses, Closes, Passes, EndsAt, Turned, IsCut, WroteClose, Wrote, Stops}
use prelude.{AnsweredFrom, Followed, FollowedFrom, RunPosition, Goes, CompleteLines, faults_located, mark_laws}
use prelude.{LedgerHeader, last_seq, nil_from_length}
use Rattle.outside.specs.Streams.{Rose}
use Rattle.record_stream.specs.declared.piece.PieceFault.TheVariants as piece
use Rattle.stored_outcome.specs.close_rules.declared.close_fault.CloseFault.TheVariants as close
use Rattle.xdr_core.specs.declared.fault.XdrKind.TheVariants as kind
use Rattle.stored_outcome.specs.run_outcome.declared.status.Status.TheVariants as status
use Rattle.reports.proofs.Marking.{read_mark, framed_is_read, framed_above, framed_len, fault_after, empty_is_short}
use Rattle.reports.proofs.Marking.{prefix_of}
use Rattle.reports.proofs.Prefixes.{prefix_more}
use Rattle.replay.proofs.Runs.{prepended, ended_run, no_records, one_more, empty_prefix, later_prefix}
use Rattle.reports.proofs.LedgerNumbers.{low_after, next_seq}
use Rattle.reports.proofs.Streams.{over, joined, rose_before, if_some, reported_prefix, nothing_after_end, end_err}
use Rattle.reports.proofs.Streams.{mark_stays, text_of}
use Rattle.reports.proofs.Streams.{prefix_text, empty_or_some}

-- ---- a record, and then the rest of the run

abbrev AnswerFrom : ClosingState → (at : ℕ) → (rest text : List ℕ) → (end : Status) → Type 0
AnswerFrom s at rest text end =
    IsAnswer (IsRun s (record { at = at; rest = rest })) (IsRunPrefix s (record { at = at; rest = rest })) text end

pub answer_after : (s : ClosingState) (bytes : List ℕ) (c : PreparedClose) (at : ℕ) (others text : List ℕ)
    (end : Status) → length bytes ≤ max_record_len → IsClose s bytes (Ok c)
    → AnswerFrom c.state (at + length (framed bytes)) others text end
    → AnswerFrom s at (framed bytes ++ others) (lines_of c ++ text) end
answer_after s bytes c at others text end fits closes (inl (o, run, e, same)) = inl (
  after (lines_of c) o,
  prepended s bytes c at others o fits closes run,
  e,
  ap (λ (t : List ℕ). lines_of c ++ t) same,
)
answer_after s bytes c at others text end fits closes (inr (short, f)) =
    inr (short, later_prefix s bytes c at others text fits closes f)

answered_after : (s : ClosingState) (bytes : List ℕ) (c : PreparedClose) (at : ℕ) (others : List ℕ) (out : Seen)
    (later : Option (List ℕ)) (faults : ℕ) (end : Status) → length bytes ≤ max_record_len → IsClose s bytes (Ok c)
    → Received out (lines_of c)
    → AnsweredFrom c.state (at + length (framed bytes)) others (over out.now later out.faults_now faults) end
    → AnsweredFrom s at (framed bytes ++ others) (over out.before later out.faults_before faults) end
answered_after s bytes c at others out later faults end fits closes received (text, h, answer) = (
  lines_of c ++ text,
  Appends-trans out.before out.now later (lines_of c) text received h,
  answer_after s bytes c at others text end fits closes answer,
)

-- all lines of what is complete
pub complete_after : (s : ClosingState) (bytes : List ℕ) (c : PreparedClose) (at next : ℕ) (others lines : List ℕ)
    → length bytes ≤ max_record_len → IsClose s bytes (Ok c)
    → AreComplete c.state (record { at = next; rest = others }) lines
    → AreComplete s (record { at = at; rest = framed bytes ++ others }) (lines_of c ++ lines)
complete_after s bytes c at next others lines fits closes w =
    record { ahead = one_more s bytes c at next others lines fits closes w.ahead; partial = w.partial }

-- the text from the old offset on, by what was given
text_after : (ahead given framed_one rest x y : List ℕ) → ahead ++ given ≡ framed_one ++ rest → x ≡ given ++ y
    → ahead ++ x ≡ framed_one ++ (rest ++ y)
text_after ahead given framed_one rest x y cut e =
    ap (λ (t : List ℕ). ahead ++ t) e ∙ sym (append_assoc ahead given y) ∙ ap (λ (t : List ℕ). t ++ y) cut
    ∙ append_assoc framed_one rest y

gone_answered : (old new : RunPosition) (input out : Seen) (g : Goes old new input out) (before now : Option (List ℕ))
    (out_now : Option (List ℕ)) (out_faults : ℕ) (end : Status) → Consumes before now g.given
    → IfSome now (λ bytes. AnsweredFrom new.state new.at (new.ahead ++ bytes)
    (over out.now out_now out.faults_now out_faults) end)
    → IfSome before (λ bytes. AnsweredFrom old.state old.at (old.ahead ++ bytes)
    (over out.before out_now out.faults_before out_faults) end)
gone_answered old new input out g None now out_now out_faults end gave h = tt
gone_answered old new input out g (Some x) None out_now out_faults end gave h = absurd gave
gone_answered old new input out g (Some x) (Some y) out_now out_faults end gave h =
    let rest : List ℕ = new.ahead ++ y in
    let seen_out : Seen = over out.now out_now out.faults_now out_faults in
    let first = subst (λ (s : ClosingState). AnsweredFrom s new.at rest seen_out end) g.state h in
    let second = subst (λ (n : ℕ). AnsweredFrom g.closed.state n rest seen_out end) g.at first in
    let third = answered_after old.state g.bytes g.closed old.at rest out out_now out_faults end g.short g.closes
    g.received second in
    subst (λ (t : List ℕ). AnsweredFrom old.state old.at t (over out.before out_now out.faults_before out_faults) end)
    (sym (text_after old.ahead g.given (framed g.bytes) new.ahead x y g.cut gave)) third

gone_lines : (old new : RunPosition) (input out : Seen) (g : Goes old new input out) (now out_now : Option (List ℕ))
    (faults out_faults : ℕ)
    → CompleteLines new.state new.at new.ahead (over input.now now input.faults_now faults)
    (over out.now out_now out.faults_now out_faults)
    → CompleteLines old.state old.at old.ahead (over input.before now input.faults_before faults)
    (over out.before out_now out.faults_before out_faults)
gone_lines old new input out g now out_now faults out_faults w = record {
  given = g.given ++ w.given;
  gave = Consumes-trans input.before input.now now g.given w.given g.gave w.gave;
  lines = lines_of g.closed ++ w.lines;
  received = Appends-trans out.before out.now out_now (lines_of g.closed) w.lines g.received w.received;
  all = subst (λ (t : List ℕ). AreComplete old.state (record { at = old.at; rest = t }) (lines_of g.closed ++ w.lines))
      (sym (text_after old.ahead g.given (framed g.bytes) new.ahead (g.given ++ w.given) w.given g.cut refl))
      (complete_after old.state g.bytes g.closed old.at new.at (new.ahead ++ w.given) w.lines g.short g.closes
      (subst (λ (s : ClosingState). AreComplete s (record { at = new.at; rest = new.ahead ++ w.given }) w.lines) g.state
      w.all));
}

pub gone : (old new : RunPosition) (input out : Seen) → Goes old new input out → (now out_now : Option (List ℕ))
    (faults out_faults : ℕ) (disk_later disk_failed : Type 0) (end : Status) → (disk_later → disk_failed)
    → FollowedFrom new (over input.now now input.faults_now faults) (over out.now out_now out.faults_now out_faults)
    disk_later end
    → FollowedFrom old (over input.before now input.faults_before faults)
    (over out.before out_now out.faults_before out_faults) disk_failed end
gone old new input out g now out_now faults out_faults disk_later disk_failed end up f = record {
  answered = gone_answered old new input out g input.before input.now out_now out_faults end g.gave f.answered;
  ended = f.ended;
  read_fault = λ e. let h = f.read_fault e in (
    rose_before input.faults_before input.faults_now faults g.input_later h.0,
    gone_lines old new input out g now out_now faults out_faults h.1,
  );
  write_fault = λ e. rose_before out.faults_before out.faults_now out_faults g.out_later (f.write_fault e);
  disk_fault = λ e. up (f.disk_fault e);
  is_end = f.is_end;
}

-- ---- ends

pub record IsLast (end : Status) : Type 0 where
  pub no_read : end ≢ status.ReadFault
  pub no_disk : end ≢ status.DiskFault
  pub no_write : end ≢ status.WriteFault
  pub is_end : IsRecordsEnd end

-- nothing was written
pub cut_answered : (IsOne : List ℕ → Outcome → Type 0) (IsOnePrefix : List ℕ → List ℕ → Type 0)
    (before : Option (List ℕ)) (out : Seen) (end : Status) → Received out [] → IsCutShort end
    → ((bytes : List ℕ) → IsOnePrefix bytes [])
    → IfSome before (λ bytes. Answered (IsOne bytes) (IsOnePrefix bytes) out end)
cut_answered IsOne IsOnePrefix None out end h short empty = tt
cut_answered IsOne IsOnePrefix (Some bytes) out end h short empty = ([], h, inr (short, empty bytes))

unfollowed : (s : ClosingState) (at : ℕ) (ahead : List ℕ) (before : Option (List ℕ)) (out : Seen) (end : Status)
    → Received out [] → IsCutShort end → IfSome before (λ bytes. AnsweredFrom s at (ahead ++ bytes) out end)
unfollowed s at ahead before out end h short =
    cut_answered (λ bytes. IsRun s (record { at = at; rest = ahead ++ bytes }))
    (λ bytes. IsRunPrefix s (record { at = at; rest = ahead ++ bytes })) before out end h short
    (λ bytes. empty_prefix s (record { at = at; rest = ahead ++ bytes }))

pub nothing_followed : (s : ClosingState) (at : ℕ) (ahead : List ℕ) (input out : Seen) (F : Type 0) → Received out []
    → Followed s at ahead input out F status.NoMemory
nothing_followed s at ahead input out F h = record {
  answered = unfollowed s at ahead input.before out status.NoMemory h tt;
  ended = λ e. absurd cc;
  read_fault = λ e. absurd cc;
  write_fault = λ e. absurd cc;
  disk_fault = λ e. absurd cc;
  is_end = tt;
}

-- the volume failed before anything was read
pub volume_failed : (s : ClosingState) (at : ℕ) (ahead : List ℕ) (input out : Seen) (F : Type 0) → Received out [] → F
    → Followed s at ahead input out F status.DiskFault
volume_failed s at ahead input out F h failed = record {
  answered = unfollowed s at ahead input.before out status.DiskFault h tt;
  ended = λ e. absurd cc;
  read_fault = λ e. absurd cc;
  write_fault = λ e. absurd cc;
  disk_fault = λ e. failed;
  is_end = tt;
}

-- the volume may have failed earlier
pub followed_later : (s : ClosingState) (at : ℕ) (ahead : List ℕ) (input out : Seen) (later F : Type 0) (end : Status)
    → (later → F) → Followed s at ahead input out later end → Followed s at ahead input out F end
followed_later s at ahead input out later F end up f = record {
  answered = f.answered;
  ended = f.ended;
  read_fault = f.read_fault;
  write_fault = f.write_fault;
  disk_fault = λ e. up (f.disk_fault e);
  is_end = f.is_end;
}

pub stopped : (s : ClosingState) (at : ℕ) (ahead : List ℕ) (input out : Seen) (F : Type 0) (end : Status) (last :
    Outcome)
    → IfSome input.before (λ bytes. IsEnd s at (ahead ++ bytes) last) → Wrote out last.text last.status end
    → (last.status ≡ status.Done → IsAtEnd input.now) → IsLast last.status → Followed s at ahead input out F end
stopped s at ahead input out F end last ends (inl (e, received)) done is_last = record {
  answered = if_some input.before (λ bytes. IsEnd s at (ahead ++ bytes) last)
      (λ bytes. AnsweredFrom s at (ahead ++ bytes) out end)
      (λ bytes h. (last.text, received, inl (last, ended_run s at (ahead ++ bytes) last h, e, refl))) ends;
  ended = λ d. done (sym e ∙ d);
  read_fault = λ r. absurd (is_last.no_read (sym e ∙ r));
  write_fault = λ r. absurd (is_last.no_write (sym e ∙ r));
  disk_fault = λ r. absurd (is_last.no_disk (sym e ∙ r));
  is_end = subst IsRecordsEnd (sym e) is_last.is_end;
}
stopped s at ahead input out F end last ends (inr (inl (e, failed, prefix))) done is_last = record {
  answered = if_some input.before (λ bytes. IsEnd s at (ahead ++ bytes) last)
      (λ bytes. AnsweredFrom s at (ahead ++ bytes) out end)
      (λ bytes h. (
        take prefix.0 last.text,
        prefix.2,
        inr (
          subst IsCutShort (sym e) tt,
          inr (last, ended_run s at (ahead ++ bytes) last h, (prefix.0, prefix.1, refl)),
        ),
      )) ends;
  ended = λ d. absurd cc;
  read_fault = λ r. absurd cc;
  write_fault = λ r. failed;
  disk_fault = λ r. absurd cc;
  is_end = subst IsRecordsEnd (sym e) tt;
}
stopped s at ahead input out F end last ends (inr (inr (e, none))) done is_last =
    subst (Followed s at ahead input out F) (sym e) (nothing_followed s at ahead input out F none)

-- a read failed, and no complete record is ahead
abbrev ended : Result ℕ XdrFault → Result ℕ XdrFault
ended r = r

pub no_record : (text bytes more : List ℕ) (wrong : XdrFault) → record_end text ≡ Err wrong
    → length bytes ≤ max_record_len → text ≡ framed bytes ++ more → ⊥
no_record text bytes more wrong e fits cut =
    let r = ap (λ (t : List ℕ). read_mark (start_of t)) cut ∙ framed_is_read 0 bytes more fits in
    let both : ended (Err wrong) ≡ Ok (0 + length (framed bytes)) =
    sym e ∙ ap (λ (x : Reading XdrFault (List ℕ)). end_by x) r in
    absurd cc

pub read_failed : (s : ClosingState) (at : ℕ) (ahead new : List ℕ) (input out : Seen) (F : Type 0)
    → Grown input.before input.now ahead new → IsShort record_end new → Failed input → Received out []
    → Followed s at ahead input out F status.ReadFault
read_failed s at ahead new input out F grown short failed h = record {
  answered = unfollowed s at ahead input.before out status.ReadFault h tt;
  ended = λ e. absurd cc;
  read_fault = λ e. (
    failed,
    record {
      given = grown.given;
      gave = grown.gave;
      lines = [];
      received = h;
      all = record {
        ahead = no_records s (record { at = at; rest = ahead ++ grown.given });
        partial = λ bytes more fits cut. no_record new bytes more short.0 short.1 fits (grown.grown ∙ cut);
      };
    },
  );
  write_fault = λ e. absurd cc;
  disk_fault = λ e. absurd cc;
  is_end = tt;
}

pub bad_end : (s : ClosingState) (at : ℕ) (text : List ℕ) (wrong : XdrFault) → 0 < length text
    → read_mark (start_of text) ≡ Err wrong → IsEnd s at text (silent (status.BadInput (at + wrong.at)))
bad_end s at [] wrong some e = absurd (omega arith)
bad_end s at (byte ∷ rest) wrong some e =
    subst (λ (r : Reading XdrFault (List ℕ)). IsStopped s r (silent (status.BadInput (at + wrong.at))))
    (sym (fault_after at (byte ∷ rest) wrong e)) refl

pub bad_mark : (s : ClosingState) (at : ℕ) (ahead new : List ℕ) (input out : Seen) (F : Type 0) (wrong : XdrFault)
    → Grown input.before input.now ahead new → IsBytes new → record_end new ≡ Err wrong
    → (wrong.kind ≡ kind.Short → IsAtEnd input.now) → 0 < length new → Received out []
    → Followed s at ahead input out F (status.BadInput (at + wrong.at))
bad_mark s at ahead new input out F wrong grown fits measured at_end some h =
    let last : Outcome = silent (status.BadInput (at + wrong.at)) in
    let e = end_err (read_mark (start_of new)) wrong measured in
    stopped s at ahead input out F (status.BadInput (at + wrong.at)) last
    (reported_prefix input.before input.now grown.given (λ bytes. IsEnd s at (ahead ++ bytes) last) grown.gave
    (λ others reported. subst (λ (t : List ℕ). IsEnd s at t last)
    (sym (text_of ahead new grown.given others grown.grown))
    (bad_end s at (new ++ others) wrong (omega (arith, some, length-append new others))
    (mark_stays new others input.now wrong fits e at_end reported))))
    (inl (refl, h)) (λ d. absurd cc)
    (record { no_read = λ d. cc; no_disk = λ d. cc; no_write = λ d. cc; is_end = tt })

pub all_done : (s : ClosingState) (at : ℕ) (ahead new : List ℕ) (input out : Seen) (F : Type 0) (end : Status)
    (wrong : XdrFault)
    → Grown input.before input.now ahead new → record_end new ≡ Err wrong
    → (wrong.kind ≡ kind.Short → IsAtEnd input.now) → length new ≡ 0
    → Wrote out (end_line s.header) status.Done end → Followed s at ahead input out F end
all_done s at ahead new input out F end wrong grown measured at_end none wrote =
    let last : Outcome = record { status = status.Done; text = end_line s.header } in
    let empty : new ≡ [] = nil_from_length new none in
    let at_its_end = at_end (empty_is_short wrong (ap record_end (sym empty) ∙ measured)) in
    stopped s at ahead input out F end last
    (reported_prefix input.before input.now grown.given (λ bytes. IsEnd s at (ahead ++ bytes) last) grown.gave
    (λ others reported. subst (λ (t : List ℕ). IsEnd s at t last)
    (sym (text_of ahead new grown.given others grown.grown ∙ ap (λ (t : List ℕ). t ++ others) empty
    ∙ nothing_after_end input.now others at_its_end reported)) refl))
    wrote (λ d. at_its_end) (record { no_read = λ d. cc; no_disk = λ d. cc; no_write = λ d. cc; is_end = tt })

-- ---- what a record yields

pub refused_end : (s : ClosingState) (at : ℕ) (bytes rest : List ℕ) (wrong : CloseFault) → length bytes ≤ max_record_len
    → IsClose s bytes (Err wrong)
    → IsEnd s at (framed bytes ++ rest) (record { status = status.Refused; text = refused_line s.header wrong })
refused_end s at bytes rest wrong fits closes =
    at_record (framed bytes ++ rest) (framed_some bytes rest)
    (framed_is_read at bytes rest fits)
  where
    framed_some : (bytes rest : List ℕ) → 0 < length (framed bytes ++ rest)
    framed_some bytes rest = omega (arith, length-append (framed bytes) rest, framed_above bytes)

    at_record : (text : List ℕ) → 0 < length text
        → read_mark (record { at = at; rest = text })
        ≡ Ok (bytes, record { at = at + length (framed bytes); rest = rest })
        → IsEnd s at text (record { status = status.Refused; text = refused_line s.header wrong })
    at_record [] some e = absurd (omega arith)
    at_record (byte ∷ more) some e =
        subst (λ (r : Reading XdrFault (List ℕ)). IsStopped s r
        (record { status = status.Refused; text = refused_line s.header wrong })) (sym e) (wrong, closes, refl)

cut_short : (out : Seen) (F : Type 0) (end : Status) → IsCut out F end → IsCutShort end
cut_short out F status.WriteFault h = tt
cut_short out F status.DiskFault h = tt
cut_short out F status.NoMemory h = tt
cut_short out F status.ReadFault h = tt
cut_short out F status.Done h = absurd h
cut_short out F status.Usage h = absurd h
cut_short out F status.Refused h = absurd h
cut_short out F (status.BadStore file offset) h = absurd h
cut_short out F (status.BadInput at) h = absurd h
cut_short out F (status.BadImage rule) h = absurd h
cut_short out F status.Missing h = absurd h
cut_short out F status.AlreadyThere h = absurd h
cut_short out F status.TooLarge h = absurd h

not_done : (out : Seen) (F : Type 0) (end : Status) → IsCut out F end → end ≡ status.Done → ⊥
not_done out F end h e = subst (λ (x : Status). IsCut out F x) e h

not_read : (out : Seen) (F : Type 0) (end : Status) → IsCut out F end → end ≡ status.ReadFault → ⊥
not_read out F end h e = subst (λ (x : Status). IsCut out F x) e h

cut_end : (out : Seen) (F : Type 0) (end : Status) → IsCut out F end → IsRecordsEnd end
cut_end out F status.WriteFault h = tt
cut_end out F status.DiskFault h = tt
cut_end out F status.NoMemory h = tt
cut_end out F status.ReadFault h = tt
cut_end out F status.Done h = tt
cut_end out F status.Usage h = absurd h
cut_end out F status.Refused h = tt
cut_end out F (status.BadStore file offset) h = absurd h
cut_end out F (status.BadInput at) h = tt
cut_end out F (status.BadImage rule) h = absurd h
cut_end out F status.Missing h = absurd h
cut_end out F status.AlreadyThere h = absurd h
cut_end out F status.TooLarge h = absurd h

-- a record closes the ledger, and a prefix of its lines was written
pub cut_answer : (s : ClosingState) (bytes : List ℕ) (c : PreparedClose) (at : ℕ) (others prefix : List ℕ)
    (end : Status)
    → length bytes ≤ max_record_len → IsClose s bytes (Ok c) → IsCutShort end → IsPrefix prefix (lines_of c)
    → AnswerFrom s at (framed bytes ++ others) prefix end
cut_answer s bytes c at others prefix end fits closes short f = inr (
  short,
  inl (
    lines_of c ++ [],
    one_more s bytes c at at others [] fits closes (no_records c.state (record { at = at; rest = others })),
    prefix_more prefix (lines_of c) [] f,
  ),
)

pub record_stops : (s : ClosingState) (at : ℕ) (ahead new rest bytes : List ℕ) (input out : Seen) (F : Type 0)
    (end : Status)
    → Grown input.before input.now ahead new → new ≡ framed bytes ++ rest → length bytes ≤ max_record_len
    → Stops s bytes out F end → Followed s at ahead input out F end
record_stops s at ahead new rest bytes input out F end grown cut fits (inl (c, closes, why, prefix)) = record {
  answered = reported_prefix input.before input.now grown.given (λ given. AnsweredFrom s at (ahead ++ given) out end)
      grown.gave
      (λ others reported. subst (λ (t : List ℕ). AnsweredFrom s at t out end)
      (sym (prefix_text ahead new grown.given (framed bytes) rest others grown.grown cut)) (
        take prefix.0 (lines_of c),
        prefix.2,
        cut_answer s bytes c at (rest ++ others) (take prefix.0 (lines_of c)) end fits closes (cut_short out F end why)
            (prefix.0, prefix.1, refl),
      ));
  ended = λ d. absurd (not_done out F end why d);
  read_fault = λ d. absurd (not_read out F end why d);
  write_fault = λ d. subst (λ (e : Status). IsCut out F e) d why;
  disk_fault = λ d. subst (λ (e : Status). IsCut out F e) d why;
  is_end = cut_end out F end why;
}
record_stops s at ahead new rest bytes input out F end grown cut fits (inr (inl (wrong, closes, wrote))) =
    let last : Outcome = record { status = status.Refused; text = refused_line s.header wrong } in
    stopped s at ahead input out F end last
    (reported_prefix input.before input.now grown.given (λ given. IsEnd s at (ahead ++ given) last) grown.gave
    (λ others reported. subst (λ (t : List ℕ). IsEnd s at t last)
    (sym (prefix_text ahead new grown.given (framed bytes) rest others grown.grown cut))
    (refused_end s at bytes (rest ++ others) wrong fits closes)))
    wrote (λ d. absurd cc) (record { no_read = λ d. cc; no_disk = λ d. cc; no_write = λ d. cc; is_end = tt })
record_stops s at ahead new rest bytes input out F end grown cut fits (inr (inr (e, h))) =
    subst (Followed s at ahead input out F) (sym e) (nothing_followed s at ahead input out F h)

-- ---- the answers of the parts

pub closes_of : (s : ClosingState) (bytes : List ℕ) (c : PreparedClose) (next : ClosingState) (out : Seen) (F : Type 0)
    (r : Option Status) → IsClose s bytes (Ok c) → next ≡ c.state → WroteClose (lines_of c) out F r
    → Closes s bytes next out F r
closes_of s bytes c next out F None closes same w = (c, closes, same, w)
closes_of s bytes c next out F (Some end) closes same w = inl (c, closes, w.0, w.1)

pub refuses_of : (header : LedgerHeader) (out : Seen) (wrong : CloseFault) (end : Status) → (wrong ≡ close.NoMemory → ⊥)
    → Wrote out (refused_line header wrong) status.Refused end → Refuses header out wrong end
refuses_of header out close.NoMemory end other w = absurd (other refl)
refuses_of header out close.SeqEnd end other w = w
refuses_of header out (close.BadXdr at kind) end other w = w
refuses_of header out (close.WrongSeq want given) end other w = w
refuses_of header out (close.WrongPrevious have given) end other w = w
refuses_of header out (close.WrongSetHash have given) end other w = w
refuses_of header out (close.StaleTime last given) end other w = w
refuses_of header out (close.BadUpgrade index) end other w = w
refuses_of header out (close.UpgradeOutOfProfile index) end other w = w
refuses_of header out (close.FeeSourceMissing index) end other w = w
refuses_of header out (close.LedgerFull total) end other w = w

pub stops_of : (s : ClosingState) (bytes : List ℕ) (out : Seen) (F : Type 0) (wrong : CloseFault) (end : Status)
    → FaultIs wrong (λ f. IsClose s bytes (Err f)) → Refuses s.header out wrong end → Stops s bytes out F end
stops_of s bytes out F close.NoMemory end h r = inr (inr r)
stops_of s bytes out F close.SeqEnd end h r = inr (inl (close.SeqEnd, h, r))
stops_of s bytes out F (close.BadXdr at kind) end h r = inr (inl ((close.BadXdr at kind), h, r))
stops_of s bytes out F (close.WrongSeq want given) end h r = inr (inl ((close.WrongSeq want given), h, r))
stops_of s bytes out F (close.WrongPrevious have given) end h r = inr (inl ((close.WrongPrevious have given), h, r))
stops_of s bytes out F (close.WrongSetHash have given) end h r = inr (inl ((close.WrongSetHash have given), h, r))
stops_of s bytes out F (close.StaleTime last given) end h r = inr (inl ((close.StaleTime last given), h, r))
stops_of s bytes out F (close.BadUpgrade index) end h r = inr (inl ((close.BadUpgrade index), h, r))
stops_of s bytes out F (close.UpgradeOutOfProfile index) end h r = inr (inl ((close.UpgradeOutOfProfile index), h, r))
stops_of s bytes out F (close.FeeSourceMissing index) end h r = inr (inl ((close.FeeSourceMissing index), h, r))
stops_of s bytes out F (close.LedgerFull total) end h r = inr (inl ((close.LedgerFull total), h, r))

-- a fault of a device that came later came before the end too
cut_wider : (out : Seen) (F G : Type 0) (end : Status) → (F → G) → IsCut out F end → IsCut out G end
cut_wider out F G status.WriteFault wider cut = cut
cut_wider out F G status.DiskFault wider cut = wider cut
cut_wider out F G status.NoMemory wider cut = cut
cut_wider out F G status.Done wider cut = absurd cut
cut_wider out F G status.Usage wider cut = absurd cut
cut_wider out F G status.Refused wider cut = absurd cut
cut_wider out F G status.ReadFault wider cut = absurd cut
cut_wider out F G (status.BadStore file offset) wider cut = absurd cut
cut_wider out F G (status.BadInput at) wider cut = absurd cut
cut_wider out F G (status.BadImage rule) wider cut = absurd cut
cut_wider out F G status.Missing wider cut = absurd cut
cut_wider out F G status.AlreadyThere wider cut = absurd cut
cut_wider out F G status.TooLarge wider cut = absurd cut

-- a record closed the ledger, and its lines were written
pub closed_written : (s : ClosingState) (bytes : List ℕ) (closed : PreparedClose) (next : ClosingState) (out : Seen)
    (F G : Type 0) (r : Option Status) → IsClose s bytes (Ok closed) → next ≡ closed.state → (F → G)
    → WroteClose (lines_of closed) out F r → Closes s bytes next out G r
closed_written s bytes closed next out F G None closes same wider reported = (closed, closes, same, reported)
closed_written s bytes closed next out F G (Some end) closes same wider reported =
    inl (closed, closes, cut_wider out F G end wider reported.0, reported.1)

-- a record was ahead
pub turned_at : (s : ClosingState) (at : ℕ) (ahead mid : List ℕ) (end : ℕ) (next : ClosingState) (new : List ℕ)
    (input out : Seen) (F : Type 0) (r : Option Status) → IsBytes mid → Grown input.before input.now ahead mid
    → record_end mid ≡ Ok end → Passes s mid end next out F r → (IsNone r → new ≡ drop end mid)
    → input.faults_before ≤ input.faults_now → out.faults_before ≤ out.faults_now
    → s.header.ledger_seq ≤ last_seq
    → Turned (record { state = s; at = at; ahead = ahead }) (record { state = next; at = at + end; ahead = new })
    input out F r
turned_at s at ahead mid end next new input out F None fits grown measured p rest input_later out_later low =
    let f = prefix_of mid end fits measured in
    let cut : ahead ++ grown.given ≡ framed p.bytes ++ new =
    sym grown.grown ∙ f.entire ∙ ap (λ (t : List ℕ). t ++ drop end mid) (f.framed_is ∙ sym p.framed_is)
    ∙ ap (λ (t : List ℕ). framed p.bytes ++ t) (sym (rest refl)) in
    let len : end ≡ length (framed p.bytes) = f.len ∙ ap length (f.framed_is ∙ sym p.framed_is) in
    record {
      bytes = p.bytes;
      short = p.short;
      closed = p.closes.0;
      closes = p.closes.1;
      state = p.closes.2;
      given = grown.given;
      gave = grown.gave;
      cut = cut;
      at = ap (λ (n : ℕ). at + n) len;
      received = p.closes.3;
      input_later = input_later;
      out_later = out_later;
      low = low;
    }
turned_at s at ahead mid end next new input out F (Some last) fits grown measured p rest input_later out_later low =
    let f = prefix_of mid end fits measured in
    record_stops s at ahead mid (drop end mid) p.bytes input out F last grown
    (f.entire ∙ ap (λ (t : List ℕ). t ++ drop end mid) (f.framed_is ∙ sym p.framed_is)) p.short p.closes

-- no record was ahead
pub turned_off : (s : ClosingState) (at : ℕ) (ahead mid : List ℕ) (input out : Seen) (F : Type 0) (why :
    PieceFault) (end : Status)
    → IsBytes mid
    → IsPiece record_end input.before input.now input.faults_before input.faults_now ahead mid (Err why)
    → EndsAt s at mid out why end → Followed s at ahead input out F end
turned_off s at ahead mid input out F (piece.Xdr wrong) end fits h e = elim (empty_or_some mid) [
  | inl none ↦ all_done s at ahead mid input out F end wrong h.0 h.1 h.2 none (e.0 none)
  | inr some ↦ let bad = e.1 some in
      subst (Followed s at ahead input out F) (sym bad.0)
      (bad_mark s at ahead mid input out F wrong h.0 fits h.1 h.2 some bad.1)
]
turned_off s at ahead mid input out F piece.Failed end fits h e =
    subst (Followed s at ahead input out F) (sym e.0) (read_failed s at ahead mid input out F h.0 h.1 h.2 e.1)
turned_off s at ahead mid input out F piece.NoMemory end fits h e =
    subst (Followed s at ahead input out F) (sym e.0) (nothing_followed s at ahead input out F e.1)

-- ---- numbers of ledgers

goes_seq : (old new : RunPosition) (input out : Seen) (g : Goes old new input out)
    → new.state.header.ledger_seq ≡ old.state.header.ledger_seq + 1
goes_seq old new input out g =
    ap (λ (s : ClosingState). s.header.ledger_seq) g.state ∙ next_seq old.state g.bytes g.closed g.closes

pub goes_smaller : (old new : RunPosition) (input out : Seen) → Goes old new input out
    → 2147483648 - new.state.header.ledger_seq < 2147483648 - old.state.header.ledger_seq
goes_smaller old new input out g = omega (arith, goes_seq old new input out g, g.low)

pub goes_low : (old new : RunPosition) (input out : Seen) → Goes old new input out
    → old.at ≤ (old.state.header.ledger_seq + 1) * 2 ^ 64 → new.at ≤ (new.state.header.ledger_seq + 1) * 2 ^ 64
goes_low old new input out g h =
    low_after old.at (length (framed g.bytes)) new.at old.state.header.ledger_seq new.state.header.ledger_seq h
    (omega (arith, framed_len g.bytes, g.short)) g.at (goes_seq old new input out g)
