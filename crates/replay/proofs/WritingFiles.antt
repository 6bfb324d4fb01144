-- A run that writes a file, from its start image on.
use Rattle.replay.proofs.Prelude.{◌≡◌, ℕ, List, [], ◌++◌, Option, Some, None, IfSome, Ok, Err, refl, sym, ap, subst}
use Rattle.replay.proofs.Prelude.{◌∙◌, inl}
use Rattle.replay.proofs.Prelude.{inr, ◌⊎◌, Consumes, Hash, Position, Reading, XdrFault, StartImage, network_id_of}
use Rattle.replay.proofs.Prelude.{ClosingState, IsJudged, ImageRule, Seen, Failed, Received, Status, Cut, IsBarred}
use Rattle.replay.proofs.Prelude.{IsFaulty, IsJudgedSo, IsReportedSo, IsUncut, StartsAt, ImageFault, Result}
use Rattle.stored_outcome.specs.close_rules.declared.image_fault.ImageFault.TheVariants as image_fault
use Rattle.stored_outcome.specs.run_outcome.declared.status.Status.TheVariants as status
use Rattle.stored_outcome.specs.run_outcome.FileRun.{DidWriteFile, FileKind, FileOutcome, IsFileAnswer, IsFileOutcome}
use Rattle.stored_outcome.specs.run_outcome.FileRun.{IsFileOutcomeOf, IsFilePrefix, IsFileRun, IsFileRunEnd}
use Rattle.stored_outcome.specs.run_outcome.FileRun.{without_file}
use Rattle.reports.specs.Writing.{IsFileRecordsEnd, WritesFile}
use Rattle.reports.proofs.Ending.{AnswersFile, bad_image_is_silent, bad_input_is_silent, memory_reported, read_reported}
use Rattle.reports.proofs.Ending.{silent_reported}
use Rattle.reports.proofs.Streams.{if_some, known_before, over, reported_prefix, rose_before}
use Rattle.replay.proofs.Starts.{prefix_reading}

-- ---- after a start image

pub answer_by : (P Q : FileOutcome → Type 0) (out err : Seen) (end : Status) → ((o : FileOutcome) → P o → Q o)
    → IsFileAnswer P out err end → IsFileAnswer Q out err end
answer_by P Q out err end f (inl (o, is, e, received, line)) = inl (o, f o is, e, received, line)
answer_by P Q out err end f (inr (inl h)) = inr (inl h)
answer_by P Q out err end f (inr (inr (cut, (text, received, inl none)))) = inr (inr (cut, (text, received, inl none)))
answer_by P Q out err end f (inr (inr (cut, (text, received, inr (o, is, prefix))))) =
    inr (inr (cut, (text, received, inr (o, f o is, prefix))))

pub prefix_by : (One Other : FileOutcome → Type 0) (text : List ℕ) → ((o : FileOutcome) → One o → Other o)
    → IsFilePrefix One text → IsFilePrefix Other text
prefix_by One Other text f (inl none) = inl none
prefix_by One Other text f (inr (o, is, prefix)) = inr (o, f o is, prefix)

run_end : (kind : FileKind) (end : Status) → IsFileRecordsEnd kind end → IsFileRunEnd kind end
run_end kind status.Done is = tt
run_end kind status.Refused is = tt
run_end kind status.ReadFault is = tt
run_end kind status.WriteFault is = tt
run_end kind status.NoMemory is = tt
run_end kind (status.BadInput at) is = tt
run_end kind status.TooLarge is = is
run_end kind status.Usage is = absurd is
run_end kind status.DiskFault is = absurd is
run_end kind (status.BadStore file offset) is = absurd is
run_end kind (status.BadImage rule) is = absurd is
run_end kind status.Missing is = absurd is
run_end kind status.AlreadyThere is = absurd is

-- the outcome of an input is that of the records after its image
pub outcome_of : (kind : FileKind) (passphrase : List ℕ) (s : ClosingState) (at : ℕ) (ahead others : List ℕ)
    (input : Seen) (start : StartsAt passphrase s at ahead input) (o : FileOutcome)
    → IsFileRun kind s (record { at = at; rest = ahead ++ others }) o
    → IsFileOutcome kind passphrase ((start.cut.prefix ++ ahead) ++ others) o
outcome_of kind passphrase s at ahead others input start o run =
    subst (λ (r : Reading XdrFault StartImage). IsFileOutcomeOf kind (network_id_of passphrase) r o)
    (sym (prefix_reading start.image at ahead others input start.cut)) (Ok s, start.judged, run)

-- what is left in the source after an image, of which these bytes are ahead
abbrev pub RunAfter : FileKind → ClosingState → (at : ℕ) → (ahead bytes : List ℕ) → FileOutcome → Type 0
RunAfter kind s at ahead bytes o = IsFileRun kind s (record { at = at; rest = ahead ++ bytes }) o

-- what is known of the outcomes of the records after an image is known of those of the input
pub known_of_input : (kind : FileKind) (passphrase : List ℕ) (s : ClosingState) (at : ℕ) (ahead : List ℕ) (input : Seen)
    (P : (FileOutcome → Type 0) → Type 0) → StartsAt passphrase s at ahead input
    → ((One Other : FileOutcome → Type 0) → ((o : FileOutcome) → One o → Other o) → P One → P Other)
    → IfSome input.now (λ bytes. P (RunAfter kind s at ahead bytes))
    → IfSome input.before (λ bytes. P (IsFileOutcome kind passphrase bytes))
known_of_input kind passphrase s at ahead input P start grows known =
    known_before input.before input.now (start.cut.prefix ++ ahead)
    (λ bytes. P (RunAfter kind s at ahead bytes)) (λ bytes. P (IsFileOutcome kind passphrase bytes)) start.cut.gave
    (λ others h. grows (RunAfter kind s at ahead others)
    (IsFileOutcome kind passphrase ((start.cut.prefix ++ ahead) ++ others))
    (λ o run. outcome_of kind passphrase s at ahead others input start o run) h) known

pub did_write : (kind : FileKind) (passphrase : List ℕ) (s : ClosingState) (at : ℕ) (ahead : List ℕ)
    (input out err : Seen) (now : Option (List ℕ)) (faults : ℕ) (end : Status) → StartsAt passphrase s at ahead input
    → WritesFile kind s at ahead (over input.now now input.faults_now faults) out err end
    → DidWriteFile kind passphrase (over input.before now input.faults_before faults) out err end
did_write kind passphrase s at ahead input out err now faults end start w = record {
  answered = known_of_input kind passphrase s at ahead input (λ One. IsFileAnswer One out err end) start
      (λ One Other f h. answer_by One Other out err end f h) w.answered;
  ended = w.ended;
  unwritten = w.unwritten;
  read_fault = λ e. rose_before input.faults_before input.faults_now faults start.cut.later (w.read_fault e);
  write_fault = w.write_fault;
  is_end = run_end kind end w.is_end;
  reported = w.reported;
}

-- ---- without one

pub faulty_file : (kind : FileKind) (passphrase : List ℕ) (at : ℕ) (before : Option (List ℕ))
    → IfSome before (IsFaulty at)
    → IfSome before (λ bytes. IsFileOutcome kind passphrase bytes (without_file (status.BadInput at)))
faulty_file kind passphrase at before faulty =
    if_some before (IsFaulty at)
    (λ bytes. IsFileOutcome kind passphrase bytes (without_file (status.BadInput at)))
    (λ bytes h. subst (λ (r : Reading XdrFault StartImage). IsFileOutcomeOf kind (network_id_of passphrase) r
    (without_file (status.BadInput at)))
    (sym h.1) (ap (λ (n : ℕ). without_file (status.BadInput n)) h.2)) faulty

-- the image breaks a rule
pub unjudged_file : (kind : FileKind) (passphrase : List ℕ) (image : StartImage) (at : ℕ) (ahead : List ℕ)
    (input : Seen) (rule : ImageRule) → Cut image at ahead input
    → IsJudged (network_id_of passphrase) image (Err (image_fault.BadImage rule))
    → IfSome input.before (λ bytes. IsFileOutcome kind passphrase bytes (without_file (status.BadImage rule)))
unjudged_file kind passphrase image at ahead input rule c is =
    reported_prefix input.before input.now (c.prefix ++ ahead)
    (λ bytes. IsFileOutcome kind passphrase bytes (without_file (status.BadImage rule))) c.gave
    (λ others reported. subst (λ (r : Reading XdrFault StartImage). IsFileOutcomeOf kind (network_id_of passphrase) r
    (without_file (status.BadImage rule)))
    (sym (prefix_reading image at ahead others input c)) (Err (image_fault.BadImage rule), is, refl))

-- why no record was looked at: an outcome without a text, a read that failed, or memory that was refused
abbrev pub IsStartFault : (IsOne : List ℕ → FileOutcome → Type 0) → (input : Seen) → Status → Type 0
IsStartFault IsOne input (status.BadInput at) =
    IfSome input.before (λ bytes. IsOne bytes (without_file (status.BadInput at)))
IsStartFault IsOne input (status.BadImage rule) =
    IfSome input.before (λ bytes. IsOne bytes (without_file (status.BadImage rule)))
IsStartFault IsOne input status.ReadFault = Failed input
IsStartFault IsOne input status.NoMemory = Unit {0}
IsStartFault IsOne input other = ⊥

uncut_fault : (kind : FileKind) (passphrase : List ℕ) (input : Seen) (why : Status) → IsUncut input why
    → IsStartFault (IsFileOutcome kind passphrase) input why
uncut_fault kind passphrase input (status.BadInput at) h = faulty_file kind passphrase at input.before h
uncut_fault kind passphrase input status.ReadFault h = h.0
uncut_fault kind passphrase input status.NoMemory h = tt
uncut_fault kind passphrase input status.Done h = absurd h
uncut_fault kind passphrase input status.Usage h = absurd h
uncut_fault kind passphrase input status.Refused h = absurd h
uncut_fault kind passphrase input status.WriteFault h = absurd h
uncut_fault kind passphrase input status.DiskFault h = absurd h
uncut_fault kind passphrase input (status.BadStore file offset) h = absurd h
uncut_fault kind passphrase input (status.BadImage rule) h = absurd h
uncut_fault kind passphrase input status.Missing h = absurd h
uncut_fault kind passphrase input status.AlreadyThere h = absurd h
uncut_fault kind passphrase input status.TooLarge h = absurd h

unjudged_fault : (kind : FileKind) (passphrase : List ℕ) (image : StartImage) (at : ℕ) (ahead : List ℕ) (input : Seen)
    (why : Status) → Cut image at ahead input → IsJudgedSo (network_id_of passphrase) image (Err why)
    → IsStartFault (IsFileOutcome kind passphrase) input why
unjudged_fault kind passphrase image at ahead input (status.BadImage rule) c is =
    unjudged_file kind passphrase image at ahead input rule c is
unjudged_fault kind passphrase image at ahead input status.NoMemory c is = tt
unjudged_fault kind passphrase image at ahead input status.Done c is = absurd cc
unjudged_fault kind passphrase image at ahead input status.Usage c is = absurd cc
unjudged_fault kind passphrase image at ahead input status.Refused c is = absurd cc
unjudged_fault kind passphrase image at ahead input status.ReadFault c is = absurd cc
unjudged_fault kind passphrase image at ahead input status.WriteFault c is = absurd cc
unjudged_fault kind passphrase image at ahead input status.DiskFault c is = absurd cc
unjudged_fault kind passphrase image at ahead input (status.BadStore file offset) c is = absurd cc
unjudged_fault kind passphrase image at ahead input (status.BadInput wrong) c is = absurd cc
unjudged_fault kind passphrase image at ahead input status.Missing c is = absurd cc
unjudged_fault kind passphrase image at ahead input status.AlreadyThere c is = absurd cc
unjudged_fault kind passphrase image at ahead input status.TooLarge c is = absurd cc

pub start_fault : (kind : FileKind) (passphrase : List ℕ) (input : Seen) (why : Status) → IsBarred passphrase input why
    → IsStartFault (IsFileOutcome kind passphrase) input why
start_fault kind passphrase input why (inl uncut) = uncut_fault kind passphrase input why uncut
start_fault kind passphrase input why (inr (image, at, ahead, c, is)) =
    unjudged_fault kind passphrase image at ahead input why c is

did_write_so : (kind : FileKind) (passphrase : List ℕ) (input out err : Seen) (end : Status)
    → AnswersFile (IsFileOutcome kind passphrase) (IsFileRunEnd kind) input out err end
    → DidWriteFile kind passphrase input out err end
did_write_so kind passphrase input out err end a = record {
  answered = a.answered;
  ended = a.ended;
  unwritten = a.unwritten;
  read_fault = a.read_fault;
  write_fault = a.write_fault;
  is_end = a.is_end;
  reported = a.reported;
}

-- nothing but the line of the end was written
fault_reported : (kind : FileKind) (IsOne : List ℕ → FileOutcome → Type 0) (input out err : Seen) (why end : Status)
    → IsStartFault IsOne input why → Received out [] → IsReportedSo why err end
    → AnswersFile IsOne (IsFileRunEnd kind) input out err end
fault_reported kind IsOne input out err (status.BadInput at) end one received reported =
    silent_reported IsOne (IsFileRunEnd kind) input out err tt tt (status.BadInput at) end
    (bad_input_is_silent (IsFileRunEnd kind) err at tt) one received reported
fault_reported kind IsOne input out err (status.BadImage rule) end one received reported =
    silent_reported IsOne (IsFileRunEnd kind) input out err tt tt (status.BadImage rule) end
    (bad_image_is_silent (IsFileRunEnd kind) err rule tt) one received reported
fault_reported kind IsOne input out err status.ReadFault end failed received reported =
    read_reported IsOne (IsFileRunEnd kind) input out err tt tt end tt failed received reported
fault_reported kind IsOne input out err status.NoMemory end h received reported =
    memory_reported IsOne (IsFileRunEnd kind) input out err tt tt end received reported
fault_reported kind IsOne input out err status.Done end h received reported = absurd h
fault_reported kind IsOne input out err status.Usage end h received reported = absurd h
fault_reported kind IsOne input out err status.Refused end h received reported = absurd h
fault_reported kind IsOne input out err status.WriteFault end h received reported = absurd h
fault_reported kind IsOne input out err status.DiskFault end h received reported = absurd h
fault_reported kind IsOne input out err (status.BadStore file offset) end h received reported = absurd h
fault_reported kind IsOne input out err status.Missing end h received reported = absurd h
fault_reported kind IsOne input out err status.AlreadyThere end h received reported = absurd h
fault_reported kind IsOne input out err status.TooLarge end h received reported = absurd h

pub did_not_write : (kind : FileKind) (passphrase : List ℕ) (input out err : Seen) (why end : Status)
    → IsBarred passphrase input why → Received out [] → IsReportedSo why err end
    → DidWriteFile kind passphrase input out err end
did_not_write kind passphrase input out err why end barred received reported =
    did_write_so kind passphrase input out err end
    (fault_reported kind (IsFileOutcome kind passphrase) input out err why end
    (start_fault kind passphrase input why barred) received reported)
