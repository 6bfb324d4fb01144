-- What a start image that an input begins with yields.
use Rattle.replay.proofs.Prelude.{◌≡◌, ℕ, ◌^◌, ◌<◌, ◌≤◌, List, [], ◌++◌, length, drop, Option, Some, None, IfSome}
use Rattle.replay.proofs.Prelude.{Result, Ok, Err, refl, sym, ap, subst, ◌∙◌, append_assoc, append-nil, zero-add, arith}
use Rattle.replay.proofs.Prelude.{inl, inr, Consumes, IsAtEnd, Consumes-trans, Seen, Failed, Received, Grown, end_by}
use Rattle.replay.proofs.Prelude.{image_end, IsShort, Hash, XdrFault, Short, Position, Reading, start_of, IsBytes}
use Rattle.replay.proofs.Prelude.{faults_located, StartImage, start_image, network_id_of, ImageFault, ClosingState}
use Rattle.replay.proofs.Prelude.{IsJudged, Status, IsCutShort, IsRecordsEnd, IsCatchUpEnd, silent, IsRun, IsStarted}
use Rattle.replay.proofs.Prelude.{IsOutcomeOf, IsOutcome, AreLinesOf, IsRunPrefix, IsOutputPrefixOf, IsOutputPrefix}
use Rattle.replay.proofs.Prelude.{Answered, AnsweredTo, AnsweredFrom, Followed, Cut, CaughtUp, IsFaulty, GaveNoImage}
use Rattle.replay.proofs.Prelude.{IsBarred, IsUncut, IsUnstarted, IsJudgedSo, StartsAt, drop_at}
use Rattle.xdr_header.proofs.ImageLaws.{start_image_laws}
use Rattle.record_stream.specs.Layouts.{IsTaken}
use Rattle.stored_outcome.specs.close_rules.declared.image_fault.ImageFault.TheVariants as image_fault
use Rattle.stored_outcome.specs.run_outcome.declared.status.Status.TheVariants as status
use Rattle.replay.proofs.Turning.{cut_answered}
use Rattle.reports.proofs.Streams.{nothing_after_end, over, reported_prefix, rose_before, short_or_not}

abbrev read_image : List ℕ → Reading XdrFault StartImage
read_image text = start_image.read (start_of text)

-- ---- an image at the start

end_ok : (r : Reading XdrFault StartImage) (end : ℕ) → end_by r ≡ Ok end
    → (x : StartImage × Position) × (r ≡ Ok x) × (x.1.at ≡ end)
end_ok (Ok x) end e = (x, refl, cc)
end_ok (Err wrong) end e = absurd cc

end_err : (r : Reading XdrFault StartImage) (wrong : XdrFault) → end_by r ≡ Err wrong → r ≡ Err wrong
end_err (Ok x) wrong e = absurd cc
end_err (Err other) wrong e = cc

abbrev ended : Result ℕ XdrFault → Result ℕ XdrFault
ended r = r

at_of : (at : ℕ) (q : Position) → ended (Ok at) ≡ Ok q.at → at ≡ q.at
at_of at q e = cc

image_cut : (input : Seen) (new : List ℕ) (at : ℕ) (image : StartImage) (q : Position)
    → Grown input.before input.now [] new → IsBytes new → image_end new ≡ Ok at → at < 2 ^ 64
    → read_image new ≡ Ok (image, q) → input.faults_before ≤ input.faults_now → Cut image at (drop at new) input
image_cut input new at image q grown fits measured low e later =
    let s = start_image_laws.lawful.takes (start_of new) q image fits e in
    let prefix : List ℕ = start_image.encoding image in
    let len : at ≡ length prefix =
    at_of at q (sym measured ∙ ap (λ (r : Reading XdrFault StartImage). end_by r) e) ∙ s.taken.at
    ∙ zero-add (length prefix) in
    let parts : new ≡ prefix ++ q.rest = s.taken.parts in
    let rest : drop at new ≡ q.rest = ap (drop at) parts ∙ drop_at prefix q.rest at (sym len) in
    let given : grown.given ≡ prefix ++ drop at new =
    sym grown.grown ∙ parts ∙ ap (λ (t : List ℕ). prefix ++ t) (sym rest) in
    record {
      prefix = prefix;
      begins = λ rest. start_image_laws.lawful.again 0 image rest s.within s.sized
          ∙ ap (λ (n : ℕ). Ok (image, record { at = n; rest = rest })) (zero-add (length prefix));
      within = s.within;
      len = len;
      low = omega (arith, low);
      gave = subst (λ (t : List ℕ). Consumes input.before input.now t) given grown.gave;
      later = later;
    }

pub image_taken : (input : Seen) (new left : List ℕ) (at : ℕ) (image : StartImage) → IsTaken new left image
    → Grown input.before input.now [] new → IsBytes new → image_end new ≡ Ok at → at < 2 ^ 64
    → input.faults_before ≤ input.faults_now → Cut image at left input
image_taken input new left at image taken grown fits measured low later =
    let ends : at ≡ taken.after.at =
    at_of at taken.after (sym measured ∙ ap (λ (r : Reading XdrFault StartImage). end_by r) taken.reads) in
    subst (λ (t : List ℕ). Cut image at t input)
    (ap (λ (n : ℕ). drop n new) ends ∙ sym taken.following)
    (image_cut input new at image taken.after grown fits measured low taken.reads later)

-- ---- runs that wrote nothing

empty_output : (network : Hash) (r : Reading XdrFault StartImage) → IsOutputPrefixOf network r []
empty_output network (Err wrong) = refl
empty_output network (Ok x) = inl refl

unwritten : (passphrase : List ℕ) (input out : Seen) (end : Status) → IsCutShort end → Received out []
    → IfSome input.before (λ bytes. AnsweredTo passphrase bytes out end)
unwritten passphrase input out end short h =
    cut_answered (IsOutcome passphrase) (IsOutputPrefix passphrase) input.before out end h short
    (λ bytes. empty_output (network_id_of passphrase) (read_image bytes))

pub unread_memory : (passphrase : List ℕ) (input : Seen) → IsUnstarted passphrase input status.NoMemory
unread_memory passphrase input out h = record {
  answered = unwritten passphrase input out status.NoMemory tt h;
  bad_image = λ rule e. h;
  ended = λ e. absurd cc;
  read_fault = λ e. absurd cc;
  write_fault = λ e. absurd cc;
  is_end = tt;
}

-- an outcome that has no text
silent_end : (passphrase : List ℕ) (input out : Seen) (end : Status) → Received out []
    → IfSome input.before (λ bytes. IsOutcome passphrase bytes (silent end))
    → IfSome input.before (λ bytes. AnsweredTo passphrase bytes out end)
silent_end passphrase input out end h ends = answered_by input.before ends
  where
    answered_by : (before : Option (List ℕ)) → IfSome before (λ bytes. IsOutcome passphrase bytes (silent end))
        → IfSome before (λ bytes. AnsweredTo passphrase bytes out end)
    answered_by None i = tt
    answered_by (Some bytes) i = ([], h, inl (silent end, i, refl, refl))

-- a fault stays where more bytes follow, if they can
fault_stays : (new others : List ℕ) (now : Option (List ℕ)) (wrong : XdrFault) → IsBytes new
    → read_image new ≡ Err wrong → (wrong.kind ≡ Short → IsAtEnd now) → now ≡ Some others
    → read_image (new ++ others) ≡ Err wrong
fault_stays new others now wrong fits e at_end reported = elim (short_or_not wrong.kind) [
  | inl short ↦ ap (λ (t : List ℕ). read_image (new ++ t)) (nothing_after_end now others (at_end short) reported)
      ∙ ap read_image (append-nil new) ∙ e
  | inr other ↦ (faults_located start_image_laws).stays (start_of new) wrong others fits e other
]

pub uncut_bad : (input : Seen) (new : List ℕ) (wrong : XdrFault) → Grown input.before input.now [] new → IsBytes new
    → image_end new ≡ Err wrong → (wrong.kind ≡ Short → IsAtEnd input.now) → IsUncut input (status.BadInput wrong.at)
uncut_bad input new wrong grown fits measured at_end =
    let e = end_err (read_image new) wrong measured in
    reported_prefix input.before input.now grown.given (λ bytes. IsFaulty wrong.at bytes) grown.gave
    (λ others reported. subst (λ (t : List ℕ). IsFaulty wrong.at (t ++ others)) grown.grown
    (wrong, fault_stays new others input.now wrong fits e at_end reported, refl))

pub uncut_failed : (input : Seen) (new : List ℕ) → Grown input.before input.now [] new → IsShort image_end new
    → Failed input → IsUncut input status.ReadFault
uncut_failed input new grown short failed = (
  failed,
  record {
    given = grown.given;
    gave = grown.gave;
    wrong = short.0;
    reads = ap read_image (sym grown.grown) ∙ end_err (read_image new) short.0 short.1;
  },
)

-- ---- the end of a run whose image wasn't cut

faulty_outcome : (passphrase : List ℕ) (at : ℕ) (before : Option (List ℕ)) → IfSome before (IsFaulty at)
    → IfSome before (λ bytes. IsOutcome passphrase bytes (silent (status.BadInput at)))
faulty_outcome passphrase at None h = tt
faulty_outcome passphrase at (Some bytes) h =
    subst (λ (r : Reading XdrFault StartImage). IsOutcomeOf (network_id_of passphrase) r (silent (status.BadInput at)))
    (sym h.1) (ap (λ (n : ℕ). silent (status.BadInput n)) h.2)

unread_bad : (passphrase : List ℕ) (input : Seen) (at : ℕ) → IfSome input.before (IsFaulty at)
    → IsUnstarted passphrase input (status.BadInput at)
unread_bad passphrase input at faulty out h = record {
  answered = silent_end passphrase input out (status.BadInput at) h (faulty_outcome passphrase at input.before faulty);
  bad_image = λ rule e. h;
  ended = λ e. absurd cc;
  read_fault = λ e. absurd cc;
  write_fault = λ e. absurd cc;
  is_end = tt;
}

unread_failed : (passphrase : List ℕ) (input : Seen) → Failed input → GaveNoImage input
    → IsUnstarted passphrase input status.ReadFault
unread_failed passphrase input failed none out h = record {
  answered = unwritten passphrase input out status.ReadFault tt h;
  bad_image = λ rule e. h;
  ended = λ e. absurd cc;
  read_fault = λ e. (
    failed,
    record {
      given = none.given;
      gave = none.gave;
      lines = [];
      received = h;
      all = subst (λ (r : Reading XdrFault StartImage). AreLinesOf (network_id_of passphrase) r [])
          (sym none.reads) refl;
    },
  );
  write_fault = λ e. absurd cc;
  is_end = tt;
}

uncut_unstarted : (passphrase : List ℕ) (input : Seen) (end : Status) → IsUncut input end
    → IsUnstarted passphrase input end
uncut_unstarted passphrase input (status.BadInput at) h = unread_bad passphrase input at h
uncut_unstarted passphrase input status.ReadFault h = unread_failed passphrase input h.0 h.1
uncut_unstarted passphrase input status.NoMemory h = unread_memory passphrase input
uncut_unstarted passphrase input status.Done h = absurd h
uncut_unstarted passphrase input status.Usage h = absurd h
uncut_unstarted passphrase input status.Refused h = absurd h
uncut_unstarted passphrase input status.WriteFault h = absurd h
uncut_unstarted passphrase input status.DiskFault h = absurd h
uncut_unstarted passphrase input (status.BadStore file offset) h = absurd h
uncut_unstarted passphrase input (status.BadImage rule) h = absurd h
uncut_unstarted passphrase input status.Missing h = absurd h
uncut_unstarted passphrase input status.AlreadyThere h = absurd h
uncut_unstarted passphrase input status.TooLarge h = absurd h

-- ---- judging

-- what is at the start of an input that begins with a cut image
pub prefix_reading : (image : StartImage) (at : ℕ) (ahead others : List ℕ) (input : Seen) (c : Cut image at ahead input)
    → read_image ((c.prefix ++ ahead) ++ others) ≡ Ok (image, record { at = at; rest = ahead ++ others })
prefix_reading image at ahead others input c =
    ap read_image (append_assoc c.prefix ahead others) ∙ c.begins (ahead ++ others)
    ∙ ap (λ (n : ℕ). Ok (image, record { at = n; rest = ahead ++ others })) (sym c.len)

judged_end : (passphrase : List ℕ) (image : StartImage) (at : ℕ) (ahead : List ℕ) (input : Seen) (end : Status)
    (judged : Result ClosingState ImageFault) → Cut image at ahead input
    → IsJudged (network_id_of passphrase) image judged → ((p : Position) → IsStarted judged p (silent end))
    → (out : Seen) → Received out [] → IfSome input.before (λ bytes. AnsweredTo passphrase bytes out end)
judged_end passphrase image at ahead input end judged c is started out h =
    silent_end passphrase input out end h (reported_prefix input.before input.now (c.prefix ++ ahead)
    (λ bytes. IsOutcome passphrase bytes (silent end)) c.gave
    (λ others reported. subst (λ (r : Reading XdrFault StartImage). IsOutcomeOf (network_id_of passphrase) r
    (silent end))
    (sym (prefix_reading image at ahead others input c))
    (judged, is, started (record { at = at; rest = ahead ++ others }))))

unjudged : (passphrase : List ℕ) (image : StartImage) (at : ℕ) (ahead : List ℕ) (input : Seen) (end : Status)
    → Cut image at ahead input → IsJudgedSo (network_id_of passphrase) image (Err end)
    → IsUnstarted passphrase input end
unjudged passphrase image at ahead input (status.BadImage rule) c is out h = record {
  answered = judged_end passphrase image at ahead input (status.BadImage rule) (Err (image_fault.BadImage rule)) c is
      (λ p. refl) out h;
  bad_image = λ rule e. h;
  ended = λ e. absurd cc;
  read_fault = λ e. absurd cc;
  write_fault = λ e. absurd cc;
  is_end = tt;
}
unjudged passphrase image at ahead input status.NoMemory c is out h = unread_memory passphrase input out h
unjudged passphrase image at ahead input status.Done c is out h = absurd cc
unjudged passphrase image at ahead input status.Usage c is out h = absurd cc
unjudged passphrase image at ahead input status.Refused c is out h = absurd cc
unjudged passphrase image at ahead input status.ReadFault c is out h = absurd cc
unjudged passphrase image at ahead input status.WriteFault c is out h = absurd cc
unjudged passphrase image at ahead input (status.BadInput wrong) c is out h = absurd cc
unjudged passphrase image at ahead input status.DiskFault c is out h = absurd cc
unjudged passphrase image at ahead input (status.BadStore file offset) c is out h = absurd cc
unjudged passphrase image at ahead input status.Missing c is out h = absurd cc
unjudged passphrase image at ahead input status.AlreadyThere c is out h = absurd cc
unjudged passphrase image at ahead input status.TooLarge c is out h = absurd cc

-- why no ledger starts, as the end of a run
pub barred_unstarted : (passphrase : List ℕ) (input : Seen) (end : Status) → IsBarred passphrase input end
    → IsUnstarted passphrase input end
barred_unstarted passphrase input end (inl uncut) = uncut_unstarted passphrase input end uncut
barred_unstarted passphrase input end (inr (image, at, ahead, c, is)) =
    unjudged passphrase image at ahead input end c is

-- ---- an entire run

answered_by : (passphrase : List ℕ) (s : ClosingState) (at : ℕ) (ahead : List ℕ) (input : Seen)
    (start : StartsAt passphrase s at ahead input) (before now : Option (List ℕ)) (out : Seen) (end : Status)
    → Consumes before now (start.cut.prefix ++ ahead)
    → IfSome now (λ bytes. AnsweredFrom s at (ahead ++ bytes) out end)
    → IfSome before (λ bytes. AnsweredTo passphrase bytes out end)
answered_by passphrase s at ahead input start None now out end gave h = tt
answered_by passphrase s at ahead input start (Some x) None out end gave h = absurd gave
answered_by passphrase s at ahead input start (Some x) (Some y) out end gave h =
    let p : Position = record { at = at; rest = ahead ++ y } in
    let network : Hash = network_id_of passphrase in
    let e : read_image x ≡ Ok (start.image, p) =
    ap read_image gave ∙ prefix_reading start.image at ahead y input start.cut in
    subst (λ (r : Reading XdrFault StartImage). Answered (IsOutcomeOf network r) (IsOutputPrefixOf network r) out end)
    (sym e) (entire p h)
  where
    entire : (p : Position) → Answered (IsRun s p) (IsRunPrefix s p) out end
        → Answered (IsOutcomeOf (network_id_of passphrase) (Ok (start.image, p)))
        (IsOutputPrefixOf (network_id_of passphrase) (Ok (start.image, p))) out end
    entire p (text, received, inl (o, run, e, same)) = (text, received, inl (o, (Ok s, start.judged, run), e, same))
    entire p (text, received, inr (short, f)) = (text, received, inr (short, inr (s, start.judged, f)))

-- a run without a volume ends like `catchup`
caught_end : (end : Status) → IsRecordsEnd end → (end ≡ status.DiskFault → ⊥) → IsCatchUpEnd end
caught_end status.Done is never = tt
caught_end status.Usage is never = absurd is
caught_end status.Refused is never = tt
caught_end status.ReadFault is never = tt
caught_end status.WriteFault is never = tt
caught_end status.DiskFault is never = absurd (never refl)
caught_end (status.BadStore file offset) is never = absurd is
caught_end status.NoMemory is never = tt
caught_end (status.BadInput at) is never = tt
caught_end (status.BadImage rule) is never = absurd is
caught_end status.Missing is never = absurd is
caught_end status.AlreadyThere is never = absurd is
caught_end status.TooLarge is never = absurd is

pub caught_up : (passphrase : List ℕ) (s : ClosingState) (at : ℕ) (ahead : List ℕ) (input out : Seen)
    (now : Option (List ℕ))
    (faults : ℕ) (F : Type 0) (end : Status) → StartsAt passphrase s at ahead input → (F → ⊥)
    → Followed s at ahead (over input.now now input.faults_now faults) out F end
    → CaughtUp passphrase (over input.before now input.faults_before faults) out end
caught_up passphrase s at ahead input out now faults F end start never f = record {
  answered = answered_by passphrase s at ahead input start input.before input.now out end start.cut.gave f.answered;
  bad_image = λ rule e. absurd (subst IsRecordsEnd e f.is_end);
  ended = f.ended;
  read_fault = λ e. let h = f.read_fault e in (
    rose_before input.faults_before input.faults_now faults start.cut.later h.0,
    record {
      given = (start.cut.prefix ++ ahead) ++ h.1.given;
      gave = Consumes-trans input.before input.now now (start.cut.prefix ++ ahead) h.1.given start.cut.gave h.1.gave;
      lines = h.1.lines;
      received = h.1.received;
      all = subst (λ (r : Reading XdrFault StartImage). AreLinesOf (network_id_of passphrase) r h.1.lines)
          (sym (prefix_reading start.image at ahead h.1.given input start.cut)) (s, start.judged, h.1.all);
    },
  );
  write_fault = f.write_fault;
  is_end = caught_end end f.is_end (λ e. never (f.disk_fault e));
}
