-- An end that is written as another one.
use Rattle.replay.proofs.Prelude.{◌≡◌, ℕ, List, Option, Some, None, IfSome, refl, sym, subst, ◌⊎◌, inl, inr, IsAtEnd}
use Rattle.replay.proofs.Prelude.{Seen, Failed, ClosingState, Status, IsCutShort, IsReported, IsLineReported}
use Rattle.replay.proofs.Prelude.{SeenVolume, VolumeFailed, IsPrefix, Image, HoldsNothing, OpensTo, IsBadStore}
use Rattle.replay.proofs.Prelude.{IsAnswerAfter, AnsweredAfter, MayBeAhead, IsFailedEnd, OpensAcknowledged}
use Rattle.replay.proofs.Prelude.{IsUnbrokenEnd, MayLeaveNow, MayRead, Survived, RanFrom, DidNotRun, DidNotOpen}
use Rattle.replay.proofs.Prelude.{IsOpenedEnd, IsUnopenedEnd, IsRunEnd, DidRun, IsReportedOrRefused, IsReportedSo}
use Rattle.replay.proofs.Prelude.{RanSo, RanOrNot, RanStored}
use Rattle.stored_outcome.specs.run_outcome.declared.status.Status.TheVariants as status
use Rattle.reports.proofs.Prefixes.{complete_prefix}
use Rattle.replay.proofs.Keeping.{failed_cut}
use Rattle.replay.proofs.Opening.{OnlyBefore, NowLeaves, cut_is_end, ran_opened, ran_missing, ran_bad, only_missing}
use Rattle.replay.proofs.Opening.{only_bad, only_opened}

shorter : (s : ClosingState) (bytes text : List ℕ) (end after : Status) → IsCutShort after
    → IsAnswerAfter s bytes text end → IsAnswerAfter s bytes text after
shorter s bytes text end after short (inl (o, run, e, same)) =
    inr (short, inr (o, run, subst (λ (t : List ℕ). IsPrefix t o.text) (sym same) (complete_prefix o.text)))
shorter s bytes text end after short (inr (old, f)) = inr (short, f)

shorter_if : (s : ClosingState) (before : Option (List ℕ)) (out : Seen) (end after : Status) → IsCutShort after
    → IfSome before (λ bytes. AnsweredAfter s bytes out end)
    → IfSome before (λ bytes. AnsweredAfter s bytes out after)
shorter_if s None out end after short h = tt
shorter_if s (Some bytes) out end after short (text, h, answer) =
    (text, h, shorter s bytes text end after short answer)

ran_shorter : (input out : Seen) (vol : SeenVolume) (end after : Status) → IsCutShort after → RanOrNot input out vol end
    → RanOrNot input out vol after
ran_shorter input out vol end after short (inl none) = inl none
ran_shorter input out vol end after short (inr (s, answered)) =
    inr (s, shorter_if s input.before out end after short answered)

-- what an end says of what a crash leaves, and of what is read, another end says
pub record SaysLess (end after : Status) : Type 0 where
  pub ahead : MayBeAhead end → MayBeAhead after
  pub failed : IsFailedEnd end → IsFailedEnd after
  pub unbroken : IsUnbrokenEnd after → IsUnbrokenEnd end

acknowledged_less : (s : ClosingState) (given : List ℕ) (n : ℕ) (end after : Status) (c : Image) → SaysLess end after
    → OpensAcknowledged s given n end c → OpensAcknowledged s given n after c
acknowledged_less s given n end after c less (inl o) = inl o
acknowledged_less s given n end after c less (inr (may, o)) = inr (less.ahead may, o)

crash_less : (s : ClosingState) (given : List ℕ) (n : ℕ) (vol : SeenVolume) (end after : Status) (c : Image)
    → SaysLess end after → MayLeaveNow s given n vol end c → MayLeaveNow s given n vol after c
crash_less s given n vol end after c less (inl o) = inl (acknowledged_less s given n end after c less o)
crash_less s given n vol end after c less (inr (none, failed, may)) = inr (none, less.failed failed, may)

reads_less : (s : ClosingState) (given : List ℕ) (n : ℕ) (vol : SeenVolume) (end after : Status) (c : Image)
    → SaysLess end after → MayRead s given n vol end c → MayRead s given n vol after c
reads_less s given n vol end after c less (inl o) = inl (acknowledged_less s given n end after c less o)
reads_less s given n vol end after c less (inr (none, ahead, failed, may)) = inr (none, less.ahead ahead, failed, may)

survived_less : (s : ClosingState) (given text : List ℕ) (vol : SeenVolume) (end after : Status) → SaysLess end after
    → Survived s given text vol end → Survived s given text vol after
survived_less s given text vol end after less v = record {
  moments = v.moments;
  later = v.later;
  count = v.count;
  acknowledged = v.acknowledged;
  unbroken = λ un. v.unbroken (less.unbroken un);
  crash = λ c may. crash_less s given v.count vol end after c less (v.crash c may);
  reads = reads_less s given v.count vol end after vol.now.reads less v.reads;
  sound = v.sound;
}

cut_to : (s : ClosingState) (input out : Seen) (vol : SeenVolume) (end after : Status) → IsFailedEnd after
    → SaysLess end after → RanFrom s input out vol end → RanFrom s input out vol after
cut_to s input out vol end after failed less r = let f = failed_cut after failed in record {
  answered = shorter_if s input.before out end after f.0 r.answered;
  is_end = cut_is_end after f.0;
  given = r.given;
  gave = r.gave;
  text = r.text;
  received = r.received;
  answer = shorter s r.given r.text end after f.0 r.answer;
  entire = λ e. absurd (f.1 e);
  survived = survived_less s r.given r.text vol end after less r.survived;
}

to_write : (end : Status) → SaysLess end status.WriteFault
to_write end = record { ahead = λ may. tt; failed = λ failed. tt; unbroken = λ un. absurd un }

-- ---- a run but for the line on standard error

record RunBefore (input out err : Seen) (vol : SeenVolume) (end : Status) : Type 0 where
  pub opened : vol.reports → (s : ClosingState) → OpensTo vol.before.reads s → RanFrom s input out vol end
  pub missing : vol.reports → HoldsNothing vol.before.reads → DidNotOpen status.Missing input out err vol end
  pub bad_store : vol.reports → (file offset : ℕ) → IsBadStore vol.before.reads file offset
      → DidNotOpen (status.BadStore file offset) input out err vol end
  pub only_opened : vol.reports → IsOpenedEnd end → (s : ClosingState) × OpensTo vol.before.reads s
  pub only_missing : vol.reports → end ≡ status.Missing → HoldsNothing vol.before.reads
  pub only_bad : vol.reports → (file offset : ℕ) → end ≡ status.BadStore file offset
      → IsBadStore vol.before.reads file offset
  pub unopened : IsUnopenedEnd end → DidNotRun input out vol
  pub ran : RanOrNot input out vol end
  pub ended : end ≡ status.Done → IsAtEnd input.now
  pub read_fault : end ≡ status.ReadFault → Failed input
  pub write_fault : end ≡ status.WriteFault → Failed out ⊎ Failed err
  pub disk_fault : end ≡ status.DiskFault → VolumeFailed vol
  pub is_end : IsRunEnd end

module _ (input out err : Seen) (vol : SeenVolume) (end : Status) (b : RunBefore input out err vol end) where
  -- the line wasn't taken
  as_write : Failed err → RunBefore input out err vol status.WriteFault
  as_write failed = record {
    opened = λ te s o. cut_to s input out vol end status.WriteFault tt (to_write end) (b.opened te s o);
    missing = λ te none. ((b.missing te none).0, inr (inr (inl (refl, failed))));
    bad_store = λ te file offset bad. ((b.bad_store te file offset bad).0, inr (inr (inl (refl, failed))));
    only_opened = λ te opened. absurd opened;
    only_missing = λ te e. absurd cc;
    only_bad = λ te file offset e. absurd cc;
    unopened = λ ended. absurd ended;
    ran = ran_shorter input out vol end status.WriteFault tt b.ran;
    ended = λ e. absurd cc;
    read_fault = λ e. absurd cc;
    write_fault = λ e. inr failed;
    disk_fault = λ e. absurd cc;
    is_end = inl tt;
  }

  -- memory was refused for the line
  as_no_memory : SaysLess end status.NoMemory → RunBefore input out err vol status.NoMemory
  as_no_memory less = record {
    opened = λ te s o. cut_to s input out vol end status.NoMemory tt less (b.opened te s o);
    missing = λ te none. ((b.missing te none).0, inr (inr (inr refl)));
    bad_store = λ te file offset bad. ((b.bad_store te file offset bad).0, inr (inr (inr refl)));
    only_opened = λ te opened. absurd opened;
    only_missing = λ te e. absurd cc;
    only_bad = λ te file offset e. absurd cc;
    unopened = λ ended. absurd ended;
    ran = ran_shorter input out vol end status.NoMemory tt b.ran;
    ended = λ e. absurd cc;
    read_fault = λ e. absurd cc;
    write_fault = λ e. absurd cc;
    disk_fault = λ e. absurd cc;
    is_end = inl tt;
  }

  with_line : IsLineReported err end → DidRun input out err vol end
  with_line reported = record {
    opened = b.opened;
    missing = b.missing;
    bad_store = b.bad_store;
    only_opened = b.only_opened;
    only_missing = b.only_missing;
    only_bad = b.only_bad;
    unopened = b.unopened;
    ran = b.ran;
    ended = b.ended;
    read_fault = b.read_fault;
    write_fault = b.write_fault;
    disk_fault = b.disk_fault;
    is_end = b.is_end;
    reported = reported;
  }

reported_as : (input out err : Seen) (vol : SeenVolume) (end after : Status) → RunBefore input out err vol end
    → IsReported end err after → DidRun input out err vol after
reported_as input out err vol end after b (inl (e, h)) =
    subst (DidRun input out err vol) (sym e) (with_line input out err vol end b (inl h))
reported_as input out err vol end after b (inr (e, failed)) =
    subst (DidRun input out err vol) (sym e)
    (with_line input out err vol status.WriteFault (as_write input out err vol end b failed) (inr (refl, failed)))

refused_as : (input out err : Seen) (vol : SeenVolume) (end after : Status) → RunBefore input out err vol end
    → SaysLess end status.NoMemory → IsReportedOrRefused end err after → DidRun input out err vol after
refused_as input out err vol end after b less (inl reported) = reported_as input out err vol end after b reported
refused_as input out err vol end after b less (inr reported) =
    reported_as input out err vol status.NoMemory after (as_no_memory input out err vol end b less) reported

reported_so : (input out err : Seen) (vol : SeenVolume) (end after : Status) → RunBefore input out err vol end
    → IsReportedSo end err after → DidRun input out err vol after
reported_so input out err vol (status.BadStore file offset) after b reported =
    refused_as input out err vol (status.BadStore file offset) after b
    (record { ahead = λ may. absurd may; failed = λ failed. absurd failed; unbroken = λ un. tt }) reported
reported_so input out err vol (status.BadInput at) after b reported =
    refused_as input out err vol (status.BadInput at) after b
    (record { ahead = λ may. absurd may; failed = λ failed. absurd failed; unbroken = λ un. tt }) reported
reported_so input out err vol (status.BadImage rule) after b reported =
    refused_as input out err vol (status.BadImage rule) after b
    (record { ahead = λ may. absurd may; failed = λ failed. absurd failed; unbroken = λ un. tt }) reported
reported_so input out err vol status.Done after b reported = reported_as input out err vol status.Done after b reported
reported_so input out err vol status.Usage after b reported =
    reported_as input out err vol status.Usage after b reported
reported_so input out err vol status.Refused after b reported =
    reported_as input out err vol status.Refused after b reported
reported_so input out err vol status.ReadFault after b reported =
    reported_as input out err vol status.ReadFault after b reported
reported_so input out err vol status.WriteFault after b reported =
    reported_as input out err vol status.WriteFault after b reported
reported_so input out err vol status.DiskFault after b reported =
    reported_as input out err vol status.DiskFault after b reported
reported_so input out err vol status.NoMemory after b reported =
    reported_as input out err vol status.NoMemory after b reported
reported_so input out err vol status.Missing after b reported =
    reported_as input out err vol status.Missing after b reported
reported_so input out err vol status.AlreadyThere after b reported =
    reported_as input out err vol status.AlreadyThere after b reported
reported_so input out err vol status.TooLarge after b reported =
    reported_as input out err vol status.TooLarge after b reported

pub did_run : (input out err : Seen) (vol : SeenVolume) (end after : Status) → OnlyBefore vol
    → (vol.reports → NowLeaves vol) → RanStored input out vol end → IsReportedSo end err after
    → DidRun input out err vol after
did_run input out err vol end after only now r reported =
    reported_so input out err vol end after
    (record {
      opened = λ te s o. ran_opened s input out vol end o only (now te) (r.ran te);
      missing = λ te none. ran_missing input out err vol end none (r.ran te);
      bad_store = λ te file offset bad. ran_bad input out err vol file offset end bad (r.ran te);
      only_opened = λ te opened. only_opened input out vol end opened (r.ran te);
      only_missing = λ te e. only_missing input out vol (subst (RanSo input out vol) e (r.ran te));
      only_bad = λ te file offset e. only_bad input out vol file offset (subst (RanSo input out vol) e (r.ran te));
      unopened = r.unbegun;
      ran = r.printed;
      ended = r.ended;
      read_fault = r.read_fault;
      write_fault = λ e. inl (r.write_fault e);
      disk_fault = r.disk_fault;
      is_end = r.is_end;
    })
    reported
