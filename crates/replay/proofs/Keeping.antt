-- What a run leaves of the volume upon which it keeps its records.
use Rattle.replay.proofs.Prelude as prelude
use prelude.{◌≡◌, ℕ, ◌+◌, ◌≤◌, ◌<◌, List, [], ◌++◌, length, take, drop, Option, Some, None, Ok, Err, refl, sym, ap}
use prelude.{subst, ◌∙◌, append_assoc, append-nil, arith, ◌⊎◌, inl, inr, Appends-trans, Consumes-trans, XdrFault}
use prelude.{Position, start_of, IsBytes, ◌≢◌, Seen, Gave, Received, ReceivedPrefix, Grown, record_end, IsShort}
use prelude.{IsPiece, PieceFault, CloseFault, ClosingState, PreparedClose, IsClose, FaultIs, Status, IsCutShort}
use prelude.{end_line, refused_line, Outcome, silent, framed, max_record_len, lines_of, IsRun, IsRunPrefix, IsEnd}
use prelude.{IsAnswer, Image, Disk, Runs, Same, IsSafe, widened, onward, OpensTo, OpensWithin, RunPosition, Goes, Wrote}
use prelude.{Refuses, EndsAt, MayBeAhead, IsFailedEnd, IsUnbrokenEnd, OpensAcknowledged, OpensEither, OpensOnward}
use prelude.{Keeps, Answers, KeptOn, IsWritten, IsUnkept, IsHalfway, KeptClose, KeptPass, KeptTurn, IsWriting}
use prelude.{KeptWriting, nil_from_length, SeenVolume}
use Rattle.replay.specs.Keeping.{DidClose}
use Rattle.record_stream.specs.declared.piece.PieceFault.TheVariants as piece
use Rattle.stored_outcome.specs.close_rules.declared.close_fault.CloseFault.TheVariants as close
use Rattle.stored_outcome.specs.run_outcome.declared.status.Status.TheVariants as status
use Rattle.replay.proofs.Lines.{lines_some}
use Rattle.reports.proofs.Prefixes.{nothing_prefix, complete_prefix, complete_or_less}
use Rattle.reports.proofs.Marking.{read_mark, prefix_of}
use Rattle.replay.proofs.Runs.{not_both, framed_apart, nothing_framed, ended_run, no_records, empty_prefix}
use Rattle.replay.proofs.Turning.{no_record, bad_end, refused_end, cut_answer, answer_after}
use Rattle.replay.proofs.Turning.{complete_after}
use Rattle.replay.proofs.After.{ClosesNothing, ack_stopped, ack_empty, ack_partial, ack_one, ack_more}
use Rattle.replay.proofs.After.{opens_none, opens_one, opens_more}
use Rattle.replay.proofs.Surviving.{safe_opens}
use Rattle.reports.proofs.Streams.{empty_or_some, end_err, over}

-- ---- steps

stays_since : (step : Image → Image → Type 0) (d : Disk) (t : ℕ) (c : Image) → d.left_since t c
    → d.left_since t c ⊎ ((e : Image) × d.may_leave e × step e c)
stays_since step d t c left = inl left

-- nothing happens
pub stays : (step : Image → Image → Type 0) (d : Disk) → ((c : Image) → step c c) → Runs step d d
stays step d same = record {
  later = omega arith;
  crash = λ c may. (c, may, same c);
  since = λ t c le left. stays_since step d t c left;
  keeps = λ t c le left. left;
}

pub stays_same : (d : Disk) → Runs Same d d
stays_same d = stays Same d (λ c. refl)

abbrev pub stays_either : (s next : ClosingState) (d : Disk) → Runs (OpensEither s next) d d
stays_either s next d = stays (OpensEither s next) d (λ c o. inl o)

same_opens : (s : ClosingState) (text : List ℕ) (d c : Image) → c ≡ d → OpensOnward s text d c
same_opens s text d c e o = (0, opens_none s text c (subst (λ (x : Image). OpensTo x s) (sym e) o))

to_next : (s next : ClosingState) (c : Image) → OpensTo c next ⊎ OpensTo c next → OpensTo c s ⊎ OpensTo c next
to_next s next c (inl o) = inr o
to_next s next c (inr o) = inr o

one_of : (s : ClosingState) (c : Image) → OpensTo c s ⊎ OpensTo c s → OpensTo c s
one_of s c (inl o) = o
one_of s c (inr o) = o

-- a record was kept, and then what is kept stays
pub kept_then : (s next : ClosingState) (old mid new : Disk) → IsSafe mid → OpensTo mid.reads next
    → Runs (OpensEither s next) old mid → Runs (OpensEither next next) mid new → Runs (OpensEither s next) old new
kept_then s next old mid new safe opens first second =
    onward {first = OpensEither s next} {second = OpensEither next next} {both = OpensEither s next} old mid new
    (λ d e c may_d may_e one two o. to_next s next c (two (safe_opens mid next safe opens e may_e)))
    (λ d e one o. one o) first second

-- what may be left after a step from a state that is safe
pub either_left : (s next : ClosingState) (old new : Disk) → IsSafe old → OpensTo old.reads s
    → Runs (OpensEither s next) old new → (c : Image) → new.may_leave c → OpensTo c s ⊎ OpensTo c next
either_left s next old new safe opens runs c may =
    let x = runs.crash c may in x.2 (safe_opens old s safe opens x.0 x.1)

-- ---- what is written of a close

pub writing_failed : (s : ClosingState) (text : List ℕ) (out : Seen) (d : Disk) → IsSafe d → OpensTo d.reads s
    → ReceivedPrefix out text → IsWriting s text out d d status.WriteFault
writing_failed s text out d safe opens (n, le, h) = record {
  failed = tt;
  prefix = take n text;
  received = h;
  some = (n, le, refl);
  runs = stays_either s s d;
  crash = safe_opens d s safe opens;
  reported = inl refl;
}

pub settle_failed : (s : ClosingState) (text : List ℕ) (out : Seen) (old new : Disk) → IsSafe old → OpensTo old.reads s
    → Runs (OpensEither s s) old new → Received out text → IsWriting s text out old new status.DiskFault
settle_failed s text out old new safe opens runs h = record {
  failed = tt;
  prefix = text;
  received = h;
  some = complete_prefix text;
  runs = runs;
  crash = λ c may. one_of s c (either_left s s old new safe opens runs c may);
  reported = inr (inr refl);
}

pub settle_refused : (s : ClosingState) (text : List ℕ) (out : Seen) (old new : Disk) → IsSafe new
    → OpensTo new.reads s → Runs (OpensEither s s) old new → Received out text
    → IsWriting s text out old new status.NoMemory
settle_refused s text out old new safe opens runs h = record {
  failed = tt;
  prefix = text;
  received = h;
  some = complete_prefix text;
  runs = runs;
  crash = safe_opens new s safe opens;
  reported = inr (inr refl);
}

-- ---- what a close yields

pub unkept_nothing : (s : ClosingState) (bytes : List ℕ) (out : Seen) (d : Disk) → Received out []
    → IsUnkept s bytes out d d status.NoMemory
unkept_nothing s bytes out d h = record {
  prefix = [];
  received = h;
  nothing = inl (refl, refl);
  runs = stays_same d;
  same = refl;
}

-- memory was refused before anything was kept or written
pub nothing_closed : (stores : Type 0) (s : ClosingState) (bytes : List ℕ) (next : ClosingState) (out : Seen)
    (vol : SeenVolume) (goes : Type 0) → vol.now ≡ vol.before → out.faults_before ≤ out.faults_now
    → vol.faults_before ≤ vol.faults_now → Received out []
    → DidClose stores s bytes next out vol goes (Some status.NoMemory)
nothing_closed stores s bytes next out vol goes same later vol_later none = record {
  step = record { later = later; vol_later = vol_later; going = λ some. absurd (cc) };
  closes = inr (inr (refl, none));
  kept = λ st te. inl
      (subst (λ (d : Disk). IsUnkept s bytes out vol.before d status.NoMemory) (sym same)
      (unkept_nothing s bytes out vol.before none));
}

-- it is the same state
pub closed_from : (stores : Type 0) (s t : ClosingState) → s ≡ t → (bytes : List ℕ) (next : ClosingState) (out : Seen)
    (vol : SeenVolume) (goes : Type 0) (end : Option Status) → DidClose stores s bytes next out vol goes end
    → DidClose stores t bytes next out vol goes end
closed_from stores s t same bytes next out vol goes end did =
    subst (λ (x : ClosingState). DidClose stores x bytes next out vol goes end) same did

no_lines : (c : PreparedClose) → [] ≡ lines_of c → ⊥
no_lines c e = absurd (omega (arith, lines_some c, ap length e))

pub keep_failed : (s : ClosingState) (bytes : List ℕ) (c : PreparedClose) (out : Seen) (old new : Disk)
    → IsClose s bytes (Ok c)
    → IsSafe old → OpensTo old.reads s → Runs (OpensEither s c.state) old new → Received out []
    → IsHalfway s bytes out old new status.DiskFault
keep_failed s bytes c out old new closes safe opens runs h = record {
  closed = c;
  closes = closes;
  failed = tt;
  prefix = [];
  received = h;
  some = nothing_prefix (lines_of c);
  runs = runs;
  crash = either_left s c.state old new safe opens runs;
  entire = λ e. absurd (no_lines c e);
  reported = inr (inl (refl, refl));
}

pub kept_written : (s : ClosingState) (bytes : List ℕ) (c : PreparedClose) (next : ClosingState) (out : Seen) (old mid
    new : Disk)
    (r : Option Status) → IsClose s bytes (Ok c) → next ≡ c.state → IsSafe mid → OpensTo mid.reads c.state
    → Runs (OpensEither s c.state) old mid → KeptWriting c.state (lines_of c) out mid new r
    → KeptClose s bytes next out old new r
kept_written s bytes c next out old mid new None closes same safe opens runs t = record {
  closed = c;
  closes = closes;
  state = same;
  runs = kept_then s c.state old mid new safe opens runs t;
}
kept_written s bytes c next out old mid new (Some end) closes same safe opens runs t = inr (record {
  closed = c;
  closes = closes;
  failed = t.failed;
  prefix = t.prefix;
  received = t.received;
  some = t.some;
  runs = kept_then s c.state old mid new safe opens runs t.runs;
  crash = λ x may. inr (t.crash x may);
  entire = λ e x may. t.crash x may;
  reported = t.reported;
})

abbrev Written : (out : Seen) (text : List ℕ) (entire end : Status) → Type 0
Written out text entire end = (prefix : List ℕ) × Received out prefix × IsWritten text entire prefix end

wrote_prefix : (out : Seen) (text : List ℕ) (entire end : Status) → Wrote out text entire end
    → Written out text entire end
wrote_prefix out text entire end (inl (e, h)) = (text, h, inl (e, refl))
wrote_prefix out text entire end (inr (inl (e, failed, (n, le, h)))) = (take n text, h, inr (inl (e, (n, le, refl))))
wrote_prefix out text entire end (inr (inr (e, h))) = ([], h, inr (inr (e, refl)))

refused_by : (s : ClosingState) (bytes : List ℕ) (out : Seen) (d : Disk) (wrong : CloseFault) (end : Status)
    → IsClose s bytes (Err wrong) → Wrote out (refused_line s.header wrong) status.Refused end
    → IsUnkept s bytes out d d end
refused_by s bytes out d wrong end closes wrote =
    let w = wrote_prefix out (refused_line s.header wrong) status.Refused end wrote in
    record {
      prefix = w.0;
      received = w.1;
      nothing = inr (wrong, closes, w.2);
      runs = stays_same d;
      same = refl;
    }

pub unkept_refused : (s : ClosingState) (bytes : List ℕ) (out : Seen) (d : Disk) (wrong : CloseFault) (end : Status)
    → FaultIs wrong (λ f. IsClose s bytes (Err f)) → Refuses s.header out wrong end → IsUnkept s bytes out d d end
unkept_refused s bytes out d close.NoMemory end h r =
    subst (λ (e : Status). IsUnkept s bytes out d d e) (sym r.0) (unkept_nothing s bytes out d r.1)
unkept_refused s bytes out d close.SeqEnd end h r =
    refused_by s bytes out d close.SeqEnd end h r
unkept_refused s bytes out d (close.BadXdr at kind) end h r =
    refused_by s bytes out d (close.BadXdr at kind) end h r
unkept_refused s bytes out d (close.WrongSeq want given) end h r =
    refused_by s bytes out d (close.WrongSeq want given) end h r
unkept_refused s bytes out d (close.WrongPrevious have given) end h r =
    refused_by s bytes out d (close.WrongPrevious have given) end h r
unkept_refused s bytes out d (close.WrongSetHash have given) end h r =
    refused_by s bytes out d (close.WrongSetHash have given) end h r
unkept_refused s bytes out d (close.StaleTime last given) end h r =
    refused_by s bytes out d (close.StaleTime last given) end h r
unkept_refused s bytes out d (close.BadUpgrade index) end h r =
    refused_by s bytes out d (close.BadUpgrade index) end h r
unkept_refused s bytes out d (close.UpgradeOutOfProfile index) end h r =
    refused_by s bytes out d (close.UpgradeOutOfProfile index) end h r
unkept_refused s bytes out d (close.FeeSourceMissing index) end h r =
    refused_by s bytes out d (close.FeeSourceMissing index) end h r
unkept_refused s bytes out d (close.LedgerFull total) end h r =
    refused_by s bytes out d (close.LedgerFull total) end h r

-- ---- the end of a run at a record

untouched_crash : (s : ClosingState) (text : List ℕ) (old new : Disk) (end : Status) → IsSafe old
    → OpensTo old.reads s → Runs Same old new → (c : Image) → new.may_leave c → OpensAcknowledged s text 0 end c
untouched_crash s text old new end safe opens runs c may =
    let x = runs.crash c may in
    inl (opens_none s text c (subst (λ (y : Image). OpensTo y s) (sym x.2) (safe_opens old s safe opens x.0 x.1)))

-- nothing changed
untouched : (s : ClosingState) (text prefix : List ℕ) (old new : Disk) (end : Status) → IsSafe old → OpensTo old.reads s
    → Runs Same old new → (IsUnbrokenEnd end → prefix ≡ [])
    → (ClosesNothing s text ⊎ (prefix ≡ [])) → Keeps s text prefix old new end
untouched s text prefix old new end safe opens runs entire (inl none) = record {
  runs = widened {step = Same} {wider = OpensOnward s text} old new (λ d c e. same_opens s text d c e) runs;
  count = 0;
  acknowledged = ack_stopped s text prefix none;
  unbroken = entire;
  crash = untouched_crash s text old new end safe opens runs;
}
untouched s text prefix old new end safe opens runs entire (inr empty) = record {
  runs = widened {step = Same} {wider = OpensOnward s text} old new (λ d c e. same_opens s text d c e) runs;
  count = 0;
  acknowledged = ack_empty s text prefix empty;
  unbroken = entire;
  crash = untouched_crash s text old new end safe opens runs;
}

refused_closes_nothing : (s : ClosingState) (bytes others text : List ℕ) (wrong : CloseFault)
    → length bytes ≤ max_record_len → text ≡ framed bytes ++ others → IsClose s bytes (Err wrong)
    → ClosesNothing s text
refused_closes_nothing s bytes others text wrong fits cut refused other more c short same closes =
    let apart = framed_apart other bytes more others short fits (sym same ∙ cut) in
    not_both s bytes c wrong (subst (λ (b : List ℕ). IsClose s b (Ok c)) apart.0 closes) refused

written_unbroken : (text prefix : List ℕ) (entire end : Status) → IsWritten text entire prefix end
    → (IsUnbrokenEnd entire → ⊥) → IsUnbrokenEnd end → prefix ≡ []
written_unbroken text prefix entire end (inl (e, same)) broken un = absurd (broken (subst IsUnbrokenEnd e un))
written_unbroken text prefix entire end (inr (inl (e, f))) broken un = absurd (subst IsUnbrokenEnd e un)
written_unbroken text prefix entire end (inr (inr (e, empty))) broken un = empty

unkept_unbroken : (s : ClosingState) (bytes : List ℕ) (out : Seen) (old new : Disk) (end : Status)
    → (u : IsUnkept s bytes out old new end) → IsUnbrokenEnd end → u.prefix ≡ []
unkept_unbroken s bytes out old new end u un = elim u.nothing [
  | inl empty ↦ empty.1
  | inr refused ↦ written_unbroken (refused_line s.header refused.0) u.prefix status.Refused end refused.2 (λ no. no) un
]

unkept_end : (s : ClosingState) (bytes others text : List ℕ) (out : Seen) (old new : Disk) (end : Status)
    → length bytes ≤ max_record_len → text ≡ framed bytes ++ others → IsSafe old → OpensTo old.reads s
    → (u : IsUnkept s bytes out old new end) → Keeps s text u.prefix old new end
unkept_end s bytes others text out old new end fits cut safe opens u =
    untouched s text u.prefix old new end safe opens u.runs (unkept_unbroken s bytes out old new end u)
    (elim u.nothing [
      | inl empty ↦ inr empty.1
      | inr refused ↦ inl (refused_closes_nothing s bytes others text refused.0 fits cut refused.1)
    ])

either_onward : (s : ClosingState) (bytes others : List ℕ) (c : PreparedClose) → length bytes ≤ max_record_len
    → IsClose s bytes (Ok c) → (d e : Image) → OpensEither s c.state d e → OpensOnward s (framed bytes ++ others) d e
either_onward s bytes others c fits closes d e either o = elim (either o) [
  | inl same ↦ (0, opens_none s (framed bytes ++ others) e same)
  | inr next ↦ (1, opens_one s bytes c others e fits closes next)
]

runs_onward : (s : ClosingState) (bytes others : List ℕ) (c : PreparedClose) (old new : Disk)
    → length bytes ≤ max_record_len
    → IsClose s bytes (Ok c) → Runs (OpensEither s c.state) old new
    → Runs (OpensOnward s (framed bytes ++ others)) old new
runs_onward s bytes others c old new fits closes runs =
    widened {step = OpensEither s c.state} {wider = OpensOnward s (framed bytes ++ others)} old new
    (either_onward s bytes others c fits closes) runs

halfway_complete : (s : ClosingState) (bytes others : List ℕ) (out : Seen) (old new : Disk) (end : Status)
    → length bytes ≤ max_record_len → (h : IsHalfway s bytes out old new end) → h.prefix ≡ lines_of h.closed
    → Keeps s (framed bytes ++ others) h.prefix old new end
halfway_complete s bytes others out old new end fits h same = record {
  runs = runs_onward s bytes others h.closed old new fits h.closes h.runs;
  count = 1;
  acknowledged = ack_one s bytes h.closed others h.prefix fits h.closes same;
  unbroken = λ un. same ∙ sym (append-nil (lines_of h.closed));
  crash = λ c may. inl (opens_one s bytes h.closed others c fits h.closes (h.entire same c may));
}

-- not all lines were written: a device failed
halfway_ahead : (s : ClosingState) (bytes : List ℕ) (out : Seen) (old new : Disk) (end : Status)
    → (h : IsHalfway s bytes out old new end) → length h.prefix < length (lines_of h.closed) → MayBeAhead end
halfway_ahead s bytes out old new end h less = elim h.reported [
  | inl write ↦ subst MayBeAhead (sym write) tt
  | inr rest ↦ elim rest [
    | inl disk ↦ subst MayBeAhead (sym disk.0) tt
    | inr all ↦ absurd (omega (arith, less, ap length all))
  ]
]

halfway_unbroken : (s : ClosingState) (bytes : List ℕ) (out : Seen) (old new : Disk) (end : Status)
    → (h : IsHalfway s bytes out old new end) → length h.prefix < length (lines_of h.closed) → IsUnbrokenEnd end
    → h.prefix ≡ []
halfway_unbroken s bytes out old new end h less un = elim h.reported [
  | inl write ↦ absurd (subst IsUnbrokenEnd write un)
  | inr rest ↦ elim rest [
    | inl disk ↦ disk.1
    | inr all ↦ absurd (omega (arith, less, ap length all))
  ]
]

halfway_part : (s : ClosingState) (bytes others : List ℕ) (out : Seen) (old new : Disk) (end : Status)
    → length bytes ≤ max_record_len → (h : IsHalfway s bytes out old new end)
    → length h.prefix < length (lines_of h.closed) → Keeps s (framed bytes ++ others) h.prefix old new end
halfway_part s bytes others out old new end fits h less = record {
  runs = runs_onward s bytes others h.closed old new fits h.closes h.runs;
  count = 0;
  acknowledged = ack_partial s bytes h.closed others h.prefix fits h.closes less;
  unbroken = halfway_unbroken s bytes out old new end h less;
  crash = λ c may. elim (h.crash c may) [
    | inl same ↦ inl (opens_none s (framed bytes ++ others) c same)
    | inr next ↦ inr (
      halfway_ahead s bytes out old new end h less,
      opens_one s bytes h.closed others c fits h.closes next,
    )
  ];
}

halfway_end : (s : ClosingState) (bytes others : List ℕ) (out : Seen) (old new : Disk) (end : Status)
    → length bytes ≤ max_record_len → (h : IsHalfway s bytes out old new end)
    → Keeps s (framed bytes ++ others) h.prefix old new end
halfway_end s bytes others out old new end fits h = elim (complete_or_less h.prefix (lines_of h.closed) h.some) [
  | inl same ↦ halfway_complete s bytes others out old new end fits h same
  | inr less ↦ halfway_part s bytes others out old new end fits h less
]

-- ---- the text of such an end

-- memory was refused, and nothing was written
memory_answers : (s : ClosingState) (p : Position) (end : Status) → end ≡ status.NoMemory → Answers s p [] end
memory_answers s p end e = record {
  answer = inr (subst IsCutShort (sym e) tt, empty_prefix s p);
  entire = λ r. let no : status.NoMemory ≡ status.ReadFault = sym e ∙ r in absurd cc;
}

-- what ends a run here is answered, or a prefix of its line is
written_answers : (s : ClosingState) (at : ℕ) (text prefix : List ℕ) (last : Outcome) (end : Status)
    → IsEnd s at text last → last.status ≢ status.ReadFault → IsWritten last.text last.status prefix end
    → Answers s (record { at = at; rest = text }) prefix end
written_answers s at text prefix last end ends no_read (inl (e, same)) = record {
  answer = inl (last, ended_run s at text last ends, e, same);
  entire = λ r. absurd (no_read (sym e ∙ r));
}
written_answers s at text prefix last end ends no_read (inr (inl (e, f))) = record {
  answer = inr (subst IsCutShort (sym e) tt, inr (last, ended_run s at text last ends, f));
  entire = λ r. let no : status.WriteFault ≡ status.ReadFault = sym e ∙ r in absurd cc;
}
written_answers s at text prefix last end ends no_read (inr (inr (e, same))) =
    subst (λ (t : List ℕ). Answers s (record { at = at; rest = text }) t end) (sym same)
    (memory_answers s (record { at = at; rest = text }) end e)

unkept_answers : (s : ClosingState) (at : ℕ) (bytes others : List ℕ) (out : Seen) (old new : Disk) (end : Status)
    → length bytes ≤ max_record_len → (u : IsUnkept s bytes out old new end)
    → Answers s (record { at = at; rest = framed bytes ++ others }) u.prefix end
unkept_answers s at bytes others out old new end fits u = elim u.nothing [
  | inl empty ↦ subst (λ (t : List ℕ). Answers s (record { at = at; rest = framed bytes ++ others }) t end)
      (sym empty.1)
      (memory_answers s (record { at = at; rest = framed bytes ++ others }) end empty.0)
  | inr refused ↦ written_answers s at (framed bytes ++ others) u.prefix
      (record { status = status.Refused; text = refused_line s.header refused.0 }) end
      (refused_end s at bytes others refused.0 fits refused.1) (λ r. cc) refused.2
]

pub failed_cut : (end : Status) → IsFailedEnd end → IsCutShort end × (end ≢ status.ReadFault)
failed_cut status.WriteFault failed = (tt, λ r. cc)
failed_cut status.DiskFault failed = (tt, λ r. cc)
failed_cut status.NoMemory failed = (tt, λ r. cc)
failed_cut status.ReadFault failed = absurd failed
failed_cut status.Done failed = absurd failed
failed_cut status.Usage failed = absurd failed
failed_cut status.Refused failed = absurd failed
failed_cut (status.BadStore file offset) failed = absurd failed
failed_cut (status.BadInput at) failed = absurd failed
failed_cut (status.BadImage rule) failed = absurd failed
failed_cut status.Missing failed = absurd failed
failed_cut status.AlreadyThere failed = absurd failed
failed_cut status.TooLarge failed = absurd failed

halfway_answers : (s : ClosingState) (at : ℕ) (bytes others : List ℕ) (out : Seen) (old new : Disk) (end : Status)
    → length bytes ≤ max_record_len → (h : IsHalfway s bytes out old new end)
    → Answers s (record { at = at; rest = framed bytes ++ others }) h.prefix end
halfway_answers s at bytes others out old new end fits h =
    let f = failed_cut end h.failed in
    record {
      answer = cut_answer s bytes h.closed at others h.prefix end fits h.closes f.0 h.some;
      entire = λ r. absurd (f.1 r);
    }

record_end_kept : (s : ClosingState) (at : ℕ) (ahead mid bytes others : List ℕ) (input out : Seen) (old new : Disk)
    (end : Status) → Grown input.before input.now ahead mid → mid ≡ framed bytes ++ others
    → length bytes ≤ max_record_len → IsSafe old → OpensTo old.reads s
    → IsUnkept s bytes out old new end ⊎ IsHalfway s bytes out old new end → KeptOn s at ahead input out old new end
record_end_kept s at ahead mid bytes others input out old new end grown cut fits safe opens (inl u) = record {
  given = grown.given;
  gave = grown.gave;
  prefix = u.prefix;
  received = u.received;
  answers = subst (λ (t : List ℕ). Answers s (record { at = at; rest = t }) u.prefix end) (sym (sym grown.grown ∙ cut))
      (unkept_answers s at bytes others out old new end fits u);
  keeps = unkept_end s bytes others (ahead ++ grown.given) out old new end fits (sym grown.grown ∙ cut) safe opens u;
}
record_end_kept s at ahead mid bytes others input out old new end grown cut fits safe opens (inr h) = record {
  given = grown.given;
  gave = grown.gave;
  prefix = h.prefix;
  received = h.received;
  answers = subst (λ (t : List ℕ). Answers s (record { at = at; rest = t }) h.prefix end) (sym (sym grown.grown ∙ cut))
      (halfway_answers s at bytes others out old new end fits h);
  keeps = subst (λ (t : List ℕ). Keeps s t h.prefix old new end) (sym (sym grown.grown ∙ cut))
      (halfway_end s bytes others out old new end fits h);
}

-- a record was ahead
pub kept_at : (s : ClosingState) (at : ℕ) (ahead mid : List ℕ) (end : ℕ) (next : ClosingState) (input out : Seen)
    (old new : Disk) (r : Option Status) → IsBytes mid → Grown input.before input.now ahead mid
    → record_end mid ≡ Ok end → IsSafe old → OpensTo old.reads s → KeptPass s mid end next out old new r
    → KeptTurn s next at ahead input out old new r
kept_at s at ahead mid end next input out old new None fits grown measured safe opens p =
    subst (λ (x : ClosingState). Runs (OpensEither s x) old new) (sym p.kept.state) p.kept.runs
kept_at s at ahead mid end next input out old new (Some last) fits grown measured safe opens p =
    let f = prefix_of mid end fits measured in
    record_end_kept s at ahead mid p.bytes (drop end mid) input out old new last grown
    (f.entire ∙ ap (λ (t : List ℕ). t ++ drop end mid) (f.framed_is ∙ sym p.framed_is)) p.short safe opens p.kept

-- ---- the end of a run where no record is ahead

still : (s : ClosingState) (at : ℕ) (ahead : List ℕ) (input out : Seen) (d : Disk) (end : Status)
    (given prefix : List ℕ) → IsSafe d → OpensTo d.reads s → Gave input given → Received out prefix
    → Answers s (record { at = at; rest = ahead ++ given }) prefix end → (IsUnbrokenEnd end → prefix ≡ [])
    → ClosesNothing s (ahead ++ given) ⊎ (prefix ≡ []) → KeptOn s at ahead input out d d end
still s at ahead input out d end given prefix safe opens gave received answers entire nothing = record {
  given = given;
  gave = gave;
  prefix = prefix;
  received = received;
  answers = answers;
  keeps = untouched s (ahead ++ given) prefix d d end safe opens (stays_same d) entire nothing;
}

empty_closes_nothing : (s : ClosingState) (text : List ℕ) → text ≡ [] → ClosesNothing s text
empty_closes_nothing s text empty bytes more c short same closes = nothing_framed bytes more (sym empty ∙ same)

-- nothing is ahead: the run is done
done_answers : (s : ClosingState) (at : ℕ) (text prefix : List ℕ) (end : Status) → text ≡ []
    → IsWritten (end_line s.header) status.Done prefix end → Answers s (record { at = at; rest = text }) prefix end
done_answers s at text prefix end empty written =
    let last : Outcome = record { status = status.Done; text = end_line s.header } in
    written_answers s at text prefix last end (subst (λ (t : List ℕ). IsEnd s at t last) (sym empty) refl) (λ r. cc)
    written

-- what is ahead is no mark, or is cut
bad_answers : (s : ClosingState) (at : ℕ) (text : List ℕ) (wrong : XdrFault) (end : Status)
    → record_end text ≡ Err wrong → 0 < length text → end ≡ status.BadInput (at + wrong.at)
    → Answers s (record { at = at; rest = text }) [] end
bad_answers s at text wrong end measured some e =
    written_answers s at text [] (silent (status.BadInput (at + wrong.at))) end
    (bad_end s at text wrong some (end_err (read_mark (start_of text)) wrong measured)) (λ r. cc) (inl (e, refl))

-- a read failed, and no complete record is ahead
unread_answers : (s : ClosingState) (at : ℕ) (text : List ℕ) (end : Status) → IsShort record_end text
    → end ≡ status.ReadFault → Answers s (record { at = at; rest = text }) [] end
unread_answers s at text end short e = record {
  answer = inr (subst IsCutShort (sym e) tt, empty_prefix s (record { at = at; rest = text }));
  entire = λ r. record {
    ahead = no_records s (record { at = at; rest = text });
    partial = λ bytes more fits cut. no_record text bytes more short.0 short.1 fits cut;
  };
}

pub kept_off : (s : ClosingState) (at : ℕ) (ahead mid : List ℕ) (input out : Seen) (d : Disk) (why : PieceFault)
    (end : Status) → IsSafe d → OpensTo d.reads s
    → IsPiece record_end input.before input.now input.faults_before input.faults_now ahead mid (Err why)
    → EndsAt s at mid out why end → KeptOn s at ahead input out d d end
kept_off s at ahead mid input out d (piece.Xdr wrong) end safe opens h e = elim (empty_or_some mid) [
  | inl none ↦ let w = wrote_prefix out (end_line s.header) status.Done end (e.0 none) in
      let empty : ahead ++ h.0.given ≡ [] = sym h.0.grown ∙ nil_from_length mid none in
      still s at ahead input out d end h.0.given w.0 safe opens h.0.gave w.1
      (done_answers s at (ahead ++ h.0.given) w.0 end empty w.2)
      (written_unbroken (end_line s.header) w.0 status.Done end w.2 (λ no. no))
      (inl (empty_closes_nothing s (ahead ++ h.0.given) empty))
  | inr some ↦ still s at ahead input out d end h.0.given [] safe opens h.0.gave (e.1 some).1
      (subst (λ (t : List ℕ). Answers s (record { at = at; rest = t }) [] end) h.0.grown
      (bad_answers s at mid wrong end h.1 some (e.1 some).0))
      (λ un. refl) (inr refl)
]
kept_off s at ahead mid input out d piece.Failed end safe opens h e =
    still s at ahead input out d end h.0.given [] safe opens h.0.gave e.1
    (subst (λ (t : List ℕ). Answers s (record { at = at; rest = t }) [] end) h.0.grown
    (unread_answers s at mid end h.1 e.0))
    (λ un. refl) (inr refl)
kept_off s at ahead mid input out d piece.NoMemory end safe opens h e =
    still s at ahead input out d end h.0 [] safe opens h.1 e.1
    (memory_answers s (record { at = at; rest = ahead ++ h.0 }) end e.0) (λ un. refl) (inr refl)

-- ---- a roll before the first record

-- what is kept opens as before, with no record more
rolled_onward : (s : ClosingState) (text : List ℕ) (d e : Image) → OpensEither s s d e → OpensOnward s text d e
rolled_onward s text d e either o = (0, opens_none s text e (one_of s e (either o)))

rolled_runs : (s : ClosingState) (text : List ℕ) (old mid new : Disk) → IsSafe mid → OpensTo mid.reads s
    → Runs (OpensEither s s) old mid → Runs (OpensOnward s text) mid new → Runs (OpensOnward s text) old new
rolled_runs s text old mid new safe opens first second =
    onward {first = OpensEither s s} {second = OpensOnward s text} {both = OpensOnward s text} old mid new
    (λ d e c may_d may_e one two o. two (safe_opens mid s safe opens e may_e)) (rolled_onward s text) first second

-- what the records leave after it, they leave from before it on
pub kept_rolled : (s : ClosingState) (at : ℕ) (ahead : List ℕ) (input out : Seen) (old mid new : Disk) (end : Status)
    → IsSafe mid → OpensTo mid.reads s → Runs (OpensEither s s) old mid → KeptOn s at ahead input out mid new end
    → KeptOn s at ahead input out old new end
kept_rolled s at ahead input out old mid new end safe opens runs k = record {
  given = k.given;
  gave = k.gave;
  prefix = k.prefix;
  received = k.received;
  answers = k.answers;
  keeps = record {
    runs = rolled_runs s (ahead ++ k.given) old mid new safe opens runs k.keeps.runs;
    count = k.keeps.count;
    acknowledged = k.keeps.acknowledged;
    unbroken = k.keeps.unbroken;
    crash = k.keeps.crash;
  };
}

-- memory was refused, or the volume failed, before anything was read
pub nothing_kept : (s : ClosingState) (at : ℕ) (ahead : List ℕ) (input out : Seen) (old new : Disk) (end : Status)
    → IsFailedEnd end → IsSafe old → OpensTo old.reads s → Runs (OpensEither s s) old new → Gave input []
    → Received out [] → KeptOn s at ahead input out old new end
nothing_kept s at ahead input out old new end failed safe opens runs gave received =
    let cut = failed_cut end failed in
    let text : List ℕ = ahead ++ [] in
    record {
      given = [];
      gave = gave;
      prefix = [];
      received = received;
      answers = record {
        answer = inr (cut.0, empty_prefix s (record { at = at; rest = text }));
        entire = λ r. absurd (cut.1 r);
      };
      keeps = record {
        runs = widened {step = OpensEither s s} {wider = OpensOnward s text} old new (rolled_onward s text) runs;
        count = 0;
        acknowledged = ack_empty s text [] refl;
        unbroken = λ un. refl;
        crash = λ c may. inl (opens_none s text c (one_of s c (either_left s s old new safe opens runs c may)));
      };
    }

-- ---- a record, and then the rest of the run

within_more : (s : ClosingState) (bytes : List ℕ) (c : PreparedClose) (others : List ℕ) (e : Image)
    → length bytes ≤ max_record_len → IsClose s bytes (Ok c) → OpensWithin c.state others e
    → OpensWithin s (framed bytes ++ others) e
within_more s bytes c others e fits closes (k, o) = (k + 1, opens_more s bytes c others k e fits closes o)

gone_runs : (s : ClosingState) (bytes : List ℕ) (c : PreparedClose) (others : List ℕ) (old mid new : Disk)
    → length bytes ≤ max_record_len → IsClose s bytes (Ok c) → IsSafe mid → OpensTo mid.reads c.state
    → Runs (OpensEither s c.state) old mid → Runs (OpensOnward c.state others) mid new
    → Runs (OpensOnward s (framed bytes ++ others)) old new
gone_runs s bytes c others old mid new fits closes safe opens first second =
    onward {first = OpensEither s c.state} {second = OpensOnward c.state others}
    {both = OpensOnward s (framed bytes ++ others)} old mid new
    (λ d e x may_d may_e one two o. within_more s bytes c others x fits closes
    (two (safe_opens mid c.state safe opens e may_e)))
    (either_onward s bytes others c fits closes) first second

gone_keeps : (s : ClosingState) (bytes : List ℕ) (c : PreparedClose) (others prefix : List ℕ) (old mid new : Disk)
    (end : Status) → length bytes ≤ max_record_len → IsClose s bytes (Ok c) → IsSafe mid → OpensTo mid.reads c.state
    → Runs (OpensEither s c.state) old mid → Keeps c.state others prefix mid new end
    → Keeps s (framed bytes ++ others) (lines_of c ++ prefix) old new end
gone_keeps s bytes c others prefix old mid new end fits closes safe opens runs k = record {
  runs = gone_runs s bytes c others old mid new fits closes safe opens runs k.runs;
  count = k.count + 1;
  acknowledged = ack_more s bytes c others prefix k.count fits closes k.acknowledged;
  unbroken = λ un. ap (λ (t : List ℕ). lines_of c ++ t) (k.unbroken un);
  crash = λ x may. elim (k.crash x may) [
    | inl o ↦ inl (opens_more s bytes c others k.count x fits closes o)
    | inr o ↦ inr (o.0, opens_more s bytes c others (k.count + 1) x fits closes o.1)
  ];
}

gone_answers : (s : ClosingState) (at next : ℕ) (bytes : List ℕ) (c : PreparedClose) (others prefix : List ℕ)
    (end : Status) → length bytes ≤ max_record_len → IsClose s bytes (Ok c) → next ≡ at + length (framed bytes)
    → Answers c.state (record { at = next; rest = others }) prefix end
    → Answers s (record { at = at; rest = framed bytes ++ others }) (lines_of c ++ prefix) end
gone_answers s at next bytes c others prefix end fits closes offset a = record {
  answer = answer_after s bytes c at others prefix end fits closes
      (subst (λ (n : ℕ). IsAnswer (IsRun c.state (record { at = n; rest = others }))
      (IsRunPrefix c.state (record { at = n; rest = others })) prefix end) offset a.answer);
  entire = λ e. complete_after s bytes c at next others prefix fits closes (a.entire e);
}

-- the text from the old offset on, by what was given
text_after : (ahead given framed_one rest later : List ℕ) → ahead ++ given ≡ framed_one ++ rest
    → ahead ++ (given ++ later) ≡ framed_one ++ (rest ++ later)
text_after ahead given framed_one rest later cut =
    sym (append_assoc ahead given later) ∙ ap (λ (t : List ℕ). t ++ later) cut ∙ append_assoc framed_one rest later

pub gone_on : (old new : RunPosition) (input out : Seen) (g : Goes old new input out) (now out_now : Option (List ℕ))
    (faults out_faults : ℕ) (before mid after : Disk) (end : Status) → IsSafe mid → OpensTo mid.reads new.state
    → Runs (OpensEither old.state new.state) before mid
    → KeptOn new.state new.at new.ahead (over input.now now input.faults_now faults)
    (over out.now out_now out.faults_now out_faults) mid after end
    → KeptOn old.state old.at old.ahead (over input.before now input.faults_before faults)
    (over out.before out_now out.faults_before out_faults) before after end
gone_on old new input out g now out_now faults out_faults before mid after end safe opens runs k = record {
  given = g.given ++ k.given;
  gave = Consumes-trans input.before input.now now g.given k.given g.gave k.gave;
  prefix = lines_of g.closed ++ k.prefix;
  received = Appends-trans out.before out.now out_now (lines_of g.closed) k.prefix g.received k.received;
  answers = subst
      (λ (t : List ℕ). Answers old.state (record { at = old.at; rest = t }) (lines_of g.closed ++ k.prefix) end)
      (sym (text_after old.ahead g.given (framed g.bytes) new.ahead k.given g.cut))
      (gone_answers old.state old.at new.at g.bytes g.closed (new.ahead ++ k.given) k.prefix end g.short g.closes g.at
      (subst (λ (x : ClosingState). Answers x (record { at = new.at; rest = new.ahead ++ k.given }) k.prefix end)
      g.state
      k.answers));
  keeps = subst (λ (t : List ℕ). Keeps old.state t (lines_of g.closed ++ k.prefix) before after end)
      (sym (text_after old.ahead g.given (framed g.bytes) new.ahead k.given g.cut))
      (gone_keeps old.state g.bytes g.closed (new.ahead ++ k.given) k.prefix before mid after end g.short g.closes safe
      (subst (λ (x : ClosingState). OpensTo mid.reads x) g.state opens)
      (subst (λ (x : ClosingState). Runs (OpensEither old.state x) before mid) g.state runs)
      (subst (λ (x : ClosingState). Keeps x (new.ahead ++ k.given) k.prefix mid after end) g.state k.keeps));
}

-- whatever the rest of a run leaves from here, the entire run left from its start
abbrev pub CarriesKept : {W : Type 0} → (W → Disk)
    → (s s0 : ClosingState) (at at0 : ℕ) (ahead ahead0 : List ℕ) (input input0 out out0 : Seen)
    → (d d0 : Disk) → Type 0
CarriesKept {W} disk s s0 at at0 ahead ahead0 input input0 out out0 d d0 =
    (later : W) (now out_now : Option (List ℕ)) (faults out_faults : ℕ) (end : Status)
    → KeptOn s at ahead (over input.before now input.faults_before faults)
    (over out.before out_now out.faults_before out_faults) d (disk later) end
    → KeptOn s0 at0 ahead0 (over input0.before now input0.faults_before faults)
    (over out0.before out_now out0.faults_before out_faults) d0 (disk later) end
