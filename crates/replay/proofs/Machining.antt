-- What the machine keeps, whatever happens.
use Rattle.replay.proofs.Prelude.{◌≡◌, ◌⊎◌, inl, inr, ℕ, zero, suc, ◌+◌, ◌≤◌, ◌<◌, List, [], ◌∷◌, ◌++◌, length, Some}
use Rattle.replay.proofs.Prelude.{Ok, IsSome, refl, sym, ap, subst, ◌∙◌, arith, append_assoc, slice_get, ext_get_or}
use Rattle.replay.proofs.Prelude.{length-append, ClosingState, max_file_total, PreparedClose, IsClosed, ClosesWith}
use Rattle.replay.proofs.Prelude.{IsClose, AreClosedTo}
use Rattle.std.proofs.lemmas.Bool.{cases_eq, cases_lt}
use Rattle.std.proofs.lemmas.List.{append-nil}
use Rattle.std.proofs.lemmas.Option.{none-some, same_Some}
use Rattle.stored_outcome.specs.bucket_core.Bucket.{Contents}
use Rattle.worker_merges.specs.bucket_merge.Merge.{IsMerge}
use Rattle.stored_outcome.specs.bucket_levels.Spills.{level_count}
use Rattle.stored_outcome.specs.bucket_levels.Pairs.{Pair, empty_pair, pair_at}
use Rattle.stored_outcome.specs.bucket_levels.Step.{IsStep}
use Rattle.stored_outcome.specs.bucket_levels.Size.{file_total}
use Rattle.stored_outcome.specs.bucket_levels.InOrder.{PendingInputs, InOrder, put_at, IsOfFiles}
use Rattle.stored_outcome.proofs.bucket_levels_proofs.Ordering.{put_same, put_other, steps_are_in_order}
use Rattle.stored_outcome.specs.close_rules.Close.{IsTaken}
use Rattle.stored_outcome.specs.close_rules.declared.close_fault.CloseFault.TheVariants as fault
use Rattle.replay.specs.Machine.{Machine, MadeMerge, IsTake, MayGo, IsWrite, StepsInOrder, IsInstall, IsDue, IsHandIn}
use Rattle.replay.specs.Machine.{IsLeft, IsReopening, Event, Take, Write, Install, HandIn, Reopen, Happens, AllHappen}
use Rattle.replay.specs.Machine.{IsFirst, MayLeave, MachinesKeepUp, LogsGrow}
use Rattle.replay.proofs.Yields.{closed_more}
use Rattle.replay.proofs.Runs.{not_both}
use Rattle.reports.proofs.LedgerNumbers.{next_seq}

abbrev pub in_order : Machine → InOrder
in_order m = record { pairs = pair_at m.state.levels; merges = m.merges; ready = m.ready }

-- what the law says, and what it rests on: merges are those of the files, and the record in hand closes the ledger
pub record IsSound (s : ClosingState) (m : Machine) : Type 0 where
  pub closed : AreClosedTo s m.log m.state
  pub files : IsOfFiles m.state.levels m.state.header.ledger_seq (in_order m)
  pub accepted : (bytes : List ℕ) → m.hand ≡ Some bytes → (closed : PreparedClose) × IsClose m.state bytes (Ok closed)
  pub acked : m.acked ≤ length m.log
  pub may : (index count : ℕ) → slice_get m.may index ≡ Some count → MayLeave m count

-- ---- lists of one and two numbers

index_of_one : (a index count : ℕ) → slice_get (a ∷ []) index ≡ Some count → count ≡ a
index_of_one a zero count e = sym (same_Some a count e)
index_of_one a (suc index) count e = absurd (none-some count e)

index_of_two : (a b index count : ℕ) → slice_get (a ∷ b ∷ []) index ≡ Some count → (count ≡ a) ⊎ (count ≡ b)
index_of_two a b zero count e = inl (sym (same_Some a count e))
index_of_two a b (suc index) count e = inr (index_of_one b index count e)

-- ---- records

still_leaves : (bytes : List ℕ) (m : Machine) (count : ℕ) → MayLeave m count
    → MayLeave (record m { hand = Some bytes }) count
still_leaves bytes m count (inl e) = inl e
still_leaves bytes m count (inr x) = inr (x.0, refl)

take_kept : (s : ClosingState) (bytes : List ℕ) (old new : Machine) → IsTake bytes old new → IsSound s old
    → IsSound s new
take_kept s bytes old new take sound = subst (IsSound s) (sym take.is) (record {
  closed = sound.closed;
  files = sound.files;
  accepted = λ other e. subst (λ (b : List ℕ). (closed : PreparedClose) × IsClose old.state b (Ok closed))
      (same_Some bytes other e) (take.closed, take.accepted);
  acked = sound.acked;
  may = λ index count e. still_leaves bytes old count (sound.may index count e);
})

may_go : (m : Machine) (may : List ℕ) (index count : ℕ) → IsSome m.hand → MayGo (length m.log) m.may may
    → slice_get may index ≡ Some count → MayLeave m count
may_go m may index count some (inl x) e =
    elim (index_of_two (length m.log) (length m.log + 1) index count
    (subst (λ (l : List ℕ). slice_get l index ≡ Some count) x.1 e)) [ inl is ↦ inl is | inr is ↦ inr (is, some) ]
may_go m may index count some (inr (inl x)) e =
    inr (
      index_of_one (length m.log + 1) index count (subst (λ (l : List ℕ). slice_get l index ≡ Some count) x.1 e),
      some,
    )
may_go m may index count some (inr (inr x)) e =
    inr (
      index_of_one (length m.log + 1) index count (subst (λ (l : List ℕ). slice_get l index ≡ Some count) x.1 e),
      some,
    )

write_kept : (s : ClosingState) (old new : Machine) → IsWrite old new → IsSound s old → IsSound s new
write_kept s old new (inl same) sound = subst (IsSound s) (sym same) sound
write_kept s old new (inr (some, go, is)) sound = subst (IsSound s) (sym is) (record {
  closed = sound.closed;
  files = sound.files;
  accepted = sound.accepted;
  acked = sound.acked;
  may = λ index count e. may_go old new.may index count some go e;
})

-- ---- closes

-- files of so many levels are determined by each of them
same_pairs : (some others : List Pair) → length some ≡ level_count → length others ≡ level_count
    → ((level : ℕ) → level < level_count → pair_at some level ≡ pair_at others level) → some ≡ others
same_pairs some others a b each = ext_get_or empty_pair some others (a ∙ sym b) (λ i lt. each i (omega (arith, lt, a)))

-- a close of a record that closes the ledger is its close
accepted_close : (s : ClosingState) (bytes : List ℕ) (taken : IsTaken s bytes) (mine other : PreparedClose)
    → IsClosed s taken.closing mine → IsClose s bytes (Ok other) → IsClose s bytes (Ok mine)
accepted_close s bytes taken mine other closes accepted =
    let with : ClosesWith s bytes mine (file_total mine.state.levels) =
    record { taken = taken; closes = closes; files = refl } in
    elim (cases_lt max_file_total (file_total mine.state.levels)) [
      | inl long ↦ absurd (not_both s bytes other (fault.LedgerFull (file_total mine.state.levels)) accepted
          (mine, with, long))
      | inr fits ↦ (file_total mine.state.levels, with, fits)
    ]

-- the levels of a close in order
record Levelled (old new : Machine) (seq : ℕ) (fresh : Contents) (after : List Pair) : Type 0 where
  step : IsStep (seq + 1) fresh old.state.levels after
  files : IsOfFiles after (seq + 1) (record { pairs = pair_at after; merges = new.merges; ready = new.ready })

levelled : (old new : Machine) (seq : ℕ) (fresh : Contents) (after : List Pair)
    → IsOfFiles old.state.levels seq (in_order old)
    → StepsInOrder old new (seq + 1) fresh old.state.levels after → Levelled old new seq fresh after
levelled old new seq fresh after files steps =
    let order : InOrder = record { pairs = pair_at after; merges = new.merges; ready = new.ready } in
    let law = steps_are_in_order seq fresh old.state.levels (in_order old) order files steps.1 in
    let same : law.0 ≡ after = same_pairs law.0 after law.1.count steps.0
    (λ level lt. sym (law.2.files level lt)) in
    record {
      step = subst (IsStep (seq + 1) fresh old.state.levels) same law.1;
      files = subst (λ (pairs : List Pair). IsOfFiles pairs (seq + 1) order) same law.2;
    }

install_closes : (s : ClosingState) (old new : Machine) → IsSound s old → (i : IsInstall old new)
    → IsClosed old.state i.taken.closing i.closed
install_closes s old new sound i = record {
  results = i.closes.results;
  network = i.closes.network;
  entries = i.closes.entries;
  fresh = i.closes.fresh;
  recorded = i.closes.recorded;
  levels = (levelled old new old.state.header.ledger_seq i.closes.fresh i.closed.state.levels sound.files
      i.closes.levels).step;
  header = i.closes.header;
}

pub install_accepts : (s : ClosingState) (old new : Machine) → IsSound s old → (i : IsInstall old new)
    → IsClose old.state i.bytes (Ok i.closed)
install_accepts s old new sound i =
    let accepted = sound.accepted i.bytes i.hand in
    accepted_close old.state i.bytes i.taken i.closed accepted.0 (install_closes s old new sound i) accepted.1

install_kept : (s : ClosingState) (old new : Machine) → IsInstall old new → IsSound s old → IsSound s new
install_kept s old new i sound =
    let closes = install_accepts s old new sound i in
    let seq = next_seq old.state i.bytes i.closed closes in
    let more = closed_more s old.log sound.closed.0 old.state i.bytes i.closed sound.closed.1 closes in
    let files = (levelled old new old.state.header.ledger_seq i.closes.fresh i.closed.state.levels sound.files
    i.closes.levels).files in
    record {
      closed = subst (λ (x : ClosingState). AreClosedTo s new.log x) (sym i.state)
          (subst (λ (log : List (List ℕ)). AreClosedTo s log i.closed.state) (sym i.log) (more.0, more.1));
      files = subst (λ (x : ClosingState). IsOfFiles x.levels x.header.ledger_seq
          (record { pairs = pair_at x.levels; merges = new.merges; ready = new.ready })) (sym i.state)
          (subst (λ (n : ℕ). IsOfFiles i.closed.state.levels n (record {
            pairs = pair_at i.closed.state.levels;
            merges = new.merges;
            ready = new.ready;
          })) (sym seq) files);
      accepted = λ bytes e. absurd (none-some bytes (sym i.free ∙ e));
      acked = omega (arith, i.acked);
      may = λ index count e.
          inl (index_of_one (length new.log) index count
          (subst (λ (l : List ℕ). slice_get l index ≡ Some count) i.may e));
    }

-- ---- merges

handed_ready : (m : Machine) (made : MadeMerge) (level : ℕ) (outcome : Contents) → IsDue m made
    → ((outcome : Contents) → m.ready level ≡ Some outcome
    → IsMerge level (m.merges level).older (m.merges level).newer outcome)
    → put_at m.ready made.level (Some made.bucket) level ≡ Some outcome
    → IsMerge level (m.merges level).older (m.merges level).newer outcome
handed_ready m made level outcome due was e = elim (cases_eq level made.level) [
  | inl same ↦
      let at : put_at m.ready made.level (Some made.bucket) level ≡ Some made.bucket =
      ap (put_at m.ready made.level (Some made.bucket)) same ∙ put_same m.ready made.level (Some made.bucket) in
      subst (λ (n : ℕ). IsMerge n (m.merges n).older (m.merges n).newer outcome) (sym same)
      (subst (λ (p : PendingInputs). IsMerge made.level p.older p.newer outcome) due.inputs
      (subst (IsMerge made.level made.inputs.older made.inputs.newer)
      (same_Some made.bucket outcome (sym at ∙ e)) made.is))
  | inr other ↦ was outcome (sym (put_other m.ready made.level (Some made.bucket) level other) ∙ e)
]

hand_in_kept : (s : ClosingState) (made : MadeMerge) (old new : Machine) → IsHandIn made old new → IsSound s old
    → IsSound s new
hand_in_kept s made old new (inl (due, is)) sound = subst (IsSound s) (sym is) (record {
  closed = sound.closed;
  files = record {
    count = sound.files.count;
    files = sound.files.files;
    merges = sound.files.merges;
    ready = λ level outcome low lt e.
        handed_ready old made level outcome due (λ o. sound.files.ready level o low lt) e;
  };
  accepted = sound.accepted;
  acked = sound.acked;
  may = sound.may;
})
hand_in_kept s made old new (inr (other, same)) sound = subst (IsSound s) (sym same) sound

-- ---- crashes

-- what is there after a crash, on the files of a state with all its levels
reopened : (s : ClosingState) (old new : Machine) → IsReopening old new → AreClosedTo s new.log new.state
    → length new.state.levels ≡ level_count → new.acked ≤ length new.log → IsSound s new
reopened s old new r closed count acked = record {
  closed = closed;
  files = record {
    count = count;
    files = λ level lt. refl;
    merges = r.merges;
    ready = λ level outcome low lt e. absurd (none-some outcome (sym (r.unready level) ∙ e));
  };
  accepted = λ bytes e. absurd (none-some bytes (sym r.free ∙ e));
  acked = acked;
  may = λ index at e.
      inl (index_of_one (length new.log) index at (subst (λ (l : List ℕ). slice_get l index ≡ Some at) r.may e));
}

reopening_kept : (s : ClosingState) (old new : Machine) (r : IsReopening old new) → IsLeft r.count old new
    → IsSound s old → IsSound s new
reopening_kept s old new r (inl (n, bytes, hand, c, closes, state, log)) sound =
    let more = closed_more s old.log sound.closed.0 old.state bytes c sound.closed.1 closes in
    let longer : length old.log ≤ length new.log =
    omega (arith, ap (λ (l : List (List ℕ)). length l) log, length-append old.log (bytes ∷ [])) in
    reopened s old new r
    (subst (λ (x : ClosingState). AreClosedTo s new.log x) (sym state)
    (subst (λ (l : List (List ℕ)). AreClosedTo s l c.state) (sym log) (more.0, more.1)))
    (ap (λ (x : ClosingState). length x.levels) state ∙ closes.1.closes.levels.count)
    (omega (arith, r.acked, sound.acked, longer))
reopening_kept s old new r (inr (n, state, log)) sound =
    let same : length new.log ≡ length old.log = ap (λ (l : List (List ℕ)). length l) log in
    reopened s old new r
    (subst (λ (x : ClosingState). AreClosedTo s new.log x) (sym state)
    (subst (λ (l : List (List ℕ)). AreClosedTo s l old.state) (sym log) sound.closed))
    (ap (λ (x : ClosingState). length x.levels) state ∙ sound.files.count)
    (omega (arith, r.acked, sound.acked, same))

-- ---- runs

happens_kept : (s : ClosingState) (event : Event) (old new : Machine) → Happens event old new → IsSound s old
    → IsSound s new
happens_kept s (Take bytes) old new h sound = take_kept s bytes old new h sound
happens_kept s Write old new h sound = write_kept s old new h sound
happens_kept s Install old new h sound = install_kept s old new h sound
happens_kept s (HandIn made) old new h sound = hand_in_kept s made old new h sound
happens_kept s Reopen old new h sound = reopening_kept s old new h h.left sound

pub all_kept : (s : ClosingState) (events : List Event) (old new : Machine) → AllHappen events old new → IsSound s old
    → IsSound s new
all_kept s [] old new h sound = subst (IsSound s) (sym h) sound
all_kept s (event ∷ events) old new h sound =
    all_kept s events h.0 new h.2 (happens_kept s event old h.0 h.1 sound)

pub first_sound : (s : ClosingState) (m : Machine) → length s.levels ≡ level_count → IsFirst s m → IsSound s m
first_sound s m count first = record {
  closed = subst (λ (l : List (List ℕ)). AreClosedTo s l m.state) (sym first.log) ([], (refl, first.state));
  files = subst (λ (x : ClosingState). IsOfFiles x.levels x.header.ledger_seq
      (record { pairs = pair_at x.levels; merges = m.merges; ready = m.ready })) (sym first.state) (record {
        count = count;
        files = λ level lt. refl;
        merges = first.merges;
        ready = λ level outcome low lt e. absurd (none-some outcome (sym (first.unready level) ∙ e));
      });
  accepted = λ bytes e. absurd (none-some bytes (sym first.free ∙ e));
  acked = omega (arith, first.acked);
  may = λ index count e. inl
      (index_of_one 0 index count (subst (λ (l : List ℕ). slice_get l index ≡ Some count) first.may e)
      ∙ sym (ap (λ (l : List (List ℕ)). length l) first.log));
}

pub machines_keep_up : MachinesKeepUp
machines_keep_up s first last events count begins happen =
    let sound = all_kept s events first last happen (first_sound s first count begins) in
    record { closed = sound.closed; acked = sound.acked; may = sound.may }

-- ---- logs

grown_as : (old new : List (List ℕ)) → new ≡ old → (more : List (List ℕ)) × (new ≡ old ++ more)
grown_as old new same = ([], same ∙ sym (append-nil old))

log_of_write : (old new : Machine) → IsWrite old new → new.log ≡ old.log
log_of_write old new (inl same) = ap (λ (m : Machine). m.log) same
log_of_write old new (inr (some, go, is)) = ap (λ (m : Machine). m.log) is

log_of_hand_in : (made : MadeMerge) (old new : Machine) → IsHandIn made old new → new.log ≡ old.log
log_of_hand_in made old new (inl (due, is)) = ap (λ (m : Machine). m.log) is
log_of_hand_in made old new (inr (other, same)) = ap (λ (m : Machine). m.log) same

log_left : (count : ℕ) (old new : Machine) → IsLeft count old new → (more : List (List ℕ)) × (new.log ≡ old.log ++ more)
log_left count old new (inl (n, bytes, hand, c, closes, state, log)) = (bytes ∷ [], log)
log_left count old new (inr (n, state, log)) = grown_as old.log new.log log

log_grows : (event : Event) (old new : Machine) → Happens event old new
    → (more : List (List ℕ)) × (new.log ≡ old.log ++ more)
log_grows (Take bytes) old new h = grown_as old.log new.log (ap (λ (m : Machine). m.log) h.is)
log_grows Write old new h = grown_as old.log new.log (log_of_write old new h)
log_grows Install old new h = (h.bytes ∷ [], h.log)
log_grows (HandIn made) old new h = grown_as old.log new.log (log_of_hand_in made old new h)
log_grows Reopen old new h = log_left h.count old new h.left

pub logs_grow : LogsGrow
logs_grow old new [] h = grown_as old.log new.log (ap (λ (m : Machine). m.log) h)
logs_grow old new (event ∷ events) h =
    let one = log_grows event old h.0 h.1 in
    let rest = logs_grow h.0 new events h.2 in
    (one.0 ++ rest.0, rest.1 ∙ ap (λ (l : List (List ℕ)). l ++ rest.0) one.1 ∙ append_assoc old.log one.0 rest.0)
