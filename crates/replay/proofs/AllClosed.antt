-- The outcome of a run that writes a file of records that all close ledgers.
use Rattle.replay.proofs.Prelude.{◌≡◌, ◌⊎◌, ℕ, ◌+◌, ◌≤◌, List, [], ◌∷◌, ◌++◌, length, Result, Ok, refl, sym, ap}
use Rattle.replay.proofs.Prelude.{subst, ◌∙◌, inl, inr, append_assoc, append-nil, All-head, All-tail, XdrFault}
use Rattle.replay.proofs.Prelude.{Position, Reading, start_of, ClosingState, StartImage, ImageFault, IsJudged}
use Rattle.replay.proofs.Prelude.{framed, frames, max_record_len, network_id_of, start_image, images_are_one, Seen}
use Rattle.replay.proofs.Prelude.{Status}
use Rattle.stored_outcome.specs.run_outcome.declared.status.Status.TheVariants as status
use Rattle.stored_outcome.specs.run_outcome.Closes.{AreClosesOf, IsCloseOf, RecordClose}
use Rattle.stored_outcome.specs.run_outcome.FileRun.{FileKind, FileOutcome, IsFileEnd, IsFileOutcome, IsFileOutcomeOf}
use Rattle.stored_outcome.specs.run_outcome.FileRun.{IsFileStarted, with_file}
use Rattle.reports.proofs.OneKind.{IsDetermined}
use Rattle.replay.proofs.Runs.{AreShort, framed_apart, nothing_framed}
use Rattle.replay.proofs.OneFile.{Rest, after_first, at_its_end, no_stop, rest_of, same_record_close, stop_at}
use Rattle.replay.proofs.FilesAnswered.{writings_complete}
use Rattle.replay.specs.FileLaws.{AreAllClosed, IsAnsweredWith, IsWritingDone, Writings}

-- an outcome is the file of these closes
abbrev IsFileOf : FileKind → (start : ClosingState) → List RecordClose → FileOutcome → Type 0
IsFileOf kind start closes o = (text : List ℕ) × kind.IsText start closes text × (o ≡ with_file text)

file_at_end : (kind : FileKind) (start : ClosingState) (closes : List RecordClose) (s : ClosingState) (at : ℕ)
    (text : List ℕ) (o : FileOutcome) → IsFileEnd kind start closes s at text o → text ≡ []
    → IsFileOf kind start closes o
file_at_end kind start closes s at text o ends e =
    subst (λ (t : List ℕ). IsFileEnd kind start closes s at t o) e ends

-- the records that are left after these closes all close ledgers
record Left (kind : FileKind) (before : List RecordClose) (s : ClosingState) (text : List ℕ) (records : List (List ℕ))
    (closes : List RecordClose) : Type 0 where
  pub cut : text ≡ frames records
  pub short : AreShort records
  pub now : ClosingState
  pub closed : AreClosesOf s records closes now
  pub small : kind.AreSmall (before ++ closes)

left_after_first : (kind : FileKind) (before : List RecordClose) (s : ClosingState) (text w : List ℕ)
    (records : List (List ℕ)) (c : RecordClose) (closes : List RecordClose)
    → Left kind before s text (w ∷ records) (c ∷ closes)
    → Left kind (before ++ c ∷ []) c.closed.state (frames records) records closes
left_after_first kind before s text w records c closes h = record {
  cut = refl;
  short = All-tail (λ bytes. length bytes ≤ max_record_len) w records h.short;
  now = h.now;
  closed = h.closed.1;
  small = subst (λ (l : List RecordClose). kind.AreSmall l) (sym (append_assoc before (c ∷ []) closes)) h.small;
}

file_of_left : (kind : FileKind) → IsDetermined kind → (start : ClosingState) (before : List RecordClose)
    (s : ClosingState) (at : ℕ) (text : List ℕ) (records : List (List ℕ)) (closes : List RecordClose)
    (others : List (List ℕ)) (more : List RecordClose) (o : FileOutcome)
    → Rest kind start before s at text records closes o → Left kind before s text others more
    → IsFileOf kind start (before ++ more) o
file_of_left kind det start before s at text [] [] [] [] o h i =
    subst (λ (l : List RecordClose). IsFileOf kind start l o) (sym (append-nil before))
    (file_at_end kind start before s at text o (at_its_end kind start before s at text o h) i.cut)
file_of_left kind det start before s at text [] [] (w ∷ ws) (d ∷ ds) o h i =
    let stop = stop_at kind start before s at text w (frames ws) o (at_its_end kind start before s at text o h) i.cut
    (All-head (λ bytes. length bytes ≤ max_record_len) w ws i.short) in
    absurd (no_stop kind det before s w (record { at = at + length (framed w); rest = frames ws }) o d ds stop
    i.closed.0 i.small)
file_of_left kind det start before s at text (v ∷ vs) (c ∷ cs) [] [] o h i =
    absurd (nothing_framed v (frames vs ++ h.rest)
    (sym i.cut ∙ h.cut ∙ append_assoc (framed v) (frames vs) h.rest))
file_of_left kind det start before s at text (v ∷ vs) (c ∷ cs) (w ∷ ws) (d ∷ ds) o h i =
    let P : List ℕ → Type 0 = λ (b : List ℕ). length b ≤ max_record_len in
    let text_left : List ℕ = frames vs ++ h.rest in
    let apart = framed_apart v w text_left (frames ws) (All-head P v vs h.short) (All-head P w ws i.short)
    (sym (append_assoc (framed v) (frames vs) h.rest) ∙ sym h.cut ∙ i.cut) in
    let same : d ≡ c = same_record_close s w d c i.closed.0
    (subst (λ (t : List ℕ). IsCloseOf s t c) apart.0 h.closed.0) in
    let first = after_first kind start before s at text v text_left vs c cs o h refl in
    let second = left_after_first kind before s text w ws d ds i in
    let third = subst (λ (x : RecordClose). Left kind (before ++ x ∷ []) x.closed.state (frames ws) ws ds) same second
    in
    let fourth = subst (λ (t : List ℕ). Left kind (before ++ c ∷ []) c.closed.state t ws ds) (sym apart.1) third in
    let file = file_of_left kind det start (before ++ c ∷ []) c.closed.state (at + length (framed v)) text_left vs cs ws
    ds o first fourth in
    subst (λ (l : List RecordClose). IsFileOf kind start l o)
    (append_assoc before (c ∷ []) ds ∙ ap (λ (x : RecordClose). before ++ x ∷ ds) (sym same)) file
file_of_left kind det start before s at text [] (c ∷ cs) others more o h i = absurd h.closed
file_of_left kind det start before s at text (v ∷ vs) [] others more o h i = absurd h.closed
file_of_left kind det start before s at text records closes [] (d ∷ ds) o h i = absurd i.closed
file_of_left kind det start before s at text records closes (w ∷ ws) [] o h i = absurd i.closed

module _ (kind : FileKind) (det : IsDetermined kind) (passphrase bytes : List ℕ) (start : ClosingState)
    (closes : List RecordClose) (all : AreAllClosed passphrase bytes start closes) (small : kind.AreSmall closes) where
  of_start : (judged : Result ClosingState ImageFault) (o : FileOutcome)
      → IsJudged (network_id_of passphrase) all.image judged → IsFileStarted kind judged all.position o
      → IsFileOf kind start closes o
  of_start judged o is started =
      let run = subst (λ (j : Result ClosingState ImageFault). IsFileStarted kind j all.position o)
      (images_are_one (network_id_of passphrase) all.image judged (Ok start) is all.judged) started in
      file_of_left kind det start [] start all.position.at all.position.rest run.records run.closes all.records closes o
      (rest_of kind start all.position o run)
      (record { cut = all.cut; short = all.short; now = all.now; closed = all.closed; small = small })

  file_of : (o : FileOutcome) → IsFileOutcome kind passphrase bytes o → IsFileOf kind start closes o
  file_of o is =
      let one = subst (λ (r : Reading XdrFault StartImage). IsFileOutcomeOf kind (network_id_of passphrase) r o)
      all.reads is in
      of_start one.0 o one.1 one.2

  -- what answers the outcome of these records is their file
  pub done_by : (out err : Seen) (end : Status)
      → ((o : FileOutcome) × IsFileOutcome kind passphrase bytes o × IsAnsweredWith o out err end)
      ⊎ (end ≡ status.NoMemory)
      → ((text : List ℕ) × kind.IsText start closes text × IsAnsweredWith (with_file text) out err end)
      ⊎ (end ≡ status.NoMemory)
  done_by out err end (inr e) = inr e
  done_by out err end (inl (o, is, said)) =
      let file = file_of o is in
      inl (file.0, file.1, subst (λ (x : FileOutcome). IsAnsweredWith x out err end) file.2 said)

pub writings_done : (kind : FileKind) → IsDetermined kind → Writings kind (IsWritingDone kind)
writings_done kind det passphrase bytes input out err end did reported start closes all small none =
    done_by kind det passphrase bytes start closes all small out err end
    (writings_complete kind passphrase bytes input out err end did reported none)
