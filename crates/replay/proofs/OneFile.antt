-- An input has one outcome of a run that writes a file.
use Rattle.replay.proofs.Prelude.{◌≡◌, ◌⊎◌, ℕ, ◌+◌, ◌≤◌, List, [], ◌∷◌, ◌++◌, length, Result, Ok, Err, refl, sym, ap}
use Rattle.replay.proofs.Prelude.{subst}
use Rattle.replay.proofs.Prelude.{◌∙◌, inl, inr, add-zero, append_assoc, append-nil, arith, length-append, All-head}
use Rattle.replay.proofs.Prelude.{All-tail, Hash, XdrFault, Position, Reading, start_of, CloseFault, ClosingState}
use Rattle.replay.proofs.Prelude.{PreparedClose, StartImage, ImageFault, IsJudged, framed, frames, max_record_len}
use Rattle.replay.proofs.Prelude.{network_id_of, start_image, images_are_one}
use Rattle.stored_outcome.specs.close_rules.declared.image_fault.ImageFault.TheVariants as image_fault
use Rattle.stored_outcome.specs.close_rules.xdr_header.declared.record.CloseRecord.{CloseRecord}
use Rattle.stored_outcome.specs.run_outcome.declared.status.Status.TheVariants as status
use Rattle.stored_outcome.specs.run_outcome.Closes.{AreClosesOf, IsCloseOf, RecordClose}
use Rattle.stored_outcome.specs.run_outcome.FileRun.{FileKind, FileOutcome, IsFileEnd, IsFileOutcome, IsFileOutcomeOf}
use Rattle.stored_outcome.specs.run_outcome.FileRun.{IsFileRun, IsFileStarted, IsFileStop, with_file}
use Rattle.reports.proofs.Marking.{framed_is_read, read_mark}
use Rattle.replay.proofs.Runs.{AreShort, framed_apart, not_both, nothing_framed, same_close, same_refusal}
use Rattle.reports.proofs.OneKind.{IsDetermined}
use Rattle.replay.specs.FileLaws.{FileOutcomesAreOne}

-- ---- closes

abbrev read_of : Result CloseRecord XdrFault → Result CloseRecord XdrFault
read_of r = r

record_of : (a b : CloseRecord) → read_of (Ok a) ≡ Ok b → a ≡ b
record_of a b e = cc

pub same_record_close : (s : ClosingState) (bytes : List ℕ) (c d : RecordClose) → IsCloseOf s bytes c
    → IsCloseOf s bytes d → c ≡ d
same_record_close s bytes c d h i =
    let befores : c.before ≡ d.before = h.before ∙ sym i.before in
    let closings : c.closing ≡ d.closing = record_of c.closing d.closing (sym h.reads ∙ i.reads) in
    let closeds : c.closed ≡ d.closed = same_close s bytes c.closed d.closed h.closes i.closes in
    λ k. record { before = befores k; closing = closings k; closed = closeds k }

-- ---- ends

file_of_text : (kind : FileKind) → IsDetermined kind → (start : ClosingState) (closes : List RecordClose)
    (a b : FileOutcome) (t u : List ℕ) → kind.IsText start closes t → kind.IsText start closes u → a ≡ with_file t
    → b ≡ with_file u → a ≡ b
file_of_text kind det start closes a b t u h i e f =
    e ∙ ap (λ (x : List ℕ). with_file x) (det.text start closes t u h i) ∙ sym f

same_file_stop : (kind : FileKind) (closes : List RecordClose) (s : ClosingState) (r : Reading XdrFault (List ℕ))
    (a b : FileOutcome) → IsFileStop kind closes s r a → IsFileStop kind closes s r b → a ≡ b
same_file_stop kind closes s (Err wrong) a b h i = h ∙ sym i
same_file_stop kind closes s (Ok x) a b (inl h) (inl i) =
    h.2 ∙ ap (λ (w : CloseFault). kind.refused s.header w) (same_refusal s x.0 h.0 i.0 h.1 i.1) ∙ sym i.2
same_file_stop kind closes s (Ok x) a b (inl h) (inr i) = absurd (not_both s x.0 i.0.closed h.0 i.1.closes h.1)
same_file_stop kind closes s (Ok x) a b (inr h) (inl i) = absurd (not_both s x.0 h.0.closed i.0 h.1.closes i.1)
same_file_stop kind closes s (Ok x) a b (inr h) (inr i) = h.3 ∙ sym i.3

same_file_end : (kind : FileKind) → IsDetermined kind → (start : ClosingState) (closes : List RecordClose)
    (s : ClosingState) (at : ℕ) (text : List ℕ) (a b : FileOutcome) → IsFileEnd kind start closes s at text a
    → IsFileEnd kind start closes s at text b → a ≡ b
same_file_end kind det start closes s at [] a b h i =
    file_of_text kind det start closes a b h.0 i.0 h.1 i.1 h.2 i.2
same_file_end kind det start closes s at (byte ∷ rest) a b h i =
    same_file_stop kind closes s (read_mark (record { at = at; rest = byte ∷ rest })) a b h i

-- a record at the start of what is left stops the run: it doesn't close the ledger, or the close is too large
pub stop_at : (kind : FileKind) (start : ClosingState) (closes : List RecordClose) (s : ClosingState) (at : ℕ)
    (text bytes rest : List ℕ) (o : FileOutcome) → IsFileEnd kind start closes s at text o → text ≡ framed bytes ++ rest
    → length bytes ≤ max_record_len
    → IsFileStop kind closes s (Ok (bytes, record { at = at + length (framed bytes); rest = rest })) o
stop_at kind start closes s at [] bytes rest o h e short = absurd (nothing_framed bytes rest e)
stop_at kind start closes s at (byte ∷ more) bytes rest o h e short =
    let r = ap (λ (t : List ℕ). read_mark (record { at = at; rest = t })) e ∙ framed_is_read at bytes rest short in
    subst (λ (x : Reading XdrFault (List ℕ)). IsFileStop kind closes s x o) r h

pub no_stop : (kind : FileKind) → IsDetermined kind → (closes : List RecordClose) (s : ClosingState) (bytes : List ℕ)
    (q : Position) (o : FileOutcome) (c : RecordClose) (more : List RecordClose)
    → IsFileStop kind closes s (Ok (bytes, q)) o → IsCloseOf s bytes c → kind.AreSmall (closes ++ c ∷ more) → ⊥
no_stop kind det closes s bytes q o c more (inl h) is small = not_both s bytes c.closed h.0 is.closes h.1
no_stop kind det closes s bytes q o c more (inr h) is small =
    det.apart closes c more small
    (subst (λ (x : RecordClose). kind.IsTooLarge closes x) (same_record_close s bytes h.0 c h.1 is) h.2)

-- ---- runs

-- what is left of a run after these closes
pub record Rest (kind : FileKind) (start : ClosingState) (before : List RecordClose) (s : ClosingState) (at : ℕ)
    (text : List ℕ) (records : List (List ℕ)) (closes : List RecordClose) (o : FileOutcome) : Type 0 where
  pub rest : List ℕ
  pub cut : text ≡ frames records ++ rest
  pub short : AreShort records
  pub state : ClosingState
  pub closed : AreClosesOf s records closes state
  pub small : kind.AreSmall (before ++ closes)
  pub ends : IsFileEnd kind start (before ++ closes) state (at + length (frames records)) rest o

-- nothing is left but the end
pub at_its_end : (kind : FileKind) (start : ClosingState) (before : List RecordClose) (s : ClosingState) (at : ℕ)
    (text : List ℕ) (o : FileOutcome) → Rest kind start before s at text [] [] o
    → IsFileEnd kind start before s at text o
at_its_end kind start before s at text o h =
    let first = subst (λ (l : List RecordClose). IsFileEnd kind start l h.state (at + 0) h.rest o) (append-nil before)
    h.ends in
    let second = subst (λ (x : ClosingState). IsFileEnd kind start before x (at + 0) h.rest o) h.closed first in
    let third = subst (λ (n : ℕ). IsFileEnd kind start before s n h.rest o) (add-zero at) second in
    subst (λ (t : List ℕ). IsFileEnd kind start before s at t o) (sym h.cut) third

pub after_first : (kind : FileKind) (start : ClosingState) (before : List RecordClose) (s : ClosingState) (at : ℕ)
    (text w others : List ℕ) (records : List (List ℕ)) (c : RecordClose) (closes : List RecordClose) (o : FileOutcome)
    → (h : Rest kind start before s at text (w ∷ records) (c ∷ closes) o) → others ≡ frames records ++ h.rest
    → Rest kind start (before ++ c ∷ []) c.closed.state (at + length (framed w)) others records closes o
after_first kind start before s at text w others records c closes o h e =
    let same : before ++ c ∷ closes ≡ (before ++ c ∷ []) ++ closes = sym (append_assoc before (c ∷ []) closes) in
    let offset : at + length (framed w ++ frames records) ≡ at + length (framed w) + length (frames records) =
    omega (arith, length-append (framed w) (frames records)) in
    record {
      rest = h.rest;
      cut = e;
      short = All-tail (λ bytes. length bytes ≤ max_record_len) w records h.short;
      state = h.state;
      closed = h.closed.1;
      small = subst (λ (l : List RecordClose). kind.AreSmall l) same h.small;
      ends = subst (λ (n : ℕ). IsFileEnd kind start ((before ++ c ∷ []) ++ closes) h.state n h.rest o) offset
          (subst (λ (l : List RecordClose). IsFileEnd kind start l h.state (at + length (framed w ++ frames records))
          h.rest o) same h.ends);
    }

-- a run that stops where another one goes on
no_end_before : (kind : FileKind) → IsDetermined kind → (start : ClosingState) (before : List RecordClose)
    (s : ClosingState) (at : ℕ) (text w : List ℕ) (records : List (List ℕ)) (c : RecordClose)
    (closes : List RecordClose) (a b : FileOutcome) → Rest kind start before s at text [] [] a
    → Rest kind start before s at text (w ∷ records) (c ∷ closes) b → a ≡ b
no_end_before kind det start before s at text w records c closes a b h i =
    let others : List ℕ = frames records ++ i.rest in
    let stop = stop_at kind start before s at text w others a (at_its_end kind start before s at text a h)
    (i.cut ∙ append_assoc (framed w) (frames records) i.rest)
    (All-head (λ bytes. length bytes ≤ max_record_len) w records i.short) in
    absurd (no_stop kind det before s w (record { at = at + length (framed w); rest = others }) a c closes stop
    i.closed.0 i.small)

same_rest : (kind : FileKind) → IsDetermined kind → (start : ClosingState) (before : List RecordClose)
    (s : ClosingState) (at : ℕ) (text : List ℕ) (records : List (List ℕ)) (closes : List RecordClose)
    (others : List (List ℕ)) (more : List RecordClose) (a b : FileOutcome)
    → Rest kind start before s at text records closes a → Rest kind start before s at text others more b → a ≡ b
same_rest kind det start before s at text [] [] [] [] a b h i =
    same_file_end kind det start before s at text a b (at_its_end kind start before s at text a h)
    (at_its_end kind start before s at text b i)
same_rest kind det start before s at text [] [] (w ∷ ws) (d ∷ ds) a b h i =
    no_end_before kind det start before s at text w ws d ds a b h i
same_rest kind det start before s at text (v ∷ vs) (c ∷ cs) [] [] a b h i =
    sym (no_end_before kind det start before s at text v vs c cs b a i h)
same_rest kind det start before s at text (v ∷ vs) (c ∷ cs) (w ∷ ws) (d ∷ ds) a b h i =
    let P : List ℕ → Type 0 = λ (b : List ℕ). length b ≤ max_record_len in
    let apart = framed_apart v w (frames vs ++ h.rest) (frames ws ++ i.rest) (All-head P v vs h.short)
    (All-head P w ws i.short)
    (sym (append_assoc (framed v) (frames vs) h.rest) ∙ sym h.cut ∙ i.cut
    ∙ append_assoc (framed w) (frames ws) i.rest) in
    let same : d ≡ c = same_record_close s w d c i.closed.0
    (subst (λ (t : List ℕ). IsCloseOf s t c) apart.0 h.closed.0) in
    let text_left : List ℕ = frames vs ++ h.rest in
    let first = after_first kind start before s at text v text_left vs c cs a h refl in
    let second = after_first kind start before s at text w text_left ws d ds b i apart.1 in
    let third = subst (λ (x : RecordClose). Rest kind start (before ++ x ∷ []) x.closed.state (at + length (framed w))
    text_left ws ds b) same second in
    let fourth = subst (λ (t : List ℕ). Rest kind start (before ++ c ∷ []) c.closed.state (at + length (framed t))
    text_left ws ds b) (sym apart.0) third in
    same_rest kind det start (before ++ c ∷ []) c.closed.state (at + length (framed v)) text_left vs cs ws ds a b first
    fourth
same_rest kind det start before s at text [] (c ∷ cs) others more a b h i = absurd h.closed
same_rest kind det start before s at text (v ∷ vs) [] others more a b h i = absurd h.closed
same_rest kind det start before s at text records closes [] (d ∷ ds) a b h i = absurd i.closed
same_rest kind det start before s at text records closes (w ∷ ws) [] a b h i = absurd i.closed

pub rest_of : (kind : FileKind) (s : ClosingState) (p : Position) (o : FileOutcome) (run : IsFileRun kind s p o)
    → Rest kind s [] s p.at p.rest run.records run.closes o
rest_of kind s p o run = record {
  rest = run.rest;
  cut = run.cut;
  short = run.short;
  state = run.state;
  closed = run.closed;
  small = run.small;
  ends = run.ends;
}

one_run : (kind : FileKind) → IsDetermined kind → (s : ClosingState) (p : Position) (a b : FileOutcome)
    → IsFileRun kind s p a → IsFileRun kind s p b → a ≡ b
one_run kind det s p a b h i =
    same_rest kind det s [] s p.at p.rest h.records h.closes i.records i.closes a b (rest_of kind s p a h)
    (rest_of kind s p b i)

one_started : (kind : FileKind) → IsDetermined kind → (judged : Result ClosingState ImageFault) (p : Position)
    (a b : FileOutcome) → IsFileStarted kind judged p a → IsFileStarted kind judged p b → a ≡ b
one_started kind det (Ok s) p a b h i = one_run kind det s p a b h i
one_started kind det (Err (image_fault.BadImage rule)) p a b h i = h ∙ sym i
one_started kind det (Err image_fault.NoMemory) p a b h i = absurd h

one_of : (kind : FileKind) → IsDetermined kind → (network : Hash) (r : Reading XdrFault StartImage)
    (a b : FileOutcome) → IsFileOutcomeOf kind network r a → IsFileOutcomeOf kind network r b → a ≡ b
one_of kind det network (Err wrong) a b h i = h ∙ sym i
one_of kind det network (Ok x) a b (judged, is, h) (other, also, i) =
    one_started kind det judged x.1 a b h
    (subst (λ (j : Result ClosingState ImageFault). IsFileStarted kind j x.1 b)
    (images_are_one network x.0 other judged also is) i)

pub one_outcome : (kind : FileKind) → IsDetermined kind → FileOutcomesAreOne kind
one_outcome kind det passphrase bytes a b h i =
    one_of kind det (network_id_of passphrase) (start_image.read (start_of bytes)) a b h i
