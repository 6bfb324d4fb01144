-- One close more at the end of others.
use Rattle.reports.proofs.Prelude.{◌≡◌, ℕ, List, [], ◌∷◌, ◌++◌, refl, sym, ap, subst, ◌∙◌, append-nil, append_assoc}
use Rattle.reports.proofs.Prelude.{ClosingState, RecordClose, IsCloseOf, AreClosesOf, framed, frames}
use Rattle.archive_files.specs.declared.history.History.{History}
use Rattle.archive_files.specs.Added.{added, IsSmall}
use Rattle.change_stream.specs.declared.change.Change.{Change}
use Rattle.run_outcome.specs.HistoryRun.{closed_of, files_with, AreSmallWith}
use Rattle.run_outcome.specs.ChangesRun.{AreChangesIn, IsTextOfChanges, change_records}

-- ---- records

pub closes_more : (s : ClosingState) (records : List (List ℕ)) (closes : List RecordClose) (now : ClosingState)
    (bytes : List ℕ) (c : RecordClose) → AreClosesOf s records closes now → IsCloseOf now bytes c
    → AreClosesOf s (records ++ bytes ∷ []) (closes ++ c ∷ []) c.closed.state
closes_more s [] [] now bytes c h is = (subst (λ (x : ClosingState). IsCloseOf x bytes c) h is, refl)
closes_more s [] (d ∷ ds) now bytes c h is = absurd h
closes_more s (b ∷ bs) [] now bytes c h is = absurd h
closes_more s (b ∷ bs) (d ∷ ds) now bytes c h is = (h.0, closes_more d.closed.state bs ds now bytes c h.1 is)

pub frames_more : (records : List (List ℕ)) (bytes : List ℕ)
    → frames (records ++ bytes ∷ []) ≡ frames records ++ framed bytes
frames_more [] bytes = append-nil (framed bytes)
frames_more (b ∷ bs) bytes =
    ap (λ (t : List ℕ). framed b ++ t) (frames_more bs bytes) ∙ sym (append_assoc (framed b) (frames bs) (framed bytes))

-- ---- files

pub files_more : (h : History) (closes : List RecordClose) (c : RecordClose)
    → files_with h (closes ++ c ∷ []) ≡ added (files_with h closes) (closed_of c)
files_more h [] c = refl
files_more h (d ∷ ds) c = files_more (added h (closed_of d)) ds c

pub small_more : (h : History) (closes : List RecordClose) (c : RecordClose) → AreSmallWith h closes
    → IsSmall (added (files_with h closes) (closed_of c)) → AreSmallWith h (closes ++ c ∷ [])
small_more h [] c are small = (small, tt)
small_more h (d ∷ ds) c are small = (are.0, small_more (added h (closed_of d)) ds c are.1 small)

-- ---- changes

pub text_more : (closes : List RecordClose) (text : List ℕ) (c : RecordClose) (changes : List Change)
    → IsTextOfChanges closes text → AreChangesIn c changes
    → IsTextOfChanges (closes ++ c ∷ []) (text ++ change_records changes)
text_more [] text c changes h are = (
  changes,
  [],
  are,
  refl,
  ap (λ (t : List ℕ). t ++ change_records changes) h ∙ sym (append-nil (change_records changes)),
)
text_more (d ∷ ds) text c changes h are = (
  h.0,
  h.1 ++ change_records changes,
  h.2,
  text_more ds h.1 c changes h.3 are,
  ap (λ (t : List ℕ). t ++ change_records changes) h.4
      ∙ append_assoc (change_records h.0) h.1 (change_records changes),
)
