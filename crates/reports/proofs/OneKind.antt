-- Closes determine what `history` and what `changes` write of them.
use Rattle.reports.proofs.Prelude.{◌≡◌, ◌⊎◌, ℕ, ◌<◌, ◌≤◌, List, [], ◌∷◌, ◌++◌, length, map, refl, sym, ap, subst, ◌∙◌}
use Rattle.reports.proofs.Prelude.{inl}
use Rattle.reports.proofs.Prelude.{inr, arith, ClosingState, RecordClose, FileKind}
use Rattle.std.specs.Prelude.{Contains}
use Rattle.std.specs.Cmp.{tied_itself}
use Rattle.std.specs.declared.cmp.Ordering.TheVariants.{Equal, Less}
use Rattle.std.proofs.lemmas.List.Elements.{All-contains, Contains-append_cases, Contains-append_left}
use Rattle.std.proofs.lemmas.List.Elements.{Contains-append_right, Contains-push, Contains-push_cases}
use Rattle.ledger_types.specs.KeyOrder.{key_cmp}
use Rattle.ledger_types.specs.declared.key.LedgerKey.{LedgerKey}
use Rattle.ledger_types.proofs.KeyOrdering.{keys_total}
use Rattle.ledger_types.proofs.Lists.{map_contains}
use Rattle.entry_map.specs.declared.batch.Batch.{Batch}
use Rattle.entry_map.specs.Batch.{IsBatch}
use Rattle.entry_map.specs.EntryMap.{EntryMap}
use Rattle.entry_map.specs.KeyMaps.{AreRising}
use Rattle.archive_files.specs.declared.history.History.{History}
use Rattle.archive_files.specs.Added.{IsSmall, IsTooLarge, added, no_closes}
use Rattle.change_stream.specs.declared.change.Change.{Change}
use Rattle.change_stream.specs.declared.change.Change.TheVariants.{Created, Removed, Updated}
use Rattle.change_stream.specs.Changes.{AreChangesOf, IsChangeOf, key_in}
use Rattle.run_outcome.specs.HistoryRun.{AreSmallWith, closed_of, files_with, history_file}
use Rattle.run_outcome.specs.ChangesRun.{AreChangesBetween, AreChangesIn, IsTextOfChanges, change_records, changes_file}

-- a kind of file of which closes determine the text, and where what is too large isn't small
pub record IsDetermined (kind : FileKind) : Type 0 where
  pub text : (start : ClosingState) (closes : List RecordClose) (t u : List ℕ) → kind.IsText start closes t
      → kind.IsText start closes u → t ≡ u
  pub apart : (closes : List RecordClose) (c : RecordClose) (more : List RecordClose)
      → kind.AreSmall (closes ++ c ∷ more) → kind.IsTooLarge closes c → ⊥

-- ---- the files of `history`

-- what holds after all closes holds after the first of them
small_here : (h : History) (closes : List RecordClose) (c : RecordClose) (more : List RecordClose)
    → AreSmallWith h (closes ++ c ∷ more) → IsSmall (added (files_with h closes) (closed_of c))
small_here h [] c more are = are.0
small_here h (d ∷ ds) c more are = small_here (added h (closed_of d)) ds c more are.1

not_too_large : (h : History) → IsSmall h → IsTooLarge h → ⊥
not_too_large h small (inl large) = absurd (omega (arith, small.headers, large))
not_too_large h small (inr (inl large)) = absurd (omega (arith, small.sets, large))
not_too_large h small (inr (inr large)) = absurd (omega (arith, small.results, large))

pub history_is_determined : IsDetermined history_file
history_is_determined = record {
  text = λ start closes t u h i. h ∙ sym i;
  apart = λ closes c more small large. not_too_large (added (files_with no_closes closes) (closed_of c))
      (small_here no_closes closes c more small) large;
}

-- ---- changes in the order of their keys

cons_cases : (d : Change) (ds : List Change) (x : Change) → Contains (d ∷ ds) x → (d ≡ x) ⊎ Contains ds x
cons_cases d ds x h = elim (Contains-append_cases (d ∷ []) ds x h) [
  | inl one ↦ elim (Contains-push_cases [] d x one) [
    | inl none ↦ absurd (omega (arith, none.1))
    | inr same ↦ inl same
  ]
  | inr later ↦ inr later
]

first_in : (d : Change) (ds : List Change) → Contains (d ∷ ds) d
first_in d ds = Contains-append_left (d ∷ []) ds d (Contains-push [] d)

later_in : (d : Change) (ds : List Change) (x : Change) → Contains ds x → Contains (d ∷ ds) x
later_in d ds x h = Contains-append_right (d ∷ []) ds x h

above : (d : Change) (ds : List Change) (x : Change) → AreRising (map key_in (d ∷ ds)) → Contains ds x
    → key_cmp (key_in d) (key_in x) ≡ Less
above d ds x rise h =
    All-contains (λ (q : LedgerKey). key_cmp (key_in d) q ≡ Less) (map key_in ds) (key_in x) rise.0
    (map_contains key_in ds x h)

-- a key isn't below itself
no_loop : (k : LedgerKey) → key_cmp k k ≡ Less → ⊥
no_loop k less = let tied : key_cmp k k ≡ Equal = tied_itself keys_total k in absurd cc

same_first : (c d : Change) (cs ds : List Change) → AreRising (map key_in (c ∷ cs)) → AreRising (map key_in (d ∷ ds))
    → (c ≡ d) ⊎ Contains ds c → (d ≡ c) ⊎ Contains cs d → c ≡ d
same_first c d cs ds rise up (inl same) other = same
same_first c d cs ds rise up (inr later) (inl same) = sym same
same_first c d cs ds rise up (inr later) (inr also) =
    absurd (no_loop (key_in c) (keys_total.trans (key_in c) (key_in d) (key_in c) (above c cs d rise also)
    (above d ds c up later)))

swapped : (d x : Change) (P : Type 0) → (d ≡ x) ⊎ P → (x ≡ d) ⊎ P
swapped d x P (inl same) = inl (sym same)
swapped d x P (inr h) = inr h

-- another one than the first is among the later ones
among_later : (c d x : Change) (cs ds : List Change) → AreRising (map key_in (c ∷ cs)) → c ≡ d → Contains cs x
    → (d ≡ x) ⊎ Contains ds x → Contains ds x
among_later c d x cs ds rise same there (inr later) = later
among_later c d x cs ds rise same there (inl is) =
    absurd (no_loop (key_in c) (subst (λ (y : Change). key_cmp (key_in c) (key_in y) ≡ Less) (sym is ∙ sym same)
    (above c cs x rise there)))

same_rising : (cs ds : List Change) → AreRising (map key_in cs) → AreRising (map key_in ds)
    → ((x : Change) → Contains cs x → Contains ds x) → ((x : Change) → Contains ds x → Contains cs x) → cs ≡ ds
same_rising [] [] rise up there back = refl
same_rising [] (d ∷ ds) rise up there back =
    let h = back d (first_in d ds) in absurd (omega (arith, h.1))
same_rising (c ∷ cs) [] rise up there back =
    let h = there c (first_in c cs) in absurd (omega (arith, h.1))
same_rising (c ∷ cs) (d ∷ ds) rise up there back =
    let same : c ≡ d = same_first c d cs ds rise up
    (swapped d c (Contains ds c) (cons_cases d ds c (there c (first_in c cs))))
    (swapped c d (Contains cs d) (cons_cases c cs d (back d (first_in d ds)))) in
    let others : cs ≡ ds = same_rising cs ds rise.1 up.1
    (λ x h. among_later c d x cs ds rise same h (cons_cases d ds x (there x (later_in c cs x h))))
    (λ x h. among_later d c x ds cs up (sym same) h (cons_cases c cs x (back x (later_in d ds x h)))) in
    λ i. same i ∷ others i

-- ---- the changes of closes

-- the changes of one batch are those of another one between the same maps
other_batch : (before after : EntryMap) (one other : Batch) → IsBatch before after one → IsBatch before after other
    → (c : Change) → IsChangeOf before one c → IsChangeOf before other c
other_batch before after one other h i (Created a) is = (i.init a).1 ((h.init a).0 is)
other_batch before after one other h i (Updated b a) is = ((i.live a).1 ((h.live a).0 is.0), is.1, is.2)
other_batch before after one other h i (Removed b) is = ((i.dead _).1 ((h.dead _).0 is.0), is.1)

same_changes : (before after : EntryMap) (cs ds : List Change) → AreChangesBetween before after cs
    → AreChangesBetween before after ds → cs ≡ ds
same_changes before after cs ds (one, h, are) (other, i, also) =
    same_rising cs ds are.rise also.rise
    (λ x there. (also.each x).1 (other_batch before after one other h i x ((are.each x).0 there)))
    (λ x there. (are.each x).1 (other_batch before after other one i h x ((also.each x).0 there)))

same_text : (closes : List RecordClose) (t u : List ℕ) → IsTextOfChanges closes t → IsTextOfChanges closes u → t ≡ u
same_text [] t u h i = h ∙ sym i
same_text (c ∷ closes) t u (cs, more, are, rest, e) (ds, others, also, left, f) =
    e ∙ ap (λ (l : List Change). change_records l ++ more)
    (same_changes c.before.entries c.closed.state.entries cs ds are also)
    ∙ ap (λ (l : List ℕ). change_records ds ++ l) (same_text closes more others rest left) ∙ sym f

pub changes_are_determined : IsDetermined changes_file
changes_are_determined = record {
  text = λ start closes t u h i. same_text closes t u h i;
  apart = λ closes c more small large. large;
}
