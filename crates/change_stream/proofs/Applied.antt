-- Changes made one after another.
use Rattle.change_stream.proofs.Prelude.{Applies, AreMadeSoFar, Change, EntryMap, Fits, IsMade, List, [], ap, arith}
use Rattle.change_stream.proofs.Prelude.{changed, get_or, length, subst, suc, sym, take, take_all, take_more, zero, ℕ}
use Rattle.change_stream.proofs.Prelude.{◌+◌, ◌<◌, ◌∙◌, ◌∷◌, ◌≡◌, ◌≤◌}
use Rattle.entry_map.specs.Undo.{Undo, kept, opened, with_current}
use Rattle.change_stream.specs.Applying.{IsApplied, IsStopped}
use Rattle.change_stream.specs.Changes.{Misfits}
use Rattle.change_stream.proofs.Undoing.{applies_both}

-- one change more was made
pub made_next : (old now new : Undo) (cs : List Change) (k index : ℕ) (d : Change) → k < length cs
    → AreMadeSoFar old cs k index now → Fits now.current (get_or cs k d) → IsMade now (get_or cs k d) new
    → AreMadeSoFar old cs (k + 1) (index + 1) new
made_next old now new cs k index d lt h fit made =
    let c : Change = get_or cs k d in
    let map : new.current ≡ changed now.current c = ap (λ u. u.current) made in
    record {
      index = ap (λ n. n + 1) h.index;
      applied = subst (λ l. Applies old.current l new.current) (sym (take_more cs k d lt))
          (applies_both old.current now.current new.current (take k cs) (c ∷ []) h.applied (fit, sym map));
      current = made ∙ ap (λ u. with_current u (changed now.current c)) h.current ∙ ap (with_current old) (sym map);
    }

misfits_after : (m n : EntryMap) (cs : List Change) (k : ℕ) (d : Change) → k < length cs
    → Applies m (take k cs) n → (Fits n (get_or cs k d) → ⊥) → Misfits m cs k
misfits_after m n [] k d lt h wrong = absurd (omega arith)
misfits_after m n (c ∷ cs) zero d lt h wrong = λ f. wrong (subst (λ x. Fits x c) h f)
misfits_after m n (c ∷ cs) (suc k) d lt h wrong =
    (h.0, misfits_after (changed m c) n cs k d (omega arith) h.1 wrong)

-- the next change doesn't fit
pub stopped : (old now : Undo) (cs : List Change) (k index : ℕ) (d : Change) → k < length cs
    → AreMadeSoFar old cs k index now → (Fits now.current (get_or cs k d) → ⊥) → IsStopped old cs index now
stopped old now cs k index d lt h wrong = record {
  map = now.current;
  misfits = subst (λ n. Misfits old.current cs n) (sym h.index)
      (misfits_after old.current now.current cs k d lt h.applied wrong);
  current = h.current;
}

-- all were made
pub all_made : (old now : Undo) (cs : List Change) (k index : ℕ) → length cs ≤ k → AreMadeSoFar old cs k index now
    → IsApplied old cs now
all_made old now cs k index le h = record {
  map = now.current;
  applied = subst (λ l. Applies old.current l now.current) (take_all k cs le) h.applied;
  current = h.current;
}

-- the changes of a child are kept
pub kept_applied : (old child made new : Undo) (cs : List Change) → child ≡ opened old → IsApplied child cs made
    → new ≡ kept made → IsApplied old cs new
kept_applied old child made new cs is h keeps = record {
  map = h.map;
  applied = subst (λ u. Applies u.current cs h.map) is h.applied;
  current = keeps ∙ ap kept (h.current ∙ ap (λ u. with_current u h.map) is);
}
