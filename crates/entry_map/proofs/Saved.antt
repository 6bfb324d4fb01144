-- The indexes that are kept for undoing.
use Rattle.entry_map.proofs.Prelude.{◌≡◌, ◌≢◌, refl, sym, ap, subst, ◌∙◌, arith, ℕ, ◌+◌, List, [], ◌∷◌, ◌++◌, length}
use Rattle.entry_map.proofs.Prelude.{◌-◌, take, length-append, EntryMap, Undo, IsOpen, opened, kept, PositionMap}
use Rattle.entry_map.proofs.Prelude.{IsIndexOf, IsIndexed, AreIndexes}

prefix : {X : Type 0} (xs ys : List X) → take (length xs) (xs ++ ys) ≡ xs
prefix [] ys = refl
prefix (x ∷ xs) ys = ap (λ r. x ∷ r) (prefix xs ys)

all_but_last : {X : Type 0} (older saved : List X) (x : X) → saved ≡ older ++ x ∷ []
    → take (length saved - 1) saved ≡ older
all_but_last older saved x is = ap (λ s. take (length s - 1) s) is
    ∙ ap (λ n. take n (older ++ x ∷ [])) (one_less (length (older ++ x ∷ [])) (length-append older (x ∷ [])))
    ∙ prefix older (x ∷ [])
  where
    one_less : (n : ℕ) → n ≡ length older + 1 → n - 1 ≡ length older
    one_less n e = omega arith

pub child_saved : (u new : Undo) (index shared : PositionMap) (saved more : List PositionMap) → IsIndexed u index saved
    → shared ≡ index → more ≡ saved ++ shared ∷ [] → new ≡ opened u → IsIndexed new index more
child_saved u new index shared saved more h same is is_new = subst (λ w. IsIndexed w index more) (sym is_new) (record {
  now = h.now;
  earlier = (saved, (shared, (is, (subst (IsIndexOf u.current) (sym same) h.now, h.earlier))));
})

committed : (current base : EntryMap) (maps : List EntryMap) (index : PositionMap) (saved fewer : List PositionMap)
    → IsIndexed (record { current = current; saved = maps; base = base }) index saved → maps ≢ []
    → fewer ≡ take (length saved - 1) saved
    → IsIndexed (kept (record { current = current; saved = maps; base = base })) index fewer
committed current base [] index saved fewer h some is = absurd (some refl)
committed current base (m ∷ ms) index saved fewer h some is = record {
  now = h.now;
  earlier = subst (AreIndexes ms) (sym (is ∙ all_but_last h.earlier.0 saved h.earlier.1.0 h.earlier.1.1.0))
      h.earlier.1.1.1.1;
}

pub kept_saved : (u was new : Undo) (index : PositionMap) (saved fewer : List PositionMap)
    → IsIndexed u index saved → IsOpen was
    → u ≡ was → fewer ≡ take (length saved - 1) saved → new ≡ kept u → IsIndexed new index fewer
kept_saved u was new index saved fewer h some same is is_new = subst (λ w. IsIndexed w index fewer) (sym is_new)
    (committed u.current u.base u.saved index saved fewer h (λ e. some (ap (λ (w : Undo). w.saved) (sym same) ∙ e)) is)
