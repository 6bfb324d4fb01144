-- Levels that represent a map represent the next one after a step.
use Rattle.bucket_levels.proofs.Prelude.{◌≡◌, ℕ, List, [], ◌∷◌, Option, Some, None, length, refl, sym, ap, ◌∙◌, lit<}
use Rattle.bucket_levels.proofs.Prelude.{LedgerEntry, LedgerKey, Change, Init, Live, Dead, Contents, change_at}
use Rattle.bucket_levels.proofs.Prelude.{level_count, Pair, pair_at, IsStep, prepended, entry_after, entry_by}
use Rattle.bucket_levels.proofs.Prelude.{changes_of, files_of, MayFollow, AreMarkedWell, Represent, AreWellMarked}
use Rattle.std.specs.FinMap.{get}
use Rattle.entry_map.specs.EntryMap.{EntryMap}
use Rattle.bucket_levels.specs.Fresh.{BecameOf, IsFresh}
use Rattle.bucket_levels.specs.Laws.{StepsRepresent}
use Rattle.bucket_levels.proofs.Climb.{step_replaces}

-- ---- the fresh file first

some_is_there : (e : LedgerEntry) → Some e ≡ None → ⊥
some_is_there e h = cc

made_on_nothing : (e : LedgerEntry) (xs : List Change) → entry_by xs ≡ None → MayFollow (Init e) xs
made_on_nothing e [] h = tt
made_on_nothing e (Init f ∷ xs) h = some_is_there f h
made_on_nothing e (Live f ∷ xs) h = some_is_there f h
made_on_nothing e (Dead ∷ xs) h = tt

changed_on_entry : (e : LedgerEntry) (xs : List Change) → (entry_by xs ≡ None → ⊥) → MayFollow (Live e) xs
changed_on_entry e [] h = tt
changed_on_entry e (Init f ∷ xs) h = tt
changed_on_entry e (Live f ∷ xs) h = tt
changed_on_entry e (Dead ∷ xs) h = h refl

removed_on_entry : (xs : List Change) → (entry_by xs ≡ None → ⊥) → MayFollow Dead xs
removed_on_entry [] h = tt
removed_on_entry (Init f ∷ xs) h = tt
removed_on_entry (Live f ∷ xs) h = tt
removed_on_entry (Dead ∷ xs) h = h refl

-- what became of an entry may follow what was said of it
may_follow : (before after : EntryMap) (k : LedgerKey) (c : Change) (xs : List Change) → get before k ≡ entry_by xs
    → BecameOf before after k c → MayFollow c xs
may_follow before after k (Init e) xs is b = made_on_nothing e xs (sym is ∙ ap (get before) (sym b.0) ∙ b.1.1)
may_follow before after k (Live e) xs is b =
    changed_on_entry e xs
    (λ none. some_is_there b.1.1.0 (sym b.1.1.1 ∙ ap (get before) b.0 ∙ is ∙ none))
may_follow before after k Dead xs is b = removed_on_entry xs (λ none. b.0 (is ∙ none))

entry_became : (before after : EntryMap) (k : LedgerKey) (c : Change) → BecameOf before after k c
    → get after k ≡ entry_after c
entry_became before after k (Init e) b = ap (get after) (sym b.0) ∙ b.1.0
entry_became before after k (Live e) b = ap (get after) (sym b.0) ∙ b.1.0
entry_became before after k Dead b = b.1

fresh_prepended : (before after : EntryMap) (fresh : Contents) (k : LedgerKey) (xs : List Change)
    → IsFresh before after fresh → AreMarkedWell xs → get before k ≡ entry_by xs
    → (o : Option Change) → change_at fresh k ≡ o
    → AreMarkedWell (prepended o xs) × (get after k ≡ entry_by (prepended o xs))
unfolding AreMarkedWell
fresh_prepended before after fresh k xs f w is None e = (w, f.others k e ∙ is)
fresh_prepended before after fresh k xs f w is (Some c) e =
    let b = (f.changes k c).0 e in ((may_follow before after k c xs is b, w), entry_became before after k c b)

-- ---- the levels

exists_after : (seq : ℕ) (fresh : Contents) (old new : List Pair) (before after : EntryMap) → length old ≡ level_count
    → AreWellMarked old → Represent old before → IsFresh before after fresh → IsStep seq fresh old new
    → (k : LedgerKey) → AreMarkedWell (changes_of (files_of new) k)
    × (get after k ≡ entry_by (changes_of (files_of new) k))
exists_after seq fresh old new before after count w is f step k =
    let prefix = fresh_prepended before after fresh k (changes_of (files_of old) k) f (w.marks k) (is k)
    (change_at fresh k) refl in
    let exists = (step_replaces seq fresh old new k count w.deepest step).by prefix.0 in
    (exists.well, prefix.1 ∙ sym exists.entry)

-- the deepest level never spills, so that nothing comes after its curr
deepest_stays : (seq : ℕ) (fresh : Contents) (old new : List Pair) → IsStep seq fresh old new
    → (pair_at new 10).snap ≡ (pair_at old 10).snap
deepest_stays seq fresh old new step = (step.pairs 10 (lit< tt)).snap

pub steps_represent : StepsRepresent
steps_represent seq fresh old new before after count w is f step =
    let at = exists_after seq fresh old new before after count w is f step in (
      record {
        marks = λ k. (at k).0;
        deepest = deepest_stays seq fresh old new step ∙ w.deepest;
      },
      λ k. (at k).1,
    )
