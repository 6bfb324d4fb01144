-- What two neighbouring files say of a key may be replaced by what their merge says of it.
use Rattle.bucket_levels.proofs.Prelude.{◌≡◌, ℕ, Bool, true, false, cond, eqb, List, [], ◌∷◌, Option, Some, None, refl}
use Rattle.bucket_levels.proofs.Prelude.{option_and_then, LedgerEntry, Change, Init, Live, Dead, joined, kept}
use Rattle.bucket_levels.proofs.Prelude.{merged_change, prepended, entry_by, MayFollow, AreMarkedWell}
use Rattle.bucket_levels.proofs.Marks.{Replaces, itself, in_turn, on_same_newest}

-- ---- what may follow a list

pub may_be_first : (c : Change) → MayFollow c []
may_be_first (Init e) = tt
may_be_first (Live e) = tt
may_be_first Dead = tt

live_where_dead : (e : LedgerEntry) (xs : List Change) → MayFollow Dead xs → MayFollow (Live e) xs
live_where_dead e [] m = tt
live_where_dead e (Init f ∷ xs) m = tt
live_where_dead e (Live f ∷ xs) m = tt
live_where_dead e (Dead ∷ xs) m = m

dead_where_live : (was : LedgerEntry) (xs : List Change) → MayFollow (Live was) xs → MayFollow Dead xs
dead_where_live was [] m = tt
dead_where_live was (Init f ∷ xs) m = tt
dead_where_live was (Live f ∷ xs) m = tt
dead_where_live was (Dead ∷ xs) m = m

-- nothing of a key is there where it is made
none_where_made : (was : LedgerEntry) (xs : List Change) → MayFollow (Init was) xs → entry_by xs ≡ None
none_where_made was [] m = refl
none_where_made was (Init f ∷ xs) m = absurd m
none_where_made was (Live f ∷ xs) m = absurd m
none_where_made was (Dead ∷ xs) m = refl

on_made_or_live : (c : Change) (e f : LedgerEntry) (xs ys : List Change) → MayFollow c (Init e ∷ xs)
    → MayFollow c (Live f ∷ ys)
on_made_or_live (Init d) e f xs ys m = m
on_made_or_live (Live d) e f xs ys m = tt
on_made_or_live Dead e f xs ys m = tt

on_live_or_made : (c : Change) (e f : LedgerEntry) (xs ys : List Change) → MayFollow c (Live e ∷ xs)
    → MayFollow c (Init f ∷ ys)
on_live_or_made (Init d) e f xs ys m = m
on_live_or_made (Live d) e f xs ys m = tt
on_live_or_made Dead e f xs ys m = tt

-- what may follow a removal may follow what the making of the entry followed
on_removed : (c : Change) (was : LedgerEntry) (xs ys : List Change) → MayFollow (Init was) xs
    → MayFollow c (Dead ∷ ys) → MayFollow c xs
on_removed (Init e) was xs ys i m = i
on_removed (Live e) was xs ys i m = absurd m
on_removed Dead was xs ys i m = absurd m

-- ---- what both say of a key

both_replaced : (older newer : Change) (xs : List Change)
    → Replaces (newer ∷ older ∷ xs) (prepended (joined older newer) xs)
unfolding AreMarkedWell
both_replaced Dead (Init e) xs = record {
  by = λ w. record {
    well = (live_where_dead e xs w.1.0, w.1.1);
    entry = refl;
    carries = λ c m. on_made_or_live c e e (Dead ∷ xs) xs m;
  };
}
both_replaced Dead (Live e) xs = record { by = λ w. absurd w.0 }
both_replaced Dead Dead xs = record { by = λ w. absurd w.0 }
both_replaced (Init was) (Init e) xs = record { by = λ w. absurd w.0 }
both_replaced (Init was) (Live e) xs = record {
  by = λ w. record {
    well = (w.1.0, w.1.1);
    entry = refl;
    carries = λ c m. on_live_or_made c e e (Init was ∷ xs) xs m;
  };
}
both_replaced (Init was) Dead xs = record {
  by = λ w. record {
    well = w.1.1;
    entry = none_where_made was xs w.1.0;
    carries = λ c m. on_removed c was xs (Init was ∷ xs) w.1.0 m;
  };
}
both_replaced (Live was) (Init e) xs = record { by = λ w. absurd w.0 }
both_replaced (Live was) (Live e) xs = record {
  by = λ w. record {
    well = (live_where_dead e xs (dead_where_live was xs w.1.0), w.1.1);
    entry = refl;
    carries = λ c m. on_same_newest c (Live e) (Live was ∷ xs) xs m;
  };
}
both_replaced (Live was) Dead xs = record {
  by = λ w. record {
    well = (dead_where_live was xs w.1.0, w.1.1);
    entry = refl;
    carries = λ c m. on_same_newest c Dead (Live was ∷ xs) xs m;
  };
}

-- ---- what a level keeps

-- a removal is left out where nothing is below it
removal_replaced : (b : Bool) (xs : List Change) → (b ≡ true → xs ≡ [])
    → Replaces (Dead ∷ xs) (prepended (cond b None (Some Dead)) xs)
unfolding AreMarkedWell
removal_replaced true [] h = record { by = λ w. record { well = tt; entry = refl; carries = λ c m. may_be_first c } }
removal_replaced true (x ∷ xs) h = absurd (cc (h refl))
removal_replaced false xs h = itself (Dead ∷ xs)

pub kept_replaced : (level : ℕ) (c : Change) (xs : List Change) → (eqb level 10 ≡ true → xs ≡ [])
    → Replaces (c ∷ xs) (prepended (kept level c) xs)
kept_replaced level (Init e) xs h = itself (Init e ∷ xs)
kept_replaced level (Live e) xs h = itself (Live e ∷ xs)
kept_replaced level Dead xs h = removal_replaced (eqb level 10) xs h

kept_if_replaced : (level : ℕ) (o : Option Change) (xs : List Change) → (eqb level 10 ≡ true → xs ≡ [])
    → Replaces (prepended o xs) (prepended (option_and_then (kept level) o) xs)
kept_if_replaced level None xs h = itself xs
kept_if_replaced level (Some c) xs h = kept_replaced level c xs h

-- below the deepest level there is nothing
pub merge_replaces : (level : ℕ) (older newer : Option Change) (xs : List Change) → (eqb level 10 ≡ true → xs ≡ [])
    → Replaces (prepended newer (prepended older xs)) (prepended (merged_change level older newer) xs)
merge_replaces level None None xs h = itself xs
merge_replaces level (Some older) None xs h = kept_replaced level older xs h
merge_replaces level None (Some newer) xs h = kept_replaced level newer xs h
merge_replaces level (Some older) (Some newer) xs h =
    in_turn (newer ∷ older ∷ xs) (prepended (joined older newer) xs)
    (prepended (option_and_then (kept level) (joined older newer)) xs) (both_replaced older newer xs)
    (kept_if_replaced level (joined older newer) xs h)

-- above the deepest level a merge onto nothing is what it was
pub merged_onto_nothing : (level : ℕ) (newer : Option Change) → eqb level 10 ≡ false
    → merged_change level None newer ≡ newer
merged_onto_nothing level None e = refl
merged_onto_nothing level (Some (Init f)) e = refl
merged_onto_nothing level (Some (Live f)) e = refl
merged_onto_nothing level (Some Dead) e = λ i. cond (e i) None (Some Dead)
