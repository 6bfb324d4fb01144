-- Rows of values under keys, in the order of the keys.
use Rattle.std.specs.Prelude.{◌≡◌, ℕ, suc, Option, Some, None, option_map, List, [], ◌∷◌, take, drop, T}
use Rattle.std.specs.declared.cmp.Ordering.{Ordering}
use Rattle.std.specs.FinMap.Entries.{is_sorted, by_order}

-- what a change puts, with its key
abbrev pub kept_by : {K V : Type 0} → K × Option V → Option (K × V)
kept_by change = option_map (λ v. (change.0, v)) change.1

-- a value before a row, or nothing
abbrev pub between : {X : Type 0} → Option X → List X → List X
between None after = after
between (Some x) after = x ∷ after

module _ {K V : Type 0} where
  -- a value under a key before others, or nothing
  abbrev pub prefix : K → Option V → List (K × V) → List (K × V)
  prefix k o others = between (kept_by (k, o)) others

  -- what changes put where nothing is
  abbrev pub all_put : List (K × Option V) → List (K × V)
  all_put [] = []
  all_put (c ∷ cs) = prefix c.0 c.1 (all_put cs)

module _ {K V : Type 0} (R : K → K → Ordering) where
  -- each key is above those before it
  abbrev pub IsRising : List (K × V) → Type 0
  IsRising row = T (is_sorted R row)

  -- the first value above a key, with its key
  abbrev pub first_above : K → List (K × V) → Option (K × V)
  first_above k [] = None
  first_above k (x ∷ xs) = by_order (R x.0 k) (first_above k xs) (first_above k xs) (Some x)

  -- a row in which what is under a key is now a value, or nothing
  abbrev pub changed : K → Option V → List (K × V) → List (K × V)
  changed k o [] = prefix k o []
  changed k o (x ∷ xs) = by_order (R x.0 k) (x ∷ changed k o xs) (prefix k o xs) (prefix k o (x ∷ xs))

  -- a row with changes made one by one
  abbrev pub all_changed : List (K × Option V) → List (K × V) → List (K × V)
  all_changed [] row = row
  all_changed (c ∷ cs) row = changed c.0 c.1 (all_changed cs row)

  -- how many keys at the start of a row are below one
  abbrev pub count_below : K → List (K × V) → ℕ
  count_below k [] = 0
  count_below k (x ∷ xs) = by_order (R x.0 k) (suc (count_below k xs)) 0 0

  -- what is to take the place of x, by the changes of keys that are not below it, and the changes after it
  abbrev pub IsTurn : K × V → List (K × Option V) → Option (K × V) → List (K × Option V) → Type 0
  IsTurn x [] middle later = (middle ≡ Some x) × (later ≡ [])
  IsTurn x (c ∷ cs) middle later =
      (middle ≡ by_order (R x.0 c.0) (Some x) (kept_by c) (Some x))
      × (later ≡ by_order (R x.0 c.0) (c ∷ cs) cs (c ∷ cs))

module _ {K V : Type 0} (R : K → K → Ordering) where
  -- changes divided at x: those of keys below it, what is to take its place, and the changes after it
  pub record AreDivided (x : K × V) (changes earlier : List (K × Option V)) (middle : Option (K × V))
      (later : List (K × Option V)) : Type 0 where
    pub first : earlier ≡ take (count_below R x.0 changes) changes
    pub turn : IsTurn R x (drop (count_below R x.0 changes) changes) middle later
