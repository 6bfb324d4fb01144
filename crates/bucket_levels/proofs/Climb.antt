-- From the newest level to the deepest: after a step the levels say of a key what the fresh file and the old ones said.
use Rattle.bucket_levels.proofs.Prelude.{◌≡◌, ℕ, zero, suc, ◌+◌, ◌<◌, Bool, true, false, cond, eqb, List, [], ◌∷◌}
use Rattle.bucket_levels.proofs.Prelude.{length, None, refl, sym, ap, subst, ◌∙◌, arith, eqb-true, LedgerKey, Change}
use Rattle.bucket_levels.proofs.Prelude.{Contents, change_at, merged_change, IsMerge, level_count, spills, Pair}
use Rattle.bucket_levels.proofs.Prelude.{pair_at, base_at, snap_after, IsMergedIf, IsPairAfter, IsStep, prepended}
use Rattle.bucket_levels.proofs.Prelude.{changes_of, files_of}
use Rattle.bucket_levels.proofs.Halves.{spills_above, none_spills_below}
use Rattle.bucket_levels.proofs.Marks.{Replaces, after}
use Rattle.bucket_levels.proofs.Joined.{merge_replaces, merged_onto_nothing}
use Rattle.bucket_levels.proofs.Inputs.{curr_stays_if}

-- ---- what levels say of a key

-- what a level's files say, before what those below say
abbrev pub by_level : LedgerKey → Pair → List Change → List Change
by_level k p below = prepended (change_at p.curr k) (prepended (change_at p.snap k) below)

-- what n levels say, from one on
unfoldable pub by_levels : LedgerKey → (ℕ → Pair) → (i n : ℕ) → List Change
by_levels k f i zero = []
by_levels k f i (suc n) = by_level k (f i) (by_levels k f (suc i) n)

said_by_levels : (k : LedgerKey) (f : ℕ → Pair) (i : ℕ) (ps : List Pair) → ((j : ℕ) → f (j + i) ≡ pair_at ps j)
    → changes_of (files_of ps) k ≡ by_levels k f i (length ps)
unfolding by_levels changes_of
said_by_levels k f i [] h = refl
said_by_levels k f i (p ∷ ps) h =
    let at : (i ≡ 0 + i) = omega arith in
    let here : f i ≡ p = ap f at ∙ h 0 in
    let next : (j : ℕ) → j + suc i ≡ suc j + i = λ j. omega arith in
    let below = said_by_levels k f (suc i) ps (λ j. ap f (next j) ∙ h (suc j)) in
    ap (by_level k p) below ∙ ap (λ (q : Pair). by_level k q (by_levels k f (suc i) (length ps))) (sym here)

pub said_by_all : (k : LedgerKey) (ps : List Pair) → changes_of (files_of ps) k ≡ by_levels k (pair_at ps) 0 (length ps)
said_by_all k ps =
    said_by_levels k (pair_at ps) 0 ps (λ j. let e : (j + 0 ≡ j) = omega arith in ap (pair_at ps) e)

-- ---- one level

curr_is_newer : (level : ℕ) (newer merged : Contents) (k : LedgerKey) → eqb level 10 ≡ false
    → IsMerge level None newer merged → change_at merged k ≡ change_at newer k
curr_is_newer level newer merged k e m = m.changes k ∙ merged_onto_nothing level (change_at newer k) e

-- a level that spills
moves_down : (level : ℕ) (k : LedgerKey) (newer : Contents) (p q : Pair) (old new : List Change)
    → eqb level 10 ≡ false → IsMerge level None newer q.curr → q.snap ≡ p.curr
    → Replaces (prepended (change_at p.snap k) old) new
    → Replaces (prepended (change_at newer k) (by_level k p old)) (by_level k q new)
moves_down level k newer p q old new e m s below =
    let curr = change_at p.curr k in
    let to : by_level k q new ≡ prepended (change_at newer k) (prepended curr new) =
    (λ i. prepended (curr_is_newer level newer q.curr k e m i) (prepended (change_at (s i) k) new)) in
    subst (Replaces (prepended (change_at newer k) (by_level k p old))) (sym to)
    (after (change_at newer k) (by_level k p old) (prepended curr new)
    (after curr (prepended (change_at p.snap k) old) new below))

-- a level that doesn't spill and takes the files of the one above
takes_in : (level : ℕ) (k : LedgerKey) (newer : Contents) (p q : Pair) (below : List Change)
    → (eqb level 10 ≡ true → prepended (change_at p.snap k) below ≡ []) → IsMerge level p.curr newer q.curr
    → q.snap ≡ p.snap → Replaces (prepended (change_at newer k) (by_level k p below)) (by_level k q below)
takes_in level k newer p q below h m s =
    let stay = prepended (change_at p.snap k) below in
    let to : by_level k q below ≡ prepended (merged_change level (change_at p.curr k) (change_at newer k)) stay =
    (λ i. prepended (m.changes k i) (prepended (change_at (s i) k) below)) in
    subst (Replaces (prepended (change_at newer k) (by_level k p below))) (sym to)
    (merge_replaces level (change_at p.curr k) (change_at newer k) stay h)

-- ---- all levels

-- the pairs of a step, level by level
abbrev AreSteps : ℕ → Contents → List Pair → List Pair → Type 0
AreSteps seq fresh old new = (i : ℕ) → i < level_count → IsPairAfter seq fresh old i (pair_at new i)

is_merged : (b : Bool) (level : ℕ) (older newer was new : Contents) → b ≡ true
    → IsMergedIf b level older newer was new → IsMerge level older newer new
is_merged true level older newer was new e m = m
is_merged false level older newer was new e m = absurd (cc (e))

-- below a level that doesn't spill nothing changes
stays_below : (seq : ℕ) (fresh : Contents) (old new : List Pair) (k : LedgerKey) → AreSteps seq fresh old new
    → (n i : ℕ) → suc i + n ≡ level_count → spills i seq ≡ false
    → by_levels k (pair_at new) (suc i) n ≡ by_levels k (pair_at old) (suc i) n
unfolding by_levels
stays_below seq fresh old new k steps zero i e s = refl
stays_below seq fresh old new k steps (suc n) i e s =
    let p = pair_at old (suc i) in
    let q = pair_at new (suc i) in
    let step = steps (suc i) (omega arith) in
    let still = none_spills_below i seq s in
    let curr : q.curr ≡ p.curr =
    curr_stays_if (spills i seq) (suc i) (base_at seq old (suc i)) (pair_at old i).snap p.curr q.curr s step.curr in
    let snap : q.snap ≡ p.snap = step.snap ∙ ap (λ (b : Bool). cond b p.curr p.snap) still in
    let below = stays_below seq fresh old new k steps n (suc i) (omega arith) still in
    (λ t. prepended (change_at (curr t) k) (prepended (change_at (snap t) k) (below t)))

not_ten_by : (i : ℕ) (b : Bool) → eqb i 10 ≡ b → i < 10 → eqb i 10 ≡ false
not_ten_by i true e lt = absurd (omega (arith, eqb-true i 10 e))
not_ten_by i false e lt = e

not_ten : (i : ℕ) → i < 10 → eqb i 10 ≡ false
not_ten i lt = not_ten_by i (eqb i 10) refl lt

-- nothing is below the deepest curr
nothing_below : (k : LedgerKey) (old : List Pair) (n i : ℕ) → i + suc n ≡ level_count → (pair_at old 10).snap ≡ None
    → eqb i 10 ≡ true → prepended (change_at (pair_at old i).snap k) (by_levels k (pair_at old) (suc i) n) ≡ []
unfolding by_levels
nothing_below k old zero i e d ten =
    ap (λ (j : ℕ). prepended (change_at (pair_at old j).snap k) []) (eqb-true i 10 ten)
    ∙ ap (λ (c : Contents). prepended (change_at c k) []) d
nothing_below k old (suc n) i e d ten = absurd (omega (arith, eqb-true i 10 ten))

-- What comes into a level, before what was there and below, is what is there and below after the step.
enters : (seq : ℕ) (fresh : Contents) (old new : List Pair) (k : LedgerKey) → AreSteps seq fresh old new
    → (pair_at old 10).snap ≡ None → (n i : ℕ) (newer : Contents) → i + suc n ≡ level_count
    → IsMerge i (base_at seq old i) newer (pair_at new i).curr → (pair_at new i).snap ≡ snap_after seq old i
    → (spills i seq ≡ true
    → Replaces (prepended (change_at (pair_at old i).snap k) (by_levels k (pair_at old) (suc i) n))
    (by_levels k (pair_at new) (suc i) n))
    → (b : Bool) → spills i seq ≡ b
    → Replaces (prepended (change_at newer k) (by_levels k (pair_at old) i (suc n)))
    (by_levels k (pair_at new) i (suc n))
unfolding by_levels
enters seq fresh old new k steps d n i newer e m s below true is =
    let p = pair_at old i in
    let q = pair_at new i in
    let above : eqb i 10 ≡ false = not_ten i (spills_above i seq is) in
    let base = subst (λ (b : Bool). IsMerge i (cond b None p.curr) newer q.curr) is m in
    moves_down i k newer p q (by_levels k (pair_at old) (suc i) n) (by_levels k (pair_at new) (suc i) n) above base
    (s ∙ ap (λ (b : Bool). cond b p.curr p.snap) is) (below is)
enters seq fresh old new k steps d n i newer e m s below false is =
    let p = pair_at old i in
    let q = pair_at new i in
    let rest = by_levels k (pair_at old) (suc i) n in
    let base = subst (λ (b : Bool). IsMerge i (cond b None p.curr) newer q.curr) is m in
    let same = stays_below seq fresh old new k steps n i (omega arith) is in
    subst (λ (xs : List Change). Replaces (prepended (change_at newer k) (by_level k p rest)) (by_level k q xs))
    (sym same)
    (takes_in i k newer p q rest (nothing_below k old n i e d) base
    (s ∙ ap (λ (b : Bool). cond b p.curr p.snap) is))

-- the snap of a level that spills comes into the one below it
snap_enters : (seq : ℕ) (fresh : Contents) (old new : List Pair) (k : LedgerKey) → AreSteps seq fresh old new
    → (pair_at old 10).snap ≡ None → (n i : ℕ) → suc i + n ≡ level_count → spills i seq ≡ true
    → Replaces (prepended (change_at (pair_at old i).snap k) (by_levels k (pair_at old) (suc i) n))
    (by_levels k (pair_at new) (suc i) n)
snap_enters seq fresh old new k steps d zero i e s = absurd (omega (arith, spills_above i seq s))
snap_enters seq fresh old new k steps d (suc n) i e s =
    let step = steps (suc i) (omega arith) in
    enters seq fresh old new k steps d n (suc i) (pair_at old i).snap e
    (is_merged (spills i seq) (suc i) (base_at seq old (suc i)) (pair_at old i).snap (pair_at old (suc i)).curr
    (pair_at new (suc i)).curr s step.curr)
    step.snap (snap_enters seq fresh old new k steps d n (suc i) (omega arith)) (spills (suc i) seq) refl

-- ---- the step

fresh_enters : (seq : ℕ) (fresh : Contents) (old new : List Pair) (k : LedgerKey) → AreSteps seq fresh old new
    → (pair_at old 10).snap ≡ None → (n : ℕ) → suc n ≡ level_count
    → Replaces (prepended (change_at fresh k) (by_levels k (pair_at old) 0 (suc n)))
    (by_levels k (pair_at new) 0 (suc n))
fresh_enters seq fresh old new k steps d n e =
    let step = steps 0 (omega arith) in
    enters seq fresh old new k steps d n 0 fresh (omega arith) step.curr step.snap
    (snap_enters seq fresh old new k steps d n 0 (omega arith)) (spills 0 seq) refl

pub step_replaces : (seq : ℕ) (fresh : Contents) (old new : List Pair) (k : LedgerKey) → length old ≡ level_count
    → (pair_at old 10).snap ≡ None → IsStep seq fresh old new
    → Replaces (prepended (change_at fresh k) (changes_of (files_of old) k)) (changes_of (files_of new) k)
step_replaces seq fresh old new k count d step =
    let from : changes_of (files_of old) k ≡ by_levels k (pair_at old) 0 level_count =
    said_by_all k old ∙ ap (by_levels k (pair_at old) 0) count in
    let to : changes_of (files_of new) k ≡ by_levels k (pair_at new) 0 level_count =
    said_by_all k new ∙ ap (by_levels k (pair_at new) 0) step.count in
    subst (λ (xs : List Change). Replaces (prepended (change_at fresh k) xs) (changes_of (files_of new) k)) (sym from)
    (subst (Replaces (prepended (change_at fresh k) (by_levels k (pair_at old) 0 level_count))) (sym to)
    (fresh_enters seq fresh old new k step.pairs d 10 refl))
