-- The caches of new currs, and those of the files that stay.
use Rattle.std.proofs.Common.{◌≡◌, ◌≢◌, ◌+◌, ◌*◌, ◌<◌, ◌≤◌, ℕ, zero, suc, Bool, true, false, List, [], ◌∷◌, ◌++◌, None}
use Rattle.std.proofs.Common.{map, take, set, length, get_or, refl, sym, ap, subst, ◌∙◌, arith, nat_lt}
use Rattle.std.proofs.lemmas.Bool.{ltb-true, ltb-false}
use Rattle.std.proofs.lemmas.List.{get_or-set_same, get_or-set_other, length-set, length-map, length-append}
use Rattle.std.proofs.lemmas.List.{length-take-le, get_or-take, take_all, take_more, map-append}
use Rattle.std.proofs.lemmas.List.{get_or-map as get_or_map}
use Rattle.std.proofs.Math.ListN.{get_or-map}
use Rattle.std.specs.Prelude.{if◌then◌else◌}
use Rattle.bucket_core.specs.Bucket.{Contents}
use Rattle.bucket_levels.specs.Meaning.{files_of}
use Rattle.bucket_levels.specs.Levels.{pair_of}
use Rattle.bucket_levels.specs.declared.pair.LevelPair.{LevelPair}
use Rattle.bucket_levels.specs.Pairs.{Pair, pair_at, empty_pair}
use Rattle.bucket_levels.specs.Spills.{level_count, spills}
use Rattle.bucket_levels.specs.Step.{IsStep, IsMergedIf, IsCurrAfter, base_at}
use Rattle.bucket_levels.proofs.Halves.{spills_above}
use Rattle.page_cache.specs.Pages.{CacheAt}
use Rattle.page_cache.specs.Caches.{contents_in, no_pages, cache_at, takes_curr, AreNewCaches, AreMoved, AreTakenFrom}

-- ---- taken

pub none_taken : (currs old : List CacheAt) → AreTakenFrom (length currs) currs old old
none_taken currs old = record {
  count = refl;
  above = λ i lt. (refl, refl);
  renewed = λ i le lt. absurd (omega (arith, le, lt));
  spilled = λ i le lt. absurd (omega (arith, le, lt));
  curr = λ i le. refl;
  snap = λ i le more. refl;
}

-- a level and those below it
either : (P : ℕ → Type 0) (level i : ℕ) → level ≤ i → P level → (level + 1 ≤ i → P i) → P i
either P level i le here below = by_order P level i le here below (nat_lt level i) refl
  where
    by_order : (P : ℕ → Type 0) (level i : ℕ) → level ≤ i → P level → (level + 1 ≤ i → P i) → (b : Bool)
        → nat_lt level i ≡ b → P i
    by_order P level i le here below true is = below (let lt = ltb-true level i is in omega (arith, lt))
    by_order P level i le here below false is =
        let same : level ≡ i = (let ge = ltb-false level i is in omega (arith, le, ge)) in subst P same here

at_set : (caches : List CacheAt) (i : ℕ) (c : CacheAt) → i < length caches → cache_at (set caches i c) i ≡ c
at_set caches i c lt = get_or-set_same caches i c (no_pages None) lt

other_set : (caches : List CacheAt) (i j : ℕ) (c : CacheAt) → j ≢ i
    → cache_at (set caches i c) j ≡ cache_at caches j
other_set caches i j c other = get_or-set_other caches i j c (no_pages None) other

odd : (i j : ℕ) → 2 * i ≢ 2 * j + 1
odd i j e = absurd (omega (arith, e))

even : (i j : ℕ) → 2 * i + 1 ≢ 2 * j
even i j e = absurd (omega (arith, e))

module _ (level : ℕ) (currs old now : List CacheAt) (curr : CacheAt) (so_far : AreTakenFrom (level + 1) currs old now)
    (within : 2 * level + 1 < length now) (below : level < length currs) (is : curr ≡ cache_at currs level) where
  was : cache_at now (2 * level) ≡ cache_at old (2 * level)
  was = (so_far.above level (omega arith)).0

  fits : 2 * level < length now
  fits = omega (arith, within)

  -- the deepest of them
  last_taken : length currs ≤ level + 1 → AreTakenFrom level currs old (set now (2 * level) curr)
  last_taken last = record {
    count = length-set now (2 * level) curr ∙ so_far.count;
    above = λ i lt. (
      other_set now (2 * level) (2 * i) curr (λ e. absurd (omega (arith, e, lt)))
          ∙ (so_far.above i (omega (arith, lt))).0,
      other_set now (2 * level) (2 * i + 1) curr (even i level) ∙ (so_far.above i (omega (arith, lt))).1,
    );
    renewed = λ i le lt.
        (let same : level ≡ i = omega (arith, le, lt, last) in
        ap (λ n. cache_at (set now (2 * level) curr) (2 * n)) (sym same) ∙ at_set now (2 * level) curr fits ∙ is
        ∙ ap (cache_at currs) same);
    spilled = λ i le lt. absurd (omega (arith, le, lt, last));
    curr = λ i le.
        other_set now (2 * level) (2 * i) curr (λ e. absurd (omega (arith, e, le, below))) ∙ so_far.curr i le;
    snap = λ i le more.
        other_set now (2 * level) (2 * i + 1) curr (even i level)
        ∙ either (λ n. cache_at now (2 * n + 1) ≡ cache_at old (2 * n + 1)) level i le
        (so_far.above level (omega arith)).1
        (λ deeper. so_far.snap i deeper more);
  }

  abbrev both : List CacheAt
  both = set (set now (2 * level) curr) (2 * level + 1) (cache_at now (2 * level))

  at_curr : cache_at both (2 * level) ≡ cache_at currs level
  at_curr =
      other_set (set now (2 * level) curr) (2 * level + 1) (2 * level) (cache_at now (2 * level)) (odd level level)
      ∙ at_set now (2 * level) curr fits ∙ is

  at_snap : cache_at both (2 * level + 1) ≡ cache_at old (2 * level)
  at_snap =
      at_set (set now (2 * level) curr) (2 * level + 1) (cache_at now (2 * level))
      (subst (λ n. 2 * level + 1 < n) (sym (length-set now (2 * level) curr)) within) ∙ was

  other_curr : (i : ℕ) → i ≢ level → cache_at both (2 * i) ≡ cache_at now (2 * i)
  other_curr i other =
      other_set (set now (2 * level) curr) (2 * level + 1) (2 * i) (cache_at now (2 * level)) (odd i level)
      ∙ other_set now (2 * level) (2 * i) curr (λ e. other (omega (arith, e)))

  other_snap : (i : ℕ) → i ≢ level → cache_at both (2 * i + 1) ≡ cache_at now (2 * i + 1)
  other_snap i other =
      other_set (set now (2 * level) curr) (2 * level + 1) (2 * i + 1) (cache_at now (2 * level))
      (λ e. other (omega (arith, e)))
      ∙ other_set now (2 * level) (2 * i + 1) curr (even i level)

  -- a level that spills
  next_taken : level + 1 < length currs → AreTakenFrom level currs old both
  next_taken more = record {
    count = length-set (set now (2 * level) curr) (2 * level + 1) (cache_at now (2 * level))
        ∙ length-set now (2 * level) curr ∙ so_far.count;
    above = λ i lt. (
      other_curr i (λ e. absurd (omega (arith, e, lt))) ∙ (so_far.above i (omega (arith, lt))).0,
      other_snap i (λ e. absurd (omega (arith, e, lt))) ∙ (so_far.above i (omega (arith, lt))).1,
    );
    renewed = λ i le lt.
        either (λ n. cache_at both (2 * n) ≡ cache_at currs n) level i le at_curr
        (λ deeper. other_curr i (λ e. absurd (omega (arith, e, deeper))) ∙ so_far.renewed i deeper lt);
    spilled = λ i le lt.
        either (λ n. cache_at both (2 * n + 1) ≡ cache_at old (2 * n)) level i le at_snap
        (λ deeper. other_snap i (λ e. absurd (omega (arith, e, deeper))) ∙ so_far.spilled i deeper lt);
    curr = λ i le. other_curr i (λ e. absurd (omega (arith, e, le, below))) ∙ so_far.curr i le;
    snap = λ i le past.
        other_snap i (λ e. absurd (omega (arith, e, past, more)))
        ∙ so_far.snap i (omega (arith, past, more)) past;
  }

  pub one_taken : (b : Bool) → nat_lt (level + 1) (length currs) ≡ b
      → AreTakenFrom level currs old (if b then both else set now (2 * level) curr)
  one_taken true more = next_taken (ltb-true (level + 1) (length currs) more)
  one_taken false more = last_taken (ltb-false (level + 1) (length currs) more)

-- what was popped is the last of what is ahead
record IsLast (rest : List CacheAt) (curr : CacheAt) (currs : List CacheAt) : Type 0 where
  within : length rest < length currs
  is : curr ≡ cache_at currs (length rest)
  before : rest ≡ take (length rest) currs

last_of : (rest : List CacheAt) (curr : CacheAt) (currs : List CacheAt) (n : ℕ) → n ≡ suc (length rest)
    → rest ++ curr ∷ [] ≡ take n currs → IsLast rest curr currs
last_of rest curr [] zero is same = absurd (cc (is))
last_of [] curr [] (suc n) is same = absurd (cc (same))
last_of (r ∷ rest) curr [] (suc n) is same = absurd (cc (same))
last_of rest curr (x ∷ currs) zero is same = absurd (cc (is))
last_of [] curr (x ∷ currs) (suc n) is same = record {
  within = omega arith;
  is = cc (same);
  before = refl;
}
last_of (r ∷ rest) curr (x ∷ currs) (suc n) is same =
    let first : r ≡ x = cc (same) in
    let later : rest ++ curr ∷ [] ≡ take n currs = cc (same) in
    let it = last_of rest curr currs n (omega (arith, is)) later in
    record {
      within = (let lt = it.within in omega (arith, lt));
      is = it.is;
      before = (λ t. first t ∷ it.before t);
    }

pub record IsPopped (currs rest old new : List CacheAt) : Type 0 where
  pub few : length rest ≤ length currs
  pub ahead : rest ≡ take (length rest) currs
  pub taken : AreTakenFrom (length rest) currs old new

pub popped : (currs ahead rest old now new : List CacheAt) (curr : CacheAt) (level count : ℕ)
    → ahead ≡ take (length ahead) currs → AreTakenFrom (length ahead) currs old now → ahead ≡ rest ++ curr ∷ []
    → level ≡ length rest → count ≡ length currs → 2 * level + 1 < length now
    → new ≡ (if nat_lt (level + 1) count
    then set (set now (2 * level) curr) (2 * level + 1) (cache_at now (2 * level))
    else set now (2 * level) curr)
    → IsPopped currs rest old new
popped currs ahead rest old now new curr level count of taken was is_level is_count within is =
    let long : length ahead ≡ suc (length rest) =
    (let len = ap length was in let app = length-append rest (curr ∷ []) in omega (arith, len, app)) in
    let it = last_of rest curr currs (length ahead) long (sym was ∙ of) in
    let from : AreTakenFrom (length rest + 1) currs old now =
    subst (λ n. AreTakenFrom n currs old now)
    (let more : length ahead ≡ length rest + 1 = omega (arith, long) in more) taken in
    let fits : 2 * length rest + 1 < length now = omega (arith, within, is_level) in
    let one = one_taken (length rest) currs old now curr from fits it.within it.is
    (nat_lt (length rest + 1) (length currs)) refl in
    let same : new ≡ (if nat_lt (length rest + 1) (length currs)
    then set (set now (2 * length rest) curr) (2 * length rest + 1) (cache_at now (2 * length rest))
    else set now (2 * length rest) curr) =
    is ∙ (λ t. if nat_lt (is_level t + 1) (is_count t)
    then set (set now (2 * is_level t) curr) (2 * is_level t + 1) (cache_at now (2 * is_level t))
    else set now (2 * is_level t) curr) in
    record {
      few = (let lt = it.within in omega (arith, lt));
      ahead = it.before;
      taken = subst (λ (x : List CacheAt). AreTakenFrom (length rest) currs old x) (sym same) one;
    }

pub none_popped : (currs old : List CacheAt) → IsPopped currs currs old old
none_popped currs old = record {
  few = omega arith;
  ahead = sym (take_all (length currs) currs (omega arith));
  taken = none_taken currs old;
}

pub level_fits : (currs ahead rest now old : List CacheAt) (curr : CacheAt) (level : ℕ) → length currs ≤ level_count
    → length old ≡ 2 * level_count → length now ≡ length old → IsPopped currs ahead old now
    → ahead ≡ rest ++ curr ∷ [] → level ≡ length rest → 2 * level + 1 < length now
level_fits currs ahead rest now old curr level few levels count it was is =
    let len = ap length was in let app = length-append rest (curr ∷ []) in let le = it.few in
    omega (arith, few, levels, count, len, app, le, is)

pub all_popped : (currs ahead old now : List CacheAt) → IsPopped currs ahead old now → length ahead ≡ 0
    → AreTakenFrom 0 currs old now
all_popped currs ahead old now it none = subst (λ n. AreTakenFrom n currs old now) none it.taken

-- ---- new

-- where a level takes a new curr, as far as it is known by the number of these levels
pub made_of : (seq count : ℕ) (pairs : List Pair) (caches : List CacheAt) → length pairs ≡ level_count
    → count ≤ level_count → caches ≡ map (λ (p : Pair). no_pages p.curr) (take count pairs)
    → ((i : ℕ) → i < count → takes_curr i seq ≡ true) → ((i : ℕ) → count ≤ i → takes_curr i seq ≡ false)
    → AreNewCaches seq pairs caches
made_of seq count pairs caches all most is new others = record {
  most = omega (arith, len, most);
  new = λ i lt takes.
      (let below : i < count = below_count i takes (nat_lt i count) refl in (
        omega (arith, below, len),
        ap (λ (xs : List CacheAt). cache_at xs i) is
            ∙ get_or-map (λ (p : Pair). no_pages p.curr) (take count pairs) i empty_pair
            ∙ ap (λ (p : Pair). no_pages p.curr) (get_or-take count pairs i empty_pair below),
      ));
  others = λ i lt takes. (let from = from_count i takes (nat_lt i count) refl in omega (arith, from, len));
}
  where
    len : length caches ≡ count
    len =
        ap length is ∙ length-map (take count pairs) (λ (p : Pair). no_pages p.curr)
        ∙ length-take-le count pairs (omega (arith, all, most))

    below_count : (i : ℕ) → takes_curr i seq ≡ true → (b : Bool) → nat_lt i count ≡ b → i < count
    below_count i takes true lt = ltb-true i count lt
    below_count i takes false ge = absurd (cc (takes, others i (ltb-false i count ge)))

    from_count : (i : ℕ) → takes_curr i seq ≡ false → (b : Bool) → nat_lt i count ≡ b → count ≤ i
    from_count i takes true lt = absurd (cc (takes, new i (ltb-true i count lt)))
    from_count i takes false ge = ltb-false i count ge

-- a cache more
pub pushed_curr : (pairs : List LevelPair) (level : ℕ) (d : LevelPair) (old new : List CacheAt) (c : CacheAt)
    → level < length pairs → old ≡ map (λ (p : Pair). no_pages p.curr) (take level (map pair_of pairs))
    → c ≡ no_pages (get_or pairs level d).curr.value → new ≡ old ++ c ∷ []
    → new ≡ map (λ (p : Pair). no_pages p.curr) (take (level + 1) (map pair_of pairs))
pushed_curr pairs level d old new c lt so_far is more =
    let of : Pair → CacheAt = λ p. no_pages p.curr in
    let here : pair_of (get_or pairs level d) ≡ get_or (map pair_of pairs) level empty_pair =
    sym (get_or_map pair_of pairs level d empty_pair lt) in
    more ∙ (λ t. so_far t ++ is t ∷ [])
    ∙ ap (λ p. map of (take level (map pair_of pairs)) ++ of p ∷ []) here
    ∙ sym (map-append of (take level (map pair_of pairs)) (get_or (map pair_of pairs) level empty_pair ∷ []))
    ∙ ap (map of) (sym (take_more (map pair_of pairs) level empty_pair
    (let len = length-map pairs pair_of in omega (arith, lt, len))))

-- ---- moved

module _ (seq : ℕ) (pairs : List Pair) (currs old new : List CacheAt) (made : AreNewCaches seq pairs currs)
    (taken : AreTakenFrom 0 currs old new) where
  curr_by : (i : ℕ) → i < level_count → (b : Bool) → takes_curr i seq ≡ b
      → cache_at new (2 * i) ≡ (if b then no_pages (pair_at pairs i).curr else cache_at old (2 * i))
  curr_by i lt true is =
      let it = made.new i lt is in taken.renewed i (omega arith) it.0 ∙ it.1
  curr_by i lt false is = taken.curr i (made.others i lt is)

  -- where a level spills, the one below it takes a new curr
  spilled_below : (i : ℕ) → spills i seq ≡ true → i + 1 < length currs
  spilled_below i is =
      let low = spills_above i seq is in
      let below = (made.new (suc i) (omega (arith, low)) is).0 in
      omega (arith, below)

  none_below : (i : ℕ) → i < level_count → spills i seq ≡ false → length currs ≤ i + 1
  none_below i lt is = deepest_or i lt is (nat_lt i 10) refl
    where
      deepest_or : (i : ℕ) → i < level_count → spills i seq ≡ false → (b : Bool) → nat_lt i 10 ≡ b
          → length currs ≤ i + 1
      deepest_or i lt is true low =
          let few = made.others (suc i) (let le = ltb-true i 10 low in omega (arith, le)) is in omega (arith, few)
      deepest_or i lt is false high =
          let ge = ltb-false i 10 high in let most = made.most in omega (arith, most, ge)

  snap_by : (i : ℕ) → i < level_count → (b : Bool) → spills i seq ≡ b
      → cache_at new (2 * i + 1) ≡ (if b then cache_at old (2 * i) else cache_at old (2 * i + 1))
  snap_by i lt true is = taken.spilled i (omega arith) (spilled_below i is)
  snap_by i lt false is = taken.snap i (omega arith) (none_below i lt is)

  pub are_moved : AreMoved seq pairs old new
  are_moved = record {
    count = taken.count;
    curr = λ i lt. curr_by i lt (takes_curr i seq) refl;
    snap = λ i lt. snap_by i lt (spills i seq) refl;
  }

-- ---- the files

-- the two caches of a level are those of its files
record IsOf (caches : List CacheAt) (pairs : List Pair) (i : ℕ) : Type 0 where
  curr : (cache_at caches (2 * i)).contents ≡ (pair_at pairs i).curr
  snap : (cache_at caches (2 * i + 1)).contents ≡ (pair_at pairs i).snap

abbrev file_at : List Pair → ℕ → Contents
file_at pairs i = get_or (files_of pairs) i None

nothing_at : (i : ℕ) → get_or {A = Contents} [] i None ≡ None
nothing_at zero = refl
nothing_at (suc i) = refl

curr_at : (pairs : List Pair) (i : ℕ) → file_at pairs (2 * i) ≡ (pair_at pairs i).curr
curr_at [] zero = refl
curr_at [] (suc i) = nothing_at (2 * suc i)
curr_at (p ∷ ps) zero = refl
curr_at (p ∷ ps) (suc i) =
    let two : 2 * suc i ≡ suc (suc (2 * i)) = omega arith in ap (file_at (p ∷ ps)) two ∙ curr_at ps i

snap_at : (pairs : List Pair) (i : ℕ) → file_at pairs (2 * i + 1) ≡ (pair_at pairs i).snap
snap_at [] zero = refl
snap_at [] (suc i) = nothing_at (2 * suc i + 1)
snap_at (p ∷ ps) zero = refl
snap_at (p ∷ ps) (suc i) =
    let two : 2 * suc i + 1 ≡ suc (suc (2 * i + 1)) = omega arith in ap (file_at (p ∷ ps)) two ∙ snap_at ps i

contents_at : (caches : List CacheAt) (pairs : List Pair) (i : ℕ) → contents_in caches ≡ files_of pairs
    → (cache_at caches i).contents ≡ file_at pairs i
contents_at caches pairs i same =
    sym (get_or-map (λ (cache : CacheAt). cache.contents) caches i (no_pages None))
    ∙ ap (λ (files : List Contents). get_or files i None) same

each_of : (caches : List CacheAt) (pairs : List Pair) (i : ℕ) → contents_in caches ≡ files_of pairs
    → IsOf caches pairs i
each_of caches pairs i same = record {
  curr = contents_at caches pairs (2 * i) same ∙ curr_at pairs i;
  snap = contents_at caches pairs (2 * i + 1) same ∙ snap_at pairs i;
}

all_of : (caches : List CacheAt) (pairs : List Pair) → length caches ≡ 2 * length pairs
    → ((i : ℕ) → i < length pairs → IsOf caches pairs i) → contents_in caches ≡ files_of pairs
all_of [] [] len each = refl
all_of [] (p ∷ ps) len each = absurd (omega (arith, len))
all_of (a ∷ []) [] len each = absurd (omega (arith, len))
all_of (a ∷ []) (p ∷ ps) len each = absurd (omega (arith, len))
all_of (a ∷ b ∷ cs) [] len each = absurd (omega (arith, len))
all_of (a ∷ b ∷ cs) (p ∷ ps) len each =
    let first = each 0 (omega arith) in
    let rest = all_of cs ps (omega (arith, len)) (λ i lt. deeper i (omega (arith, lt))) in
    (λ t. first.curr t ∷ first.snap t ∷ rest t)
  where
    deeper : (i : ℕ) → suc i < length (p ∷ ps) → IsOf cs ps i
    deeper i lt =
        let it = each (suc i) lt in
        let even : suc (suc (2 * i)) ≡ 2 * suc i = omega arith in
        let odd : suc (suc (2 * i + 1)) ≡ 2 * suc i + 1 = omega arith in
        record {
          curr = ap (λ n. (cache_at (a ∷ b ∷ cs) n).contents) even ∙ it.curr;
          snap = ap (λ n. (cache_at (a ∷ b ∷ cs) n).contents) odd ∙ it.snap;
        }

pub files_count : (pairs : List Pair) → length (files_of pairs) ≡ 2 * length pairs
files_count [] = refl
files_count (p ∷ ps) = let rest = files_count ps in omega (arith, rest)

-- as many caches as files
pub caches_count : (caches : List CacheAt) (pairs : List Pair) → contents_in caches ≡ files_of pairs
    → length caches ≡ 2 * length pairs
caches_count caches pairs same =
    sym (length-map caches (λ (cache : CacheAt). cache.contents)) ∙ ap length same ∙ files_count pairs

module _ (seq : ℕ) (fresh : Contents) (before pairs : List Pair) (old new : List CacheAt)
    (step : IsStep seq fresh before pairs) (count : length before ≡ level_count)
    (same : contents_in old ≡ files_of before) (moved : AreMoved seq pairs old new) where
  stays : (i : ℕ) (c : Contents) → takes_curr i seq ≡ false → IsCurrAfter seq fresh before i c
      → c ≡ (pair_at before i).curr
  stays zero c is after = absurd (cc (is))
  stays (suc above) c is after =
      subst (λ b. IsMergedIf b (suc above) (base_at seq before (suc above)) (pair_at before above).snap
      (pair_at before (suc above)).curr c) is after

  curr_of : (i : ℕ) → i < level_count → (b : Bool) → takes_curr i seq ≡ b
      → (if b then no_pages (pair_at pairs i).curr else cache_at old (2 * i)).contents ≡ (pair_at pairs i).curr
  curr_of i lt true is = refl
  curr_of i lt false is =
      (each_of old before i same).curr ∙ sym (stays i (pair_at pairs i).curr is (step.pairs i lt).curr)

  snap_of : (i : ℕ) (b : Bool)
      → (if b then cache_at old (2 * i) else cache_at old (2 * i + 1)).contents
      ≡ (if b then (pair_at before i).curr else (pair_at before i).snap)
  snap_of i true = (each_of old before i same).curr
  snap_of i false = (each_of old before i same).snap

  -- the caches after a step are those of the files after it
  pub moved_files : contents_in new ≡ files_of pairs
  moved_files =
      let olds = caches_count old before same in let news = moved.count in let levels = step.count in
      all_of new pairs (omega (arith, olds, news, levels, count)) (λ i lt.
      (let low : i < level_count = omega (arith, lt, levels) in record {
        curr = ap (λ (cache : CacheAt). cache.contents) (moved.curr i low) ∙ curr_of i low (takes_curr i seq) refl;
        snap = ap (λ (cache : CacheAt). cache.contents) (moved.snap i low) ∙ snap_of i (spills i seq)
            ∙ sym (step.pairs i low).snap;
      }))
