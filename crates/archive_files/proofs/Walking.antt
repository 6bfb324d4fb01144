-- The walk over the headers.
use Rattle.archive_files.proofs.Prelude.{AreLinked, AreRising, Bool, Err, Hash, HeaderFact, HistoryFault, IsAheadFor}
use Rattle.archive_files.proofs.Prelude.{IsBroken, IsWalked, IsWalkedTo, IsWrong, List, None, Ok, Option, RecordFact}
use Rattle.archive_files.proofs.Prelude.{Result, Some, [], ap, arith, drop, empty_set_hash, false, get_or, hash_at}
use Rattle.archive_files.proofs.Prelude.{inl, inr, last_hash, length, no_results_hash, or_else, refl, results_hash_for}
use Rattle.archive_files.proofs.Prelude.{set_hash_for, subst, sym, true, ℕ, ◌+◌, ◌<◌, ◌∙◌, ◌∷◌, ◌≡◌, ◌≤◌}
use Rattle.std.proofs.Common.{add-one, cond, ◌==◌}
use Rattle.std.proofs.Math.Seq.{drop-cons}
use Rattle.std.proofs.lemmas.List.{drop_all}
use Rattle.archive_files.specs.Walk.{AreContentsTested, IsLinkTested, IsPassed, IsTested}
use Rattle.archive_files.specs.declared.history.HistoryFault.TheVariants as fault

lt_other : (a b : ℕ) → a < b → (a == b) ≡ false
lt_other a b lt = grind arith

gt_other : (a b : ℕ) → b < a → (a == b) ≡ false
gt_other a b lt = grind arith

eq_same : (a b : ℕ) → a ≡ b → (a == b) ≡ true
eq_same a b e = grind arith

above_other : (a n : ℕ) → n ≤ a → (a ≡ n → ⊥) → n < a
above_other a n le other = omega (arith, other)

le_same : (a b : ℕ) → a ≡ b → b ≤ a
le_same a b e = omega arith

le_next : (a b k : ℕ) → a ≡ b → b + 1 ≤ k → a ≤ k
le_next a b k e le = omega arith

le_less : (b k : ℕ) → b + 1 ≤ k → b ≤ k
le_less b k le = omega arith

-- ---- records ahead

-- a record of a lower number is passed by
pub passed_by : (r : RecordFact) (rs : List RecordFact) (n : ℕ) → r.seq < n → hash_at (r ∷ rs) n ≡ hash_at rs n
passed_by r rs n lt = ap (λ (b : Bool). cond b (Some r.hash) (hash_at rs n)) (lt_other r.seq n lt)

-- it has just this number
pub this_one : (r : RecordFact) (rs : List RecordFact) (n : ℕ) → r.seq ≡ n → hash_at (r ∷ rs) n ≡ Some r.hash
this_one r rs n same = ap (λ (b : Bool). cond b (Some r.hash) (hash_at rs n)) (eq_same r.seq n same)

rising_from_any : (before : Option ℕ) (rs : List RecordFact) → AreRising before rs → AreRising None rs
rising_from_any before [] h = tt
rising_from_any before (r ∷ rs) h = (tt, h.1)

pub goes_on : (seq : ℕ) (all : List RecordFact) (r : RecordFact) (rs : List RecordFact) → IsAheadFor seq all (r ∷ rs)
    → r.seq < seq → IsAheadFor seq all rs
goes_on seq all r rs h lt = record {
  rising = rising_from_any (Some r.seq) rs h.rising.1;
  same = λ n le. sym (passed_by r rs n (omega arith)) ∙ h.same n le;
}

-- no record has a number that isn't above the one before them
pub none_below : (rs : List RecordFact) (n low : ℕ) → n ≤ low → AreRising (Some low) rs → hash_at rs n ≡ None
none_below [] n low le h = refl
none_below (r ∷ rs) n low le h =
    let above : low < r.seq = h.0 in
    ap (λ (b : Bool). cond b (Some r.hash) (hash_at rs n)) (gt_other r.seq n (omega arith))
    ∙ none_below rs n r.seq (omega arith) h.1

-- the record ahead has a greater number
none_of : (r : RecordFact) (rs : List RecordFact) (n : ℕ) → AreRising None (r ∷ rs) → n < r.seq
    → hash_at (r ∷ rs) n ≡ None
none_of r rs n rising lt =
    ap (λ (b : Bool). cond b (Some r.hash) (hash_at rs n)) (gt_other r.seq n lt)
    ∙ none_below rs n r.seq (omega arith) rising.1

-- the first record ahead has another number, no lower one
pub none_here : (rs : List RecordFact) (n : ℕ) (d : RecordFact) → AreRising None rs → 1 ≤ length rs
    → n ≤ (get_or rs 0 d).seq → ((get_or rs 0 d).seq ≡ n → ⊥) → None ≡ hash_at rs n
none_here [] n d rising some up other = absurd (omega (arith, some))
none_here (r ∷ rs) n d rising some up other =
    let lt : n < r.seq = above_other r.seq n up other in
    sym (none_of r rs n rising lt)

-- ---- one header

found : (seq want : ℕ) (all ahead : List RecordFact) (h : IsAheadFor want all ahead) → seq ≡ want
    → hash_at ahead seq ≡ hash_at all seq
found seq want all ahead h same = h.same seq (le_same seq want same)

later : (seq want : ℕ) (all ahead new : List RecordFact) → IsAheadFor want all ahead → seq ≡ want
    → IsAheadFor seq ahead new → IsAheadFor (want + 1) all new
later seq want all ahead new h same n = record {
  rising = n.rising;
  same = λ k le. n.same k (le_next seq want k same le) ∙ h.same k (le_less want k le);
}

set_is : (sets : List RecordFact) (want : ℕ) (h : HeaderFact) (s : List RecordFact) (of_set : Hash)
    → IsAheadFor want sets s → h.seq ≡ want → of_set ≡ or_else (hash_at s h.seq) (empty_set_hash h.previous)
    → of_set ≡ set_hash_for sets h
set_is sets want h s of_set ahead same is =
    is ∙ ap (λ o. or_else o (empty_set_hash h.previous)) (found h.seq want sets s ahead same)

results_is : (results : List RecordFact) (want : ℕ) (h : HeaderFact) (r : List RecordFact) (of_results : Hash)
    → IsAheadFor want results r → h.seq ≡ want → of_results ≡ or_else (hash_at r h.seq) no_results_hash
    → of_results ≡ results_hash_for results h
results_is results want h r of_results ahead same is =
    is ∙ ap (λ o. or_else o no_results_hash) (found h.seq want results r ahead same)

-- it is linked and the walk goes on, or what it names is wrong
module _ (sets results : List RecordFact) (want : ℕ) (last : Hash) (h : HeaderFact) (s r s2 r2 : List RecordFact)
    (of_set of_results : Hash) (sets_at : IsAheadFor want sets s) (results_at : IsAheadFor want results r)
    (number : h.seq ≡ want) (own : h.stated ≡ h.own) (link : h.previous ≡ last)
    (set_found : of_set ≡ or_else (hash_at s h.seq) (empty_set_hash h.previous))
    (results_found : of_results ≡ or_else (hash_at r h.seq) no_results_hash)
    (sets_on : IsAheadFor h.seq s s2) (results_on : IsAheadFor h.seq r r2) where
  same_set : of_set ≡ set_hash_for sets h
  same_set = set_is sets want h s of_set sets_at number set_found

  same_results : of_results ≡ results_hash_for results h
  same_results = results_is results want h r of_results results_at number results_found

  pub passes : (t : Result (Unit {0}) HistoryFault) → AreContentsTested of_set of_results h t
      → IsTested sets results want last h s2 r2 t
  passes (Ok x) tested = record {
    linked = record {
      number = number;
      own = own;
      link = link;
      same_set = tested.0 ∙ same_set;
      same_results = tested.1 ∙ same_results;
    };
    sets_on = later h.seq want sets s s2 sets_at number sets_on;
    results_on = later h.seq want results r r2 results_at number results_on;
  }
  passes (Err (fault.SetHash at)) tested = (number, own, link, (λ e. tested.0 (e ∙ sym same_set)), tested.1)
  passes (Err (fault.ResultHash at)) tested =
      (number, own, link, tested.0 ∙ same_set, (λ e. tested.1 (e ∙ sym same_results)), tested.2)
  passes (Err (fault.Xdr file at kind)) tested = absurd tested
  passes (Err (fault.Stray file at)) tested = absurd tested
  passes (Err (fault.Seq at wanted given)) tested = absurd tested
  passes (Err (fault.HeaderHash at)) tested = absurd tested
  passes (Err (fault.Link at)) tested = absurd tested
  passes (Err fault.NoMemory) tested = absurd tested

-- its number, its own hash or the hash before it is wrong
pub unlinked : (sets results : List RecordFact) (want : ℕ) (last : Hash) (h : HeaderFact) (wrong : HistoryFault)
    → IsLinkTested want last h (Err wrong) → IsWrong sets results want last h wrong
unlinked sets results want last h (fault.Seq at w g) p = p
unlinked sets results want last h (fault.HeaderHash at) p = p
unlinked sets results want last h (fault.Link at) p = p
unlinked sets results want last h (fault.SetHash at) p = absurd p
unlinked sets results want last h (fault.ResultHash at) p = absurd p
unlinked sets results want last h (fault.Xdr f at k) p = absurd p
unlinked sets results want last h (fault.Stray f at) p = absurd p
unlinked sets results want last h fault.NoMemory p = absurd p

-- ---- all headers

broken_walked : (sets results : List RecordFact) (first : ℕ) (before : Hash) (headers : List HeaderFact)
    (wrong : HistoryFault) → IsBroken sets results first before headers wrong
    → IsWalked sets results first before headers (Err wrong)
broken_walked sets results first before headers (fault.Xdr f at k) h = h
broken_walked sets results first before headers (fault.Stray f at) h = h
broken_walked sets results first before headers (fault.Seq at w g) h = h
broken_walked sets results first before headers (fault.HeaderHash at) h = h
broken_walked sets results first before headers (fault.Link at) h = h
broken_walked sets results first before headers (fault.SetHash at) h = h
broken_walked sets results first before headers (fault.ResultHash at) h = h
broken_walked sets results first before headers fault.NoMemory h = tt

-- the header at an index is the first of those from there on
here : (headers : List HeaderFact) (k : ℕ) (d : HeaderFact) → k < length headers
    → drop k headers ≡ get_or headers k d ∷ drop (k + 1) headers
here headers k d lt = drop-cons headers k d lt ∙ ap (λ n. get_or headers k d ∷ drop n headers) (sym (add-one k))

module _ (sets results : List RecordFact) (first : ℕ) (before : Hash) (headers : List HeaderFact) (k want : ℕ)
    (last : Hash) (s r : List RecordFact) (at : IsWalkedTo sets results first before headers k want last s r) where
  pub walked_on : (s2 r2 : List RecordFact) (d : HeaderFact) → k < length headers
      → IsPassed sets results want last (get_or headers k d) s2 r2
      → IsWalkedTo sets results first before headers (k + 1) (want + 1) (get_or headers k d).stated s2 r2
  walked_on s2 r2 d lt p =
      let this = here headers k d lt in
      record {
        wanted = omega (arith, at.wanted);
        linked = λ rest. at.linked (subst (λ l. AreLinked sets results want last l) (sym this) (p.linked, rest));
        broken = λ wrong rest. at.broken wrong
            (subst (λ l. IsBroken sets results want last l wrong) (sym this) (inr (p.linked, rest)));
        last_one = ap (last_hash last) (sym this) ∙ at.last_one;
        sets_on = p.sets_on;
        results_on = p.results_on;
      }

  pub broken_here : (d : HeaderFact) (wrong : HistoryFault) → k < length headers
      → IsWrong sets results want last (get_or headers k d) wrong
      → IsWalked sets results first before headers (Err wrong)
  broken_here d wrong lt w =
      broken_walked sets results first before headers wrong
      (at.broken wrong (subst (λ l. IsBroken sets results want last l wrong) (sym (here headers k d lt)) (inl w)))

  pub walked_all : length headers ≤ k → IsWalked sets results first before headers (Ok last)
  walked_all le =
      let none : drop k headers ≡ [] = drop_all k headers le in (
        at.linked (subst (λ l. AreLinked sets results want last l) (sym none) tt),
        ap (last_hash last) (sym none) ∙ at.last_one,
      )

pub walked_none : (sets results : List RecordFact) (first : ℕ) (before : Hash) (headers : List HeaderFact)
    → AreRising None sets → AreRising None results
    → IsWalkedTo sets results first before headers 0 first before sets results
walked_none sets results first before headers sets_rise results_rise = record {
  wanted = omega arith;
  linked = λ all. all;
  broken = λ wrong all. all;
  last_one = refl;
  sets_on = record { rising = sets_rise; same = λ n le. refl };
  results_on = record { rising = results_rise; same = λ n le. refl };
}
