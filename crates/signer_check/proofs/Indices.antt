-- The first signer left that a signature matches, by its index among all signers.
use Rattle.signer_check.proofs.Prelude.{◌≡◌, ℕ, zero, suc, ◌+◌, ◌<◌, ◌≤◌, Bool, true, false, cond, not, ltb, ◌&&◌, List}
use Rattle.signer_check.proofs.Prelude.{[], ◌∷◌, length, get_or, set, replicate, Option, Some, None, refl, sym, ap, ◌∙◌}
use Rattle.signer_check.proofs.Prelude.{arith, inl, inr, position, prefix_len, zip, option_map, cases_lt, lt-ltb}
use Rattle.signer_check.proofs.Prelude.{le-ltb, Signer, HeldSignature, matches_key, Match, after, first_match, left_of}
use Rattle.std.proofs.lemmas.List.Quantifiers.{position-Some}
use Rattle.signer_check.specs.declared.kind.SignerKind.{SignerKind}

-- the index in a list, one further on where the list has another item before it
index_later : (b : Bool) (n len : ℕ) → b ≡ false
    → cond (ltb (cond (not b) (1 + n) 0) (suc len)) (Some (cond (not b) (1 + n) 0)) None
    ≡ option_map suc (cond (ltb n len) (Some n) None)
index_later true n len e = absurd cc
index_later false n len e =
    elim (cases_lt n len) [
      | inl lt ↦ rw (lt-ltb n len lt, lt-ltb (1 + n) (suc len) (omega arith)) (ap Some (omega arith))
      | inr le ↦ rw (le-ltb n len le, le-ltb (1 + n) (suc len) (omega arith)) refl
    ]

position_later : {X : Type 0} (p : X → Bool) (x : X) (xs : List X) → p x ≡ false
    → position p (x ∷ xs) ≡ option_map suc (position p xs)
position_later p x xs e = index_later (p x) (prefix_len (λ y. not (p y)) xs) (length xs) e

position_here : {X : Type 0} (p : X → Bool) (x : X) (xs : List X) → p x ≡ true → position p (x ∷ xs) ≡ Some 0
position_here p x xs e = rw (e, lt-ltb 0 (suc (length xs)) (omega arith)) refl

-- an index in both lists
zip_within : (signers : List Signer) (flags : List Bool) (i : ℕ) → i < length (zip signers flags)
    → (i < length signers) × (i < length flags)
zip_within [] flags i h = (h, absurd (omega arith))
zip_within (x ∷ xs) [] i h = (omega arith, h)
zip_within (x ∷ xs) (f ∷ fs) zero h = (omega arith, omega arith)
zip_within (x ∷ xs) (f ∷ fs) (suc i) h = let t = zip_within xs fs i (omega arith) in (omega arith, omega arith)

module _ (kind : SignerKind) where
  -- the signer may still count, and the signature matches it
  abbrev pub counts_by : HeldSignature → Signer × Bool → Bool
  counts_by signature pair = not pair.1 && matches_key kind signature pair.0.key

  -- what is found at an index
  abbrev pub found_at : Signer → List Bool → List Signer → Option ℕ → Option Match
  found_at d flags signers None = None
  found_at d flags signers (Some i) = Some (record {
    signer = get_or signers i d;
    others =
        left_of (set flags i true) signers;
  })

  found_counted : (d x : Signer) (flags : List Bool) (xs : List Signer) (index : Option ℕ)
      → found_at d flags xs index ≡ found_at d (true ∷ flags) (x ∷ xs) (option_map suc index)
  found_counted d x flags xs None = refl
  found_counted d x flags xs (Some i) = refl

  found_after : (d x : Signer) (flags : List Bool) (xs : List Signer) (index : Option ℕ)
      → after x (found_at d flags xs index) ≡ found_at d (false ∷ flags) (x ∷ xs) (option_map suc index)
  found_after d x flags xs None = refl
  found_after d x flags xs (Some i) = refl

  first_left : (s : HeldSignature) (d x : Signer) (flags : List Bool) (xs : List Signer) (b : Bool)
      → matches_key kind s x.key ≡ b
      → first_match kind s (left_of flags xs) ≡ found_at d flags xs (position (counts_by s) (zip xs flags))
      → cond b (Some (record { signer = x; others = left_of flags xs }))
      (after x (first_match kind s (left_of flags xs)))
      ≡ found_at d (false ∷ flags) (x ∷ xs) (position (counts_by s) ((x, false) ∷ zip xs flags))
  first_left s d x flags xs true e others =
      ap (found_at d (false ∷ flags) (x ∷ xs)) (sym (position_here (counts_by s) (x, false) (zip xs flags) e))
  first_left s d x flags xs false e others =
      ap (after x) others
      ∙ found_after d x flags xs (position (counts_by s) (zip xs flags))
      ∙ ap (found_at d (false ∷ flags) (x ∷ xs)) (sym (position_later (counts_by s) (x, false) (zip xs flags) e))

  pub first_match_at : (s : HeldSignature) (d : Signer) (flags : List Bool) (signers : List Signer)
      → first_match kind s (left_of flags signers)
      ≡ found_at d flags signers (position (counts_by s) (zip signers flags))
  unfolding first_match
  first_match_at s d flags [] = refl
  first_match_at s d [] (x ∷ xs) = refl
  first_match_at s d (true ∷ flags) (x ∷ xs) =
      first_match_at s d flags xs
      ∙ found_counted d x flags xs (position (counts_by s) (zip xs flags))
      ∙ ap (found_at d (true ∷ flags) (x ∷ xs)) (sym (position_later (counts_by s) (x, true) (zip xs flags) refl))
  first_match_at s d (false ∷ flags) (x ∷ xs) =
      first_left s d x flags xs (matches_key kind s x.key) refl (first_match_at s d flags xs)

  -- by the index that was found
  pub matched_at : (s : HeldSignature) (d : Signer) (flags : List Bool) (signers : List Signer) (index : Option ℕ)
      → index ≡ position (counts_by s) (zip signers flags)
      → first_match kind s (left_of flags signers) ≡ found_at d flags signers index
  matched_at s d flags signers index e = first_match_at s d flags signers ∙ ap (found_at d flags signers) (sym e)

  pub matched_nothing : (s : HeldSignature) (flags : List Bool) (signers : List Signer)
      → None ≡ position (counts_by s) (zip signers flags) → first_match kind s (left_of flags signers) ≡ None
  unfolding first_match
  matched_nothing s flags [] e = refl
  matched_nothing s flags (x ∷ xs) e = matched_at s x flags (x ∷ xs) None e

  pub index_within : (s : HeldSignature) (d : Signer) (flags : List Bool) (signers : List Signer) (i : ℕ)
      → Some i ≡ position (counts_by s) (zip signers flags) → (i < length signers) × (i < length flags)
  index_within s d flags signers i e =
      zip_within signers flags i (position-Some (counts_by s) (zip signers flags) i (d, false) (sym e)).0

-- where no flag is set, all are left
pub all_left : (n : ℕ) (signers : List Signer) → length signers ≤ n → left_of (replicate n false) signers ≡ signers
all_left n [] h = refl
all_left zero (x ∷ xs) h = absurd (omega arith)
all_left (suc n) (x ∷ xs) h = ap (λ (l : List Signer). x ∷ l) (all_left n xs (omega arith))
