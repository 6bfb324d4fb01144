-- The signatures one after another, as a loop takes them.
use Rattle.signer_check.proofs.Prelude.{◌≡◌, ℕ, zero, suc, ◌+◌, ◌<◌, ◌≤◌, true, List, [], ◌∷◌, length, drop, set}
use Rattle.signer_check.proofs.Prelude.{get_or, Option, Some, None, refl, sym, ap, ◌∙◌, arith, add-one}
use Rattle.signer_check.proofs.Prelude.{option_map, drop_more, drop_all, drop-set-lt, Signer, HeldSignature, Counted}
use Rattle.signer_check.proofs.Prelude.{Match, weight_of, first_match, counted_by_signatures, until_reached}
use Rattle.signer_check.proofs.Prelude.{used_at, used_for, missing_after, missing_with, left_after}
use Rattle.std.proofs.lemmas.Option.{same_Some}
use Rattle.signer_check.specs.declared.kind.SignerKind.{SignerKind}
use Rattle.signer_check.proofs.Needs.{then_missing, until_from, until_step}

-- using a signature is a write at its index
used_is : (s d : HeldSignature) (all : List HeldSignature) (i : ℕ) → i < length all → s ≡ get_or all i d
    → used_at i all ≡ set all i (record s { is_used = true })
unfolding used_at
used_is s d [] i lt e = absurd (omega arith)
used_is s d (x ∷ xs) zero lt e = ap (λ (y : HeldSignature). record y { is_used = true } ∷ xs) (sym e)
used_is s d (x ∷ xs) (suc i) lt e = ap (λ (l : List HeldSignature). x ∷ l) (used_is s d xs i (omega arith) e)

using_first : (index : ℕ) (now : List HeldSignature) (s d : HeldSignature) (weight : ℕ) (cs : List Counted)
    → index < length now → s ≡ get_or now index d
    → used_for (record { weight = weight; signature = Some index } ∷ cs) now
    ≡ used_for cs (set now index (record s { is_used = true }))
unfolding used_for
using_first index now s d weight cs lt at = ap (used_for cs) (used_is s d now index lt at)

module _ (kind : SignerKind) where
  -- what counts from a signature on, by what it matched
  abbrev pub counted_next : (index next : ℕ) → List HeldSignature → List Signer → Option Match → List Counted
  counted_next index next signatures left found =
      elim found [
        | None ↦ counted_by_signatures kind next signatures left
        | Some m ↦
            record { weight = weight_of m.signer; signature = Some index }
            ∷ counted_by_signatures kind next signatures m.others
      ]

  counted_from : (index : ℕ) (now : List HeldSignature) (left : List Signer) (s d : HeldSignature) → index < length now
      → s ≡ get_or now index d
      → counted_by_signatures kind index (drop index now) left
      ≡ counted_next index (index + 1) (drop (index + 1) now) left (first_match kind s left)
  unfolding counted_by_signatures
  counted_from index now left s d lt at =
      let rest = drop (index + 1) now in
      let prefix : drop index now ≡ s ∷ rest =
      drop_more now index d lt ∙ ap (λ (x : HeldSignature). x ∷ rest) (sym at) in
      ap (λ (l : List HeldSignature). counted_by_signatures kind index l left) prefix
      ∙ ap (λ (n : ℕ). counted_next index n rest left (first_match kind s left)) (sym (add-one index))

  -- what a signature matched, by the signer that counted and the signers left
  nothing_matched : (o : Option Match) → None ≡ option_map (λ (found : Match). found.signer) o → o ≡ None
  nothing_matched None e = refl
  nothing_matched (Some m) e = absurd cc

  signer_matched : (o : Option Match) (signer : Signer) (left after : List Signer)
      → Some signer ≡ option_map (λ (found : Match). found.signer) o → after ≡ left_after left o
      → o ≡ Some (record { signer = signer; others = after })
  signer_matched None signer left after e f = absurd cc
  signer_matched (Some m) signer left after e f =
      ap (λ (x : Signer). let found : Match = record { signer = x; others = m.others } in
      Some found) (sym (same_Some signer m.signer e))
      ∙ ap (λ (l : List Signer). let found : Match = record { signer = signer; others = l } in Some found) (sym f)

  -- what is known before a signature: the check from here on, of the signers left and what is missing, gives the entire
  -- check's answers
  pub record Holds (end : Option ℕ) (used : List HeldSignature) (missing : ℕ) (now : List HeldSignature) (index : ℕ)
      (left : List Signer) : Type 0 where
    pub reached : missing_after missing (counted_by_signatures kind index (drop index now) left) ≡ end
    pub using : used_for (until_reached missing 0 (counted_by_signatures kind index (drop index now) left)) now ≡ used

  -- a signature that matches nothing
  pub holds_unmatched : (end : Option ℕ) (used : List HeldSignature) (missing : ℕ) (now : List HeldSignature)
      (index : ℕ) (left after : List Signer) (s d : HeldSignature) → index < length now → s ≡ get_or now index d
      → None ≡ option_map (λ (found : Match). found.signer) (first_match kind s left)
      → after ≡ left_after left (first_match kind s left) → Holds end used missing now index left
      → Holds end used missing now (index + 1) after
  holds_unmatched end used missing now index left after s d lt at none others h =
      let none_found = nothing_matched (first_match kind s left) none in
      let same : after ≡ left = others ∙ ap (left_after left) none_found in
      let rest = drop (index + 1) now in
      let on : counted_by_signatures kind (index + 1) rest after
      ≡ counted_by_signatures kind index (drop index now) left =
      ap (counted_by_signatures kind (index + 1) rest) same ∙ sym (counted_from index now left s d lt at
      ∙ ap (counted_next index (index + 1) rest left) none_found) in
      record {
        reached = ap (missing_after missing) on ∙ h.reached;
        using = ap (λ (cs : List Counted). used_for (until_reached missing 0 cs) now) on ∙ h.using;
      }

  -- a signature that counts a signer
  record Turn (end : Option ℕ) (used : List HeldSignature) (now : List HeldSignature) (left : Option ℕ)
      (rest : List Counted) : Type 0 where
    reached : then_missing left rest ≡ end
    using : used_for (until_from left rest) now ≡ used

  turn : (end : Option ℕ) (used : List HeldSignature) (missing : ℕ) (now : List HeldSignature) (index : ℕ)
      (left after : List Signer) (s d : HeldSignature) (signer : Signer) → index < length now → s ≡ get_or now index d
      → Some signer ≡ option_map (λ (found : Match). found.signer) (first_match kind s left)
      → after ≡ left_after left (first_match kind s left) → Holds end used missing now index left
      → Turn end used (set now index (record s { is_used = true })) (missing_with missing (weight_of signer))
      (counted_by_signatures kind (index + 1) (drop (index + 1) now) after)
  turn end used missing now index left after s d signer lt at some others h =
      let rest = drop (index + 1) now in
      let c : Counted = record { weight = weight_of signer; signature = Some index } in
      let cs = counted_by_signatures kind (index + 1) rest after in
      let found = signer_matched (first_match kind s left) signer left after some others in
      let from : c ∷ cs ≡ counted_by_signatures kind index (drop index now) left =
      sym (counted_from index now left s d lt at ∙ ap (counted_next index (index + 1) rest left) found) in
      record {
        reached = ap (missing_after missing) from ∙ h.reached;
        using =
            sym (using_first index now s d (weight_of signer) (until_from (missing_with missing
            (weight_of signer)) cs) lt at)
            ∙ ap (λ (l : List Counted). used_for l now) (sym (until_step missing c cs))
            ∙ ap (λ (l : List Counted). used_for (until_reached missing 0 l) now) from
            ∙ h.using;
      }

  -- the weight is reached with it
  pub holds_end : (end : Option ℕ) (used : List HeldSignature) (missing : ℕ) (now : List HeldSignature) (index : ℕ)
      (left after : List Signer) (s d : HeldSignature) (signer : Signer) → index < length now → s ≡ get_or now index d
      → Some signer ≡ option_map (λ (found : Match). found.signer) (first_match kind s left)
      → after ≡ left_after left (first_match kind s left) → None ≡ missing_with missing (weight_of signer)
      → Holds end used missing now index left
      → (None ≡ end) × (set now index (record s { is_used = true }) ≡ used)
  unfolding used_for
  holds_end end used missing now index left after s d signer lt at some others all h =
      let t = turn end used missing now index left after s d signer lt at some others h in
      let cs = counted_by_signatures kind (index + 1) (drop (index + 1) now) after in (
        ap (λ (o : Option ℕ). then_missing o cs) all ∙ t.reached,
        ap (λ (o : Option ℕ). used_for (until_from o cs) (set now index (record s { is_used = true }))) all ∙ t.using,
      )

  -- or more is missing
  pub holds_on : (end : Option ℕ) (used : List HeldSignature) (missing more : ℕ) (now : List HeldSignature) (index : ℕ)
      (left after : List Signer) (s d : HeldSignature) (signer : Signer) → index < length now → s ≡ get_or now index d
      → Some signer ≡ option_map (λ (found : Match). found.signer) (first_match kind s left)
      → after ≡ left_after left (first_match kind s left) → Some more ≡ missing_with missing (weight_of signer)
      → Holds end used missing now index left
      → Holds end used more (set now index (record s { is_used = true })) (index + 1) after
  holds_on end used missing more now index left after s d signer lt at some others on h =
      let t = turn end used missing now index left after s d signer lt at some others h in
      let s' : HeldSignature = record s { is_used = true } in
      let cs = counted_by_signatures kind (index + 1) (drop (index + 1) now) after in
      let same : counted_by_signatures kind (index + 1) (drop (index + 1) (set now index s')) after ≡ cs =
      ap (λ (l : List HeldSignature). counted_by_signatures kind (index + 1) l after)
      (drop-set-lt (index + 1) now index s' (omega arith)) in
      record {
        reached = ap (missing_after more) same ∙ ap (λ (o : Option ℕ). then_missing o cs) on ∙ t.reached;
        using =
            ap (λ (l : List Counted). used_for (until_reached more 0 l) (set now index s')) same
            ∙ ap (λ (o : Option ℕ). used_for (until_from o cs) (set now index s')) on
            ∙ t.using;
      }

  -- no signature is left
  no_signatures_used : (index missing : ℕ) (now : List HeldSignature) (left : List Signer)
      → (missing_after missing (counted_by_signatures kind index [] left) ≡ Some missing)
      × (used_for (until_reached missing 0 (counted_by_signatures kind index [] left)) now ≡ now)
  unfolding counted_by_signatures until_reached used_for
  no_signatures_used index missing now left = (refl, refl)

  pub holds_all : (end : Option ℕ) (used : List HeldSignature) (missing : ℕ) (now : List HeldSignature) (index : ℕ)
      (left : List Signer) → length now ≤ index → Holds end used missing now index left
      → (Some missing ≡ end) × (now ≡ used)
  holds_all end used missing now index left le h =
      let e : drop index now ≡ [] = drop_all index now le in
      let none = no_signatures_used index missing now left in (
        sym none.0 ∙ ap (λ (l : List HeldSignature). missing_after missing (counted_by_signatures kind index l left))
            (sym e) ∙ h.reached,
        sym none.1 ∙ ap (λ (l : List HeldSignature). used_for (until_reached missing 0
            (counted_by_signatures kind index l left)) now) (sym e) ∙ h.using,
      )
