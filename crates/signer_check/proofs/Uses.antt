-- What signatures count doesn't depend on which of them were used before.
use Rattle.signer_check.proofs.Prelude.{◌≡◌, ℕ, zero, suc, true, List, [], ◌∷◌, Option, Some, None, refl, ap, ◌∙◌}
use Rattle.signer_check.proofs.Prelude.{Signer, HeldSignature, Counted, Match, weight_of, first_match, after, used_by}
use Rattle.signer_check.proofs.Prelude.{counted_by_signatures, used_at, used_for, matches_key}
use Rattle.signer_check.specs.declared.kind.SignerKind.{SignerKind}
use Rattle.signer_check.specs.declared.kind.SignerKind.TheVariants as kinds
use Rattle.ledger_types.specs.declared.signer.SignerKey.{SignerKey}
use Rattle.ledger_types.specs.declared.signer.SignerKey.TheVariants.{Ed25519, PreAuthTx, HashX, SignedPayload}
use Rattle.std.specs.Prelude.{if◌then◌else◌, Bool}

abbrev marked : HeldSignature → HeldSignature
marked s = record s { is_used = true }

matches_marked : (kind : SignerKind) (s : HeldSignature) (key : SignerKey)
    → matches_key kind (marked s) key ≡ matches_key kind s key
matches_marked kinds.HashX s (HashX wanted) = refl
matches_marked kinds.HashX s (Ed25519 key) = refl
matches_marked kinds.HashX s (PreAuthTx wanted) = refl
matches_marked kinds.HashX s (SignedPayload key payload) = refl
matches_marked kinds.Ed25519 s (HashX wanted) = refl
matches_marked kinds.Ed25519 s (Ed25519 key) = refl
matches_marked kinds.Ed25519 s (PreAuthTx wanted) = refl
matches_marked kinds.Ed25519 s (SignedPayload key payload) = refl
matches_marked kinds.SignedPayload s (HashX wanted) = refl
matches_marked kinds.SignedPayload s (Ed25519 key) = refl
matches_marked kinds.SignedPayload s (PreAuthTx wanted) = refl
matches_marked kinds.SignedPayload s (SignedPayload key payload) = refl

module _ (kind : SignerKind) where
  first_marked : (s : HeldSignature) (left : List Signer) → first_match kind (marked s) left ≡ first_match kind s left
  unfolding first_match
  first_marked s [] = refl
  first_marked s (x ∷ xs) =
      ap (λ (b : Bool). if b then Some (record { signer = x; others = xs }) else after x
      (first_match kind (marked s) xs)) (matches_marked kind s x.key)
      ∙ ap (λ (o : Option Match). if matches_key kind s x.key then Some (record { signer = x; others = xs })
      else after x o) (first_marked s xs)

  abbrev next : (index : ℕ) → List HeldSignature → List Signer → Option Match → List Counted
  next index signatures left found =
      elim found [
        | None ↦ counted_by_signatures kind (suc index) signatures left
        | Some m ↦
            record { weight = weight_of m.signer; signature = Some index }
            ∷ counted_by_signatures kind (suc index) signatures m.others
      ]

  next_alike : (index : ℕ) (a b : List HeldSignature) (left : List Signer) (found : Option Match)
      → ((l : List Signer) → counted_by_signatures kind (suc index) a l ≡ counted_by_signatures kind (suc index) b l)
      → next index a left found ≡ next index b left found
  next_alike index a b left None rest = rest left
  next_alike index a b left (Some m) rest =
      ap (λ (cs : List Counted). record { weight = weight_of m.signer; signature = Some index } ∷ cs) (rest m.others)

  counted_used_at : (at index : ℕ) (signatures : List HeldSignature) (left : List Signer)
      → counted_by_signatures kind index (used_at at signatures) left
      ≡ counted_by_signatures kind index signatures left
  unfolding counted_by_signatures used_at
  counted_used_at at index [] left = refl
  counted_used_at zero index (s ∷ ss) left = ap (next index ss left) (first_marked s left)
  counted_used_at (suc at) index (s ∷ ss) left =
      next_alike index (used_at at ss) ss left (first_match kind s left)
      (λ l. counted_used_at at (suc index) ss l)

  counted_used_by : (by : Option ℕ) (index : ℕ) (signatures : List HeldSignature) (left : List Signer)
      → counted_by_signatures kind index (used_by by signatures) left ≡ counted_by_signatures kind index signatures left
  counted_used_by None index signatures left = refl
  counted_used_by (Some at) index signatures left = counted_used_at at index signatures left

  pub counted_used : (cs : List Counted) (index : ℕ) (signatures : List HeldSignature) (left : List Signer)
      → counted_by_signatures kind index (used_for cs signatures) left
      ≡ counted_by_signatures kind index signatures left
  unfolding used_for
  counted_used [] index signatures left = refl
  counted_used (c ∷ cs) index signatures left =
      counted_used cs index (used_by c.signature signatures) left ∙ counted_used_by c.signature index signatures left
