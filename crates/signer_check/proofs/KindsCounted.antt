-- The kinds of signers one after the other, as a check takes them.
use Rattle.signer_check.proofs.Prelude.{◌≡◌, ℕ, List, [], ◌++◌, Option, Some, None, refl, sym, ap, ◌∙◌, append-nil}
use Rattle.signer_check.proofs.Prelude.{filter, Signer, HeldSignature, Counted, counted, counted_by_hash, is_authorised}
use Rattle.signer_check.proofs.Prelude.{counted_by_signatures, missing_after, until_reached, used_for}
use Rattle.std.proofs.Common.{subst}
use Rattle.ledger_types.specs.declared.ids.Hash.{Hash}
use Rattle.signer_check.specs.declared.kind.SignerKind.{SignerKind}
use Rattle.signer_check.specs.declared.kind.SignerKind.TheVariants as kinds
use Rattle.signer_check.proofs.Needs.{Passed, passed_end, passed_next, then_missing, unsigned_use, until_from}
use Rattle.signer_check.proofs.Uses.{counted_used}

nothing_more : (o : Option ℕ) → then_missing o [] ≡ o
nothing_more None = refl
nothing_more (Some missing) = refl

no_more_use : (o : Option ℕ) (now : List HeldSignature) → used_for (until_from o []) now ≡ now
unfolding used_for until_reached
no_more_use None now = refl
no_more_use (Some missing) now = refl

module _ (hash : Hash) (before : List HeldSignature) (signers : List Signer) (need : ℕ) where
  abbrev of_kind : SignerKind → List Counted
  of_kind kind = counted_by_signatures kind 0 before signers

  abbrev all : List Counted
  all = counted hash before signers

  -- how far a check has come, and that each kind counts what it did before
  pub record IsAt (o : Option ℕ) (rest : List Counted) (now : List HeldSignature) : Type 0 where
    pub passed : Passed need all before o rest now
    pub same : (kind : SignerKind) → counted_by_signatures kind 0 now signers ≡ of_kind kind

  pub after_hash : (o : Option ℕ) → o ≡ missing_after need (counted_by_hash hash signers)
      → IsAt o (of_kind kinds.HashX ++ (of_kind kinds.Ed25519 ++ of_kind kinds.SignedPayload)) before
  after_hash o is =
      let by_hash = counted_by_hash hash signers in
      let rest = of_kind kinds.HashX ++ (of_kind kinds.Ed25519 ++ of_kind kinds.SignedPayload) in
      let next = passed_next need all before need by_hash rest before (record { missing = refl; used = refl }) in
      record {
        passed = subst (λ (x : Option ℕ). Passed need all before x rest before) (sym is)
            (subst (λ (now : List HeldSignature). Passed need all before (missing_after need by_hash) rest now)
            (unsigned_use need (filter (λ (signer : Signer). is_authorised hash signer.key) signers) before) next);
        same = λ kind. refl;
      }

  -- one kind more
  pub after_kind : (kind : SignerKind) (rest : List Counted) (o result : Option ℕ) (m : ℕ)
      (now new : List HeldSignature)
      → o ≡ Some m → IsAt o (of_kind kind ++ rest) now
      → result ≡ missing_after m (counted_by_signatures kind 0 now signers)
      → new ≡ used_for (until_reached m 0 (counted_by_signatures kind 0 now signers)) now → IsAt result rest new
  after_kind kind rest o result m now new some at missing used =
      let here = counted_by_signatures kind 0 now signers in
      let from = subst (λ (x : Option ℕ). Passed need all before x (of_kind kind ++ rest) now) some at.passed in
      let ahead = subst (λ (cs : List Counted). Passed need all before (Some m) (cs ++ rest) now) (sym (at.same kind))
      from in
      let next = passed_next need all before m here rest now ahead in
      record {
        passed = subst (λ (x : Option ℕ). Passed need all before x rest new) (sym missing)
            (subst (λ (l : List HeldSignature). Passed need all before (missing_after m here) rest l) (sym used) next);
        same = λ other.
            ap (λ (l : List HeldSignature). counted_by_signatures other 0 l signers) used
            ∙ counted_used other (until_reached m 0 here) 0 now signers ∙ at.same other;
      }

  pub after_last : (kind : SignerKind) (o result : Option ℕ) (m : ℕ) (now new : List HeldSignature)
      → o ≡ Some m → IsAt o (of_kind kind) now
      → result ≡ missing_after m (counted_by_signatures kind 0 now signers)
      → new ≡ used_for (until_reached m 0 (counted_by_signatures kind 0 now signers)) now
      → (result ≡ missing_after need all) × (new ≡ used_for (until_reached need 0 all) before)
  after_last kind o result m now new some at missing used =
      let last = after_kind kind [] o result m now new some
      (subst (λ (cs : List Counted). IsAt o cs now) (sym (append-nil (of_kind kind))) at) missing used in (
        sym (nothing_more result) ∙ sym last.passed.missing,
        sym (no_more_use result new) ∙ sym last.passed.used,
      )

  -- the weight is reached before the last kind
  pub ended : (o : Option ℕ) (rest : List Counted) (now : List HeldSignature) → o ≡ None → IsAt o rest now
      → (None ≡ missing_after need all) × (now ≡ used_for (until_reached need 0 all) before)
  ended o rest now none at = passed_end need all before o rest now none at.passed

  abbrev pub two_kinds : List Counted
  two_kinds = of_kind kinds.Ed25519 ++ of_kind kinds.SignedPayload

  -- after the hash-x signers
  pub second : (o1 o2 : Option ℕ) (m1 : ℕ) (s1 : List HeldSignature)
      → o1 ≡ missing_after need (counted_by_hash hash signers) → o1 ≡ Some m1
      → o2 ≡ missing_after m1 (of_kind kinds.HashX) → s1 ≡ used_for (until_reached m1 0 (of_kind kinds.HashX)) before
      → IsAt o2 two_kinds s1
  second o1 o2 m1 s1 hashed some1 missing1 used1 =
      after_kind kinds.HashX two_kinds o1 o2 m1 before s1 some1 (after_hash o1 hashed) missing1 used1

  -- and after the Ed25519 signers
  pub third : (o2 o3 : Option ℕ) (m2 : ℕ) (s1 s2 : List HeldSignature) → IsAt o2 two_kinds s1 → o2 ≡ Some m2
      → o3 ≡ missing_after m2 (counted_by_signatures kinds.Ed25519 0 s1 signers)
      → s2 ≡ used_for (until_reached m2 0 (counted_by_signatures kinds.Ed25519 0 s1 signers)) s1
      → IsAt o3 (of_kind kinds.SignedPayload) s2
  third o2 o3 m2 s1 s2 at some2 missing2 used2 =
      after_kind kinds.Ed25519 (of_kind kinds.SignedPayload) o2 o3 m2 s1 s2 some2 at missing2 used2
