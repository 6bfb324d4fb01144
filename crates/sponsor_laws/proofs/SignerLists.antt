-- The sponsors of an account's signers, after a signer is added, taken away or given another sponsor.
use Rattle.sponsor_laws.proofs.Prelude.{◌≡◌, ◌≢◌, refl, sym, ap, ◌∙◌, ℕ, zero, suc, ◌≤◌, List, [], ◌∷◌, ◌++◌, map, take}
use Rattle.sponsor_laws.proofs.Prelude.{drop, get_or, Option, Some, None, slice_set, arith, insert, remove, slice_get}
use Rattle.sponsor_laws.proofs.Prelude.{take-map, drop-map, map-append, AccountId, Signer, AccountEntry}
use Rattle.sponsor_laws.proofs.Prelude.{AccountEntryExtensionV2, second_in, sponsored_in, sponsorship_in}
use Rattle.sponsor_laws.proofs.Prelude.{signer_sponsor, count_in, with_sponsors, with_sponsors_in, with_signer_at}
use Rattle.sponsor_laws.proofs.Prelude.{without_signer, with_signer_sponsor, Sponsored, second_edited, signer_sponsors}
use Rattle.std.specs.Option.{option_and_then}
use Rattle.sponsor_rules.specs.ledger_types.declared.account.AccountEntryExtensionV1.{AccountEntryExtensionV1}

-- ---- lists without sponsors

abbrev none_for : Signer → Option AccountId
none_for signer = None

abbrev none_each : List Signer → List (Option AccountId)
none_each signers = map (λ signer. None) signers

none_inserted : (signers : List Signer) (index : ℕ) (signer : Signer)
    → none_each (insert signers index signer) ≡ insert (none_each signers) index None
none_inserted signers index signer = map-append none_for (take index signers) (signer ∷ drop index signers)
    ∙ (λ i. sym (take-map none_for index signers) i ++ None ∷ sym (drop-map none_for index signers) i)

none_removed : (signers : List Signer) (index : ℕ) → none_each (remove signers index) ≡ remove (none_each signers) index
none_removed signers index = map-append none_for (take index signers) (drop (suc index) signers)
    ∙ (λ i. sym (take-map none_for index signers) i ++ sym (drop-map none_for (suc index) signers) i)

none_set : (signers : List Signer) (index : ℕ) → none_each signers ≡ slice_set (none_each signers) index None
none_set [] index = refl
none_set (x ∷ xs) zero = refl
none_set (x ∷ xs) (suc index) = ap (λ ys. None ∷ ys) (none_set xs index)

-- ---- edited accounts

module _ (change : List (Option AccountId) → List (Option AccountId)) where
  ids_edited : (signers more : List Signer) (o : Option AccountEntryExtensionV2)
      → (o ≡ None → none_each more ≡ change (none_each signers))
      → (sponsorship_in more (with_sponsors_in change o)).signer_sponsoring_ids
      ≡ change (sponsorship_in signers o).signer_sponsoring_ids
  ids_edited signers more None same = same refl
  ids_edited signers more (Some ext) same = refl

  sponsors_edited : (signers more : List Signer) (ext : Option AccountEntryExtensionV1)
      → (second_in ext ≡ None → none_each more ≡ change (none_each signers))
      → (sponsorship_in more (second_in (with_sponsors change ext))).signer_sponsoring_ids
      ≡ change (sponsorship_in signers (second_in ext)).signer_sponsoring_ids
  sponsors_edited signers more ext same = ap (λ o. (sponsorship_in more o).signer_sponsoring_ids)
      (second_edited change ext) ∙ ids_edited signers more (second_in ext) same

-- an account has the extension, where something is paid for it
extended : (a : AccountEntry) → 1 ≤ count_in Sponsored a → second_in a.ext ≢ None
extended a le none = let nothing : count_in Sponsored a ≡ 0 = ap sponsored_in none in absurd (omega arith)

pub sponsors_inserted : (index : ℕ) (signer : Signer) (s : Option AccountId) (a : AccountEntry)
    → (s ≢ None → 1 ≤ count_in Sponsored a) → signer_sponsors (with_signer_at index signer s a)
    ≡ insert (signer_sponsors a) index s
sponsors_inserted index signer None a paid = sponsors_edited (λ sponsors. insert sponsors index None) a.signers
    (insert a.signers index signer) a.ext (λ none. none_inserted a.signers index signer)
sponsors_inserted index signer (Some s) a paid = sponsors_edited (λ sponsors. insert sponsors index (Some s)) a.signers
    (insert a.signers index signer) a.ext (λ none. absurd (extended a (paid (λ is. cc)) none))

pub sponsors_removed : (index : ℕ) (a : AccountEntry)
    → signer_sponsors (without_signer index a) ≡ remove (signer_sponsors a) index
sponsors_removed index a = sponsors_edited (λ sponsors. remove sponsors index) a.signers (remove a.signers index) a.ext
    (λ none. none_removed a.signers index)

pub sponsors_set : (index : ℕ) (s : Option AccountId) (a : AccountEntry) → (s ≢ None → 1 ≤ count_in Sponsored a)
    → signer_sponsors (with_signer_sponsor index s a) ≡ slice_set (signer_sponsors a) index s
sponsors_set index None a paid = sponsors_edited (λ sponsors. slice_set sponsors index None) a.signers a.signers a.ext
    (λ none. none_set a.signers index)
sponsors_set index (Some s) a paid = sponsors_edited (λ sponsors. slice_set sponsors index
    (Some s)) a.signers a.signers a.ext (λ none. absurd (extended a (paid (λ is. cc)) none))

-- ---- the sponsor at an index

at_index : (xs : List (Option AccountId)) (index : ℕ)
    → option_and_then (λ sponsor. sponsor) (slice_get xs index) ≡ get_or xs index None
at_index [] index = refl
at_index (x ∷ xs) zero = refl
at_index (x ∷ xs) (suc index) = at_index xs index

none_at_location : (signers : List Signer) (index : ℕ) → None ≡ get_or (none_each signers) index None
none_at_location [] index = refl
none_at_location (x ∷ xs) zero = refl
none_at_location (x ∷ xs) (suc index) = none_at_location xs index

sponsor_in_place : (signers : List Signer) (o : Option AccountEntryExtensionV2) (index : ℕ)
    → option_and_then (λ ext. option_and_then (λ sponsor. sponsor) (slice_get ext.signer_sponsoring_ids index)) o
    ≡ get_or (sponsorship_in signers o).signer_sponsoring_ids index None
sponsor_in_place signers None index = none_at_location signers index
sponsor_in_place signers (Some ext) index = at_index ext.signer_sponsoring_ids index

pub sponsor_at_index : (a : AccountEntry) (index : ℕ) → signer_sponsor a index ≡ get_or (signer_sponsors a) index None
sponsor_at_index a index = sponsor_in_place a.signers (second_in a.ext) index
