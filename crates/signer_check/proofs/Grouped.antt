-- Vouches in groups of one signature each, and one more of them.
use Rattle.signer_check.proofs.Prelude.{◌≡◌, ℕ, Bool, true, false, List, [], ◌∷◌, ◌++◌, Option, None, refl, sym}
use Rattle.signer_check.proofs.Prelude.{ap, ◌∙◌, append-nil}
use Rattle.std.proofs.Common.{subst, if◌then◌else◌}
use Rattle.std.proofs.lemmas.List.Elements.{filter-append}
use Rattle.std.proofs.lemmas.Map.Text.{is_eq-slice_cmp}
use Rattle.std.proofs.lemmas.Slice.Eq.{bytes_eq-Decides}
use Rattle.std.specs.BTreeMap.{BTreeMap, is_at}
use Rattle.std.specs.List.{cons_option}
use Rattle.std.specs.Str.{bytes_eq}
use Rattle.ledger_types.specs.Bytes.{bytes_cmp}
use Rattle.ledger_types.specs.declared.ids.Hash.{Hash}
use Rattle.ledger_types.specs.declared.signer.SignerKey.{SignerKey}
use Rattle.op_types.specs.declared.vouch.Vouch.{Vouch}
use Rattle.op_types.specs.declared.vouch.Vouch.TheVariants as vouching
use Rattle.signer_check.specs.Groups.{all_for, group_at, signature_of}
use Rattle.signer_check.specs.Weight.{vouched_key, vouched_keys}

-- ---- one more

abbrev Groups : Type 0
Groups = BTreeMap (List ℕ) (List Vouch)

one_for : (vouch : Vouch) (s : List ℕ) (b : Bool) → bytes_eq (signature_of vouch) s ≡ b
    → all_for s (vouch ∷ []) ≡ (if b then vouch ∷ [] else [])
one_for vouch s b is = ap (λ (t : Bool). if t then vouch ∷ [] else []) is

-- by whether the signature is the one whose list is put back
pub grouped_at : (groups new : Groups) (vouch : Vouch) (vouches : List Vouch) (s : List ℕ) (b : Bool)
    → bytes_eq (signature_of vouch) s ≡ b → group_at groups s ≡ all_for s vouches
    → group_at new (signature_of vouch) ≡ group_at groups (signature_of vouch) ++ vouch ∷ []
    → (bytes_eq (signature_of vouch) s ≡ false → group_at new s ≡ group_at groups s)
    → group_at new s ≡ all_for s (vouches ++ vouch ∷ [])
grouped_at groups new vouch vouches s true is was here others =
    let same : signature_of vouch ≡ s = (bytes_eq-Decides (signature_of vouch) s).0 is in
    subst (λ (q : List ℕ). group_at new q ≡ group_at groups q ++ vouch ∷ []) same here
    ∙ ap (λ (l : List Vouch). l ++ vouch ∷ []) was
    ∙ ap (λ (l : List Vouch). all_for s vouches ++ l) (sym (one_for vouch s true is))
    ∙ sym (filter-append (λ (v : Vouch). bytes_eq (signature_of v) s) vouches (vouch ∷ []))
grouped_at groups new vouch vouches s false is was here others =
    others is ∙ was ∙ sym (append-nil (all_for s vouches))
    ∙ ap (λ (l : List Vouch). all_for s vouches ++ l) (sym (one_for vouch s false is))
    ∙ sym (filter-append (λ (v : Vouch). bytes_eq (signature_of v) s) vouches (vouch ∷ []))

-- ---- a map that is changed at one signature

pub at_signature : (s q : List ℕ) → bytes_eq s q ≡ false → is_at (bytes_cmp s) q ≡ false
at_signature s q apart = is_eq-slice_cmp s q ∙ apart

-- ---- the keys that a group has

keys_kept : (hash : Hash) (s : List ℕ) (vouch : Vouch) → bytes_eq (signature_of vouch) s ≡ false
    → vouched_key hash s vouch ≡ None
keys_kept hash s (vouching.Hash key over signature) apart = rw apart refl
keys_kept hash s (vouching.Payload key payload signature) apart = rw apart refl

keys_by : (hash : Hash) (s : List ℕ) (vouch : Vouch) (vouches : List Vouch) (b : Bool)
    → bytes_eq (signature_of vouch) s ≡ b → vouched_keys hash (all_for s vouches) s ≡ vouched_keys hash vouches s
    → vouched_keys hash (if b then vouch ∷ all_for s vouches else all_for s vouches) s
    ≡ vouched_keys hash (vouch ∷ vouches) s
keys_by hash s vouch vouches true is rest =
    ap (λ (l : List SignerKey). cons_option (vouched_key hash s vouch) l) rest
keys_by hash s vouch vouches false is rest =
    rest ∙ ap (λ (o : Option SignerKey). cons_option o (vouched_keys hash vouches s))
    (sym (keys_kept hash s vouch is))

-- those of other signatures give no key
pub keys_of_group : (hash : Hash) (s : List ℕ) (vouches : List Vouch)
    → vouched_keys hash (all_for s vouches) s ≡ vouched_keys hash vouches s
keys_of_group hash s [] = refl
keys_of_group hash s (vouch ∷ vouches) =
    keys_by hash s vouch vouches (bytes_eq (signature_of vouch) s) refl (keys_of_group hash s vouches)
