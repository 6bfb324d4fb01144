-- What a change of one count leaves of an account, and what of an entry depends on its account.
use Rattle.sponsor_laws.proofs.Prelude as prelude
use prelude.{◌≡◌, refl, sym, ap, ◌∙◌, ℕ, ◌+◌, true, false, cond, List, [], length, Option, Some, None, nat_eq, arith}
use prelude.{if◌then◌else◌, count_by, eqb-true, AccountId, Signer, AccountEntry, AccountEntryExtensionV2, LedgerEntry}
use prelude.{LedgerEntryBody, second_in, sponsorship_in, sponsor_of, multiplicity, owner_of, count_in, with_count}
use prelude.{with_new_count, is_same_account, Count, SubEntries, Sponsoring, Sponsored, signer_sponsors, is_this}
use prelude.{is_there, subentries_for, sponsored_signers, sponsoring_signers, counted_for, HasItems, same_sponsored}
use prelude.{same_sponsoring, length-map}
use Rattle.sponsor_rules.specs.ledger_types.declared.entry.LedgerEntryBody.TheVariants as body

-- ---- counts

-- n at the count itself, and m at others
abbrev pub instead : (at other : Count) → (n m : ℕ) → ℕ
instead SubEntries SubEntries n m = n
instead Sponsoring Sponsoring n m = n
instead Sponsored Sponsored n m = n
instead at other n m = m

with_new_count-count : (count other : Count) (n : ℕ) (a : AccountEntry)
    → count_in other (with_new_count count n a) ≡ instead count other n (count_in other a)
with_new_count-count SubEntries SubEntries n a = refl
with_new_count-count SubEntries Sponsoring n a = refl
with_new_count-count SubEntries Sponsored n a = refl
with_new_count-count Sponsoring SubEntries n a = refl
with_new_count-count Sponsoring Sponsoring n a = refl
with_new_count-count Sponsoring Sponsored n a = same_sponsored a.signers (second_in a.ext)
with_new_count-count Sponsored SubEntries n a = refl
with_new_count-count Sponsored Sponsoring n a = same_sponsoring a.signers (second_in a.ext)
with_new_count-count Sponsored Sponsored n a = refl

instead_same : (count other : Count) (a : AccountEntry)
    → count_in other a ≡ instead count other (count_in count a) (count_in other a)
instead_same SubEntries SubEntries a = refl
instead_same Sponsoring Sponsoring a = refl
instead_same Sponsored Sponsored a = refl
instead_same at other a = refl

pub with_count-count : (count other : Count) (n : ℕ) (a : AccountEntry)
    → count_in other (with_count count n a) ≡ instead count other n (count_in other a)
unfolding with_count
with_count-count count other n a =
    elim (nat_eq n (count_in count a)) as (λ b. nat_eq n (count_in count a) ≡ b
    → count_in other (cond b a (with_new_count count n a)) ≡ instead count other n (count_in other a)) [
      | true ↦ λ h. instead_same count other a ∙ ap (λ k. instead count other k (count_in other a))
          (sym (eqb-true _ _ h))
      | false ↦ λ h. with_new_count-count count other n a
    ] refl

-- ---- what stays

-- the account is the same, with the same signers and their sponsors
pub record KeepsParts (a b : AccountEntry) : Type 0 where
  pub id : b.account_id ≡ a.account_id
  pub signers : b.signers ≡ a.signers
  pub sponsors : signer_sponsors b ≡ signer_sponsors a

pub keeps_all : (a : AccountEntry) → KeepsParts a a
keeps_all a = record { id = refl; signers = refl; sponsors = refl }

pub keeps_twice : (a b c : AccountEntry) → KeepsParts a b → KeepsParts b c → KeepsParts a c
keeps_twice a b c g h = record { id = h.id ∙ g.id; signers = h.signers ∙ g.signers; sponsors = h.sponsors ∙ g.sponsors }

with_new_count-keeps : (count : Count) (n : ℕ) (a : AccountEntry) → KeepsParts a (with_new_count count n a)
with_new_count-keeps SubEntries n a = record { id = refl; signers = refl; sponsors = refl }
with_new_count-keeps Sponsoring n a = record { id = refl; signers = refl; sponsors = refl }
with_new_count-keeps Sponsored n a = record { id = refl; signers = refl; sponsors = refl }

pub with_count-keeps : (count : Count) (n : ℕ) (a : AccountEntry) → KeepsParts a (with_count count n a)
unfolding with_count
with_count-keeps count n a = elim (nat_eq n (count_in count a)) as
    (λ b. KeepsParts a
    (cond b a (with_new_count count n a))) [ true ↦ keeps_all a | false ↦ with_new_count-keeps count n a ]

-- ---- items

as_many_in : (signers : List Signer) (o : Option AccountEntryExtensionV2)
    → ((ext : AccountEntryExtensionV2) → o ≡ Some ext → length ext.signer_sponsoring_ids ≡ length signers)
    → length (sponsorship_in signers o).signer_sponsoring_ids ≡ length signers
as_many_in signers None h = length-map signers _
as_many_in signers (Some ext) h = h ext refl

pub as_many : (a : AccountEntry) → HasItems a → length (signer_sponsors a) ≡ length a.signers
as_many a h = as_many_in a.signers (second_in a.ext) h

pub has_items : (a : AccountEntry) → length (signer_sponsors a) ≡ length a.signers → HasItems a
has_items a h ext is = sym (ap (λ o. length (sponsorship_in a.signers o).signer_sponsoring_ids) is) ∙ h

-- ---- what an entry counts

-- what an entry counts for those who pay for it or for whom it is paid
abbrev pub share : Count → AccountId → ℕ → (owner sponsor : Option AccountId) → ℕ
share SubEntries id k owner sponsor = 0
share Sponsoring id k owner sponsor = if is_this id sponsor then k else 0
share Sponsored id k owner sponsor = if is_there sponsor then (if is_this id owner then k else 0) else 0

-- what it counts whoever its sponsor is
abbrev pub own_part : Count → AccountId → LedgerEntryBody → ℕ
own_part SubEntries id b = subentries_for id b
own_part Sponsoring id b = sponsoring_signers id b
own_part Sponsored id b = sponsored_signers id b

pub counted_split : (count : Count) (id : AccountId) (e : LedgerEntry)
    → counted_for count id e ≡ share count id (multiplicity e.body) (owner_of e.body)
    (sponsor_of e) + own_part count id e.body
counted_split SubEntries id e = omega arith
counted_split Sponsoring id e = refl
counted_split Sponsored id e = refl

pub own_part-keeps : (count : Count) (id : AccountId) (a b : AccountEntry) → KeepsParts a b
    → own_part count id (body.Account b) ≡ own_part count id (body.Account a)
own_part-keeps SubEntries id a b h = λ i. if is_same_account (h.id i) id then length (h.signers i) else 0
own_part-keeps Sponsoring id a b h = ap (count_by (is_this id)) h.sponsors
own_part-keeps Sponsored id a b h = λ i. if is_same_account (h.id i) id then count_by is_there (h.sponsors i) else 0

-- an entry whose account keeps its parts counts as before
pub counted-keeps : (count : Count) (id : AccountId) (e : LedgerEntry) (a b : AccountEntry) → e.body ≡ body.Account a
    → KeepsParts a b
    → counted_for count id (record e { body = body.Account b }) ≡ counted_for count id e
counted-keeps count id e a b is h =
    counted_split count id (record e { body = body.Account b })
    ∙ (λ i. share count id 2 (Some (h.id i)) (sponsor_of e) + own_part-keeps count id a b h i)
    ∙ sym (ap (λ x. share count id (multiplicity x) (owner_of x) (sponsor_of e) + own_part count id x) is)
    ∙ sym (counted_split count id e)
