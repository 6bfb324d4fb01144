-- What a change of a count or of a signer leaves of an account.
use Rattle.sponsor_rules.proofs.Prelude.{◌≡◌, ◌≢◌, ℕ, ◌≤◌, refl, sym, ap, subst, ◌∙◌, arith, Bool, true, false, cond}
use Rattle.sponsor_rules.proofs.Prelude.{Option, Some, None, List, nat_eq, AccountId, AccountEntry, Count, SubEntries}
use Rattle.sponsor_rules.proofs.Prelude.{Sponsoring, Sponsored, count_in, with_new_count, with_count, with_less}
use Rattle.sponsor_rules.proofs.Prelude.{KeepsCore, RaisesNoCount}
use Rattle.std.proofs.lemmas.Bool.{eqb-true}
use Rattle.ledger_types.specs.declared.signer.Signer.{Signer}
use Rattle.ledger_types.specs.declared.account.AccountEntryExtensionV1.{AccountEntryExtensionV1}
use Rattle.ledger_types.specs.declared.account.AccountEntryExtensionV2.{AccountEntryExtensionV2}
use Rattle.reserve_rules.specs.entry_slots.AccountExtensions.{liabilities_in, second_in, sponsored_in, sponsoring_in}
use Rattle.reserve_rules.specs.entry_slots.AccountExtensions.{sponsorship_in}
use Rattle.sponsor_rules.specs.SignerIndex.{with_sponsors, with_sponsors_in}

-- ---- counts of an account of which one is changed

with_new_count_is : (c : Count) (n : ℕ) (a : AccountEntry) → count_in c (with_new_count c n a) ≡ n
with_new_count_is SubEntries n a = refl
with_new_count_is Sponsoring n a = refl
with_new_count_is Sponsored n a = refl

chosen_is : (b : Bool) (c : Count) (n : ℕ) (a : AccountEntry) → nat_eq n (count_in c a) ≡ b
    → count_in c (cond b a (with_new_count c n a)) ≡ n
chosen_is true c n a e = sym (eqb-true n (count_in c a) e)
chosen_is false c n a e = with_new_count_is c n a

-- the changed count has the new value
pub with_count_is : (c : Count) (n : ℕ) (a : AccountEntry) → count_in c (with_count c n a) ≡ n
unfolding with_count
with_count_is c n a = chosen_is (nat_eq n (count_in c a)) c n a refl

pub same_sponsored : (signers : List Signer) (ext : Option AccountEntryExtensionV2)
    → (sponsorship_in signers ext).num_sponsored ≡ sponsored_in ext
same_sponsored signers None = refl
same_sponsored signers (Some ext) = refl

pub same_sponsoring : (signers : List Signer) (ext : Option AccountEntryExtensionV2)
    → (sponsorship_in signers ext).num_sponsoring ≡ sponsoring_in ext
same_sponsoring signers None = refl
same_sponsoring signers (Some ext) = refl

with_new_count_keeps : (c other : Count) (n : ℕ) (a : AccountEntry) → other ≢ c
    → count_in other (with_new_count c n a) ≡ count_in other a
with_new_count_keeps SubEntries SubEntries n a differ = absurd (differ refl)
with_new_count_keeps Sponsoring Sponsoring n a differ = absurd (differ refl)
with_new_count_keeps Sponsored Sponsored n a differ = absurd (differ refl)
with_new_count_keeps SubEntries Sponsoring n a differ = refl
with_new_count_keeps SubEntries Sponsored n a differ = refl
with_new_count_keeps Sponsoring SubEntries n a differ = refl
with_new_count_keeps Sponsored SubEntries n a differ = refl
with_new_count_keeps Sponsoring Sponsored n a differ = same_sponsored a.signers (second_in a.ext)
with_new_count_keeps Sponsored Sponsoring n a differ = same_sponsoring a.signers (second_in a.ext)

chosen_keeps : (b : Bool) (c other : Count) (n : ℕ) (a : AccountEntry) → other ≢ c
    → count_in other (cond b a (with_new_count c n a)) ≡ count_in other a
chosen_keeps true c other n a differ = refl
chosen_keeps false c other n a differ = with_new_count_keeps c other n a differ

-- the others are as they were
pub with_count_keeps : (c other : Count) (n : ℕ) (a : AccountEntry) → other ≢ c
    → count_in other (with_count c n a) ≡ count_in other a
unfolding with_count
with_count_keeps c other n a differ = chosen_keeps (nat_eq n (count_in c a)) c other n a differ

pub with_new_count_named : (c : Count) (n : ℕ) (a : AccountEntry) → (with_new_count c n a).account_id ≡ a.account_id
with_new_count_named SubEntries n a = refl
with_new_count_named Sponsoring n a = refl
with_new_count_named Sponsored n a = refl

chosen_named : (b : Bool) (c : Count) (n : ℕ) (a : AccountEntry)
    → (cond b a (with_new_count c n a)).account_id ≡ a.account_id
chosen_named true c n a = refl
chosen_named false c n a = with_new_count_named c n a

with_count_named : (c : Count) (n : ℕ) (a : AccountEntry) → (with_count c n a).account_id ≡ a.account_id
unfolding with_count
with_count_named c n a = chosen_named (nat_eq n (count_in c a)) c n a

others_at_most : (c count : Count) (k : ℕ) (a : AccountEntry) → count ≢ c
    → count_in count (with_less c k a) ≤ count_in count a
others_at_most c count k a differ = subst (λ n. n ≤ count_in count a) (sym (with_count_keeps c count _ a differ))
    (omega arith)

-- a lower count raises none
pub at_most : (c count : Count) (k : ℕ) (a : AccountEntry) → count_in count (with_less c k a) ≤ count_in count a
at_most SubEntries SubEntries k a = subst (λ n. n ≤ count_in SubEntries a) (sym (with_count_is SubEntries _ a))
    (omega arith)
at_most Sponsoring Sponsoring k a = subst (λ n. n ≤ count_in Sponsoring a) (sym (with_count_is Sponsoring _ a))
    (omega arith)
at_most Sponsored Sponsored k a = subst (λ n. n ≤ count_in Sponsored a) (sym (with_count_is Sponsored _ a))
    (omega arith)
at_most SubEntries Sponsoring k a = others_at_most SubEntries Sponsoring k a (λ e. absurd (cc e))
at_most SubEntries Sponsored k a = others_at_most SubEntries Sponsored k a (λ e. absurd (cc e))
at_most Sponsoring SubEntries k a = others_at_most Sponsoring SubEntries k a (λ e. absurd (cc e))
at_most Sponsoring Sponsored k a = others_at_most Sponsoring Sponsored k a (λ e. absurd (cc e))
at_most Sponsored SubEntries k a = others_at_most Sponsored SubEntries k a (λ e. absurd (cc e))
at_most Sponsored Sponsoring k a = others_at_most Sponsored Sponsoring k a (λ e. absurd (cc e))

-- ---- core fields

pub core_kept : (a : AccountEntry) → KeepsCore a a
core_kept a = record { id = refl; balance = refl; liabilities = refl; seq_num = refl; thresholds = refl; flags = refl }

pub core_kept_twice : (a b c : AccountEntry) → KeepsCore a b → KeepsCore b c → KeepsCore a c
core_kept_twice a b c g h = record {
  id = h.id ∙ g.id;
  balance = h.balance ∙ g.balance;
  liabilities = h.liabilities ∙ g.liabilities;
  seq_num = h.seq_num ∙ g.seq_num;
  thresholds = h.thresholds ∙ g.thresholds;
  flags = h.flags ∙ g.flags;
}

with_new_count_core : (c : Count) (n : ℕ) (a : AccountEntry) → KeepsCore a (with_new_count c n a)
with_new_count_core SubEntries n a = record {
  id = refl;
  balance = refl;
  liabilities = refl;
  seq_num = refl;
  thresholds = refl;
  flags = refl;
}
with_new_count_core Sponsoring n a = record {
  id = refl;
  balance = refl;
  liabilities = refl;
  seq_num = refl;
  thresholds = refl;
  flags = refl;
}
with_new_count_core Sponsored n a = record {
  id = refl;
  balance = refl;
  liabilities = refl;
  seq_num = refl;
  thresholds = refl;
  flags = refl;
}

chosen_core : (b : Bool) (c : Count) (n : ℕ) (a : AccountEntry) → KeepsCore a (cond b a (with_new_count c n a))
chosen_core true c n a = core_kept a
chosen_core false c n a = with_new_count_core c n a

pub with_count_core : (c : Count) (n : ℕ) (a : AccountEntry) → KeepsCore a (with_count c n a)
unfolding with_count
with_count_core c n a = chosen_core (nat_eq n (count_in c a)) c n a

-- ---- what sponsors pay of an account

pub raises_no_count : (a b c : AccountEntry) → RaisesNoCount a b → RaisesNoCount b c → RaisesNoCount a c
raises_no_count a b c g h count = let first = g count in let second = h count in omega arith

pub raises_no_count_itself : (a : AccountEntry) → RaisesNoCount a a
raises_no_count_itself a count = omega arith

-- ---- signers

module _ (change : List (Option AccountId) → List (Option AccountId)) where
  same_liabilities : (ext : Option AccountEntryExtensionV1)
      → liabilities_in (with_sponsors change ext) ≡ liabilities_in ext
  same_liabilities None = refl
  same_liabilities (Some ext) = refl

  pub with_sponsors_core : (a : AccountEntry) (signers : List Signer)
      → KeepsCore a (record a { signers = signers; ext = with_sponsors change a.ext })
  with_sponsors_core a signers = record {
    id = refl;
    balance = refl;
    liabilities = same_liabilities a.ext;
    seq_num = refl;
    thresholds = refl;
    flags = refl;
  }

  pub second_edited : (ext : Option AccountEntryExtensionV1)
      → second_in (with_sponsors change ext) ≡ with_sponsors_in change (second_in ext)
  second_edited None = refl
  second_edited (Some ext) = refl

  sponsoring_edited : (o : Option AccountEntryExtensionV2) → sponsoring_in (with_sponsors_in change o) ≡ sponsoring_in o
  sponsoring_edited None = refl
  sponsoring_edited (Some ext) = refl

  sponsored_edited : (o : Option AccountEntryExtensionV2) → sponsored_in (with_sponsors_in change o) ≡ sponsored_in o
  sponsored_edited None = refl
  sponsored_edited (Some ext) = refl

  pub counts_edited : (count : Count) (a : AccountEntry) (more : List Signer)
      → count_in count (record a { signers = more; ext = with_sponsors change a.ext }) ≡ count_in count a
  counts_edited SubEntries a more = refl
  counts_edited Sponsoring a more = ap sponsoring_in (second_edited a.ext) ∙ sponsoring_edited (second_in a.ext)
  counts_edited Sponsored a more = ap sponsored_in (second_edited a.ext) ∙ sponsored_edited (second_in a.ext)

  pub with_sponsors_raises_none : (a : AccountEntry) (signers : List Signer)
      → RaisesNoCount a (record a { signers = signers; ext = with_sponsors change a.ext })
  with_sponsors_raises_none a signers count = let same = counts_edited count a signers in omega arith
