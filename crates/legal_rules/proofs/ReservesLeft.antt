-- What an account can spend after counts of it change: what adding, moving and removing do to available balances.
use Rattle.legal_rules.proofs.Prelude as prelude
use prelude.{◌≡◌, inl, inr, refl, sym, ap, subst, ◌∙◌, ℕ, ◌+◌, ◌-◌, ◌*◌, ◌≤◌, false, Option, Some, None, arith, ints, ℤ}
use prelude.{pos, neg_ℤ, ◌+ℤ◌, ◌-ℤ◌, ◌*ℤ◌, ◌≤ℤ◌, is_lt, int_cmp, AccountId, AccountEntry, account_liabilities}
use prelude.{num_sponsoring, num_sponsored, available, Count, count_in, with_count, with_more, with_less, KeepsCore}
use prelude.{with_subentry, without_subentry, with_other_payer, is_short, with_count_is, with_count_keeps}
use prelude.{with_count_core, core_kept, core_kept_twice, with_count-keeps, add_neg_self, add_zero}
use Rattle.sponsor_laws.specs.sponsor_rules.declared.count.Count.TheVariants as count
use Rattle.legal_rules.proofs.Multiples.{still_available, covers}
use Rattle.legal_rules.proofs.Leaving.{IsNext}

-- the reserves that an account pays for itself and for others
abbrev pub reserves_of : AccountEntry → ℤ
reserves_of a = pos (2 + a.num_sub_entries + num_sponsoring a) -ℤ pos (num_sponsored a)

-- an account with its core fields and signers, and at most so many reserves more
pub record IsCharged (more : ℤ) (a b : AccountEntry) : Type 0 where
  pub core : KeepsCore a b
  pub signers : b.signers ≡ a.signers
  pub reserves : reserves_of b ≤ℤ (reserves_of a +ℤ more)

-- ---- what is available

abbrev left_of : AccountEntry → ℤ → ℕ → ℤ
left_of a reserves base = a.balance -ℤ (reserves *ℤ pos base) -ℤ (account_liabilities a).selling

same_left : (a b : AccountEntry) (base : ℕ) → KeepsCore a b → left_of a (reserves_of b) base ≡ available b base
same_left a b base core i =
    (sym core.balance i -ℤ (reserves_of b *ℤ pos base)) -ℤ (sym core.liabilities i).selling

weak : (x y : ℤ) → y ≤ℤ (x +ℤ pos 0) → y ≤ℤ x
weak x y le = omega (arith, ints)

-- with no reserve more, no less is available
available_by : (base : ℕ) (a b : AccountEntry) → KeepsCore a b → reserves_of b ≤ℤ reserves_of a
    → available a base ≤ℤ available b base
available_by base a b core fewer = subst (λ x. available a base ≤ℤ x) (same_left a b base core)
    (still_available a.balance a.balance (reserves_of a) (reserves_of b) (account_liabilities a).selling base
    (itself a.balance) fewer)
  where
    itself : (x : ℤ) → x ≤ℤ x
    itself x = omega (arith, ints)

-- ---- counts

more_of : (subs pays paid subs' pays' paid' : ℕ) (more : ℤ)
    → ((pos subs' +ℤ pos pays') -ℤ pos paid') ≤ℤ (((pos subs +ℤ pos pays) -ℤ pos paid) +ℤ more)
    → (pos (2 + subs' + pays') -ℤ pos paid') ≤ℤ ((pos (2 + subs + pays) -ℤ pos paid) +ℤ more)
more_of subs pays paid subs' pays' paid' more le = omega (arith, ints)

module _ (n : ℕ) (a : AccountEntry) where
  subs_set : (b : AccountEntry) → b ≡ with_count count.SubEntries n a
      → (b.num_sub_entries ≡ n) × (num_sponsoring b ≡ num_sponsoring a) × (num_sponsored b ≡ num_sponsored a)
  subs_set b is = (
    ap (count_in count.SubEntries) is ∙ with_count_is count.SubEntries n a,
    ap (count_in count.Sponsoring) is ∙ with_count_keeps count.SubEntries count.Sponsoring n a (λ e. absurd (cc e)),
    ap (count_in count.Sponsored) is ∙ with_count_keeps count.SubEntries count.Sponsored n a (λ e. absurd (cc e)),
  )

  pays_set : (b : AccountEntry) → b ≡ with_count count.Sponsoring n a
      → (b.num_sub_entries ≡ a.num_sub_entries) × (num_sponsoring b ≡ n) × (num_sponsored b ≡ num_sponsored a)
  pays_set b is = (
    ap (count_in count.SubEntries) is ∙ with_count_keeps count.Sponsoring count.SubEntries n a (λ e. absurd (cc e)),
    ap (count_in count.Sponsoring) is ∙ with_count_is count.Sponsoring n a,
    ap (count_in count.Sponsored) is ∙ with_count_keeps count.Sponsoring count.Sponsored n a (λ e. absurd (cc e)),
  )

  paid_set : (b : AccountEntry) → b ≡ with_count count.Sponsored n a
      → (b.num_sub_entries ≡ a.num_sub_entries) × (num_sponsoring b ≡ num_sponsoring a) × (num_sponsored b ≡ n)
  paid_set b is = (
    ap (count_in count.SubEntries) is ∙ with_count_keeps count.Sponsored count.SubEntries n a (λ e. absurd (cc e)),
    ap (count_in count.Sponsoring) is ∙ with_count_keeps count.Sponsored count.Sponsoring n a (λ e. absurd (cc e)),
    ap (count_in count.Sponsored) is ∙ with_count_is count.Sponsored n a,
  )

reserves_by : (a b : AccountEntry) (subs pays paid : ℕ) (more : ℤ)
    → (b.num_sub_entries ≡ subs) × (num_sponsoring b ≡ pays) × (num_sponsored b ≡ paid)
    → ((pos subs +ℤ pos pays) -ℤ pos paid) ≤ℤ
    (((pos a.num_sub_entries +ℤ pos (num_sponsoring a)) -ℤ pos (num_sponsored a)) +ℤ more)
    → reserves_of b ≤ℤ (reserves_of a +ℤ more)
reserves_by a b subs pays paid more is le =
    subst (λ x. (pos (2 + x + num_sponsoring b) -ℤ pos (num_sponsored b)) ≤ℤ (reserves_of a +ℤ more)) (sym is.0)
    (subst (λ x. (pos (2 + subs + x) -ℤ pos (num_sponsored b)) ≤ℤ (reserves_of a +ℤ more)) (sym is.1)
    (subst (λ x. (pos (2 + subs + pays) -ℤ pos x) ≤ℤ (reserves_of a +ℤ more)) (sym is.2)
    (more_of a.num_sub_entries (num_sponsoring a) (num_sponsored a) subs pays paid more le)))

set_charged : (which : Count) (n : ℕ) (a : AccountEntry) (more : ℤ)
    → reserves_of (with_count which n a) ≤ℤ (reserves_of a +ℤ more) → IsCharged more a (with_count which n a)
set_charged which n a more le = record {
  core = with_count_core which n a;
  signers = (with_count-keeps which n a).signers;
  reserves = le;
}

-- an account pays k reserves more
pub pays_more : (k : ℕ) (a : AccountEntry) → IsCharged (pos k) a (with_more count.Sponsoring k a)
pays_more k a = set_charged count.Sponsoring (num_sponsoring a + k) a (pos k)
    (reserves_by a (with_more count.Sponsoring k a) _ _ _ (pos k)
    (pays_set (num_sponsoring a + k) a (with_more count.Sponsoring k a) refl)
    (le a.num_sub_entries (num_sponsoring a) (num_sponsored a)))
  where
    le : (s p d : ℕ) → ((pos s +ℤ pos (p + k)) -ℤ pos d) ≤ℤ (((pos s +ℤ pos p) -ℤ pos d) +ℤ pos k)
    le s p d = omega (arith, ints)

-- and of what he had no more is available
pub pays_from : (base k : ℕ) (a : AccountEntry)
    → available (with_more count.Sponsoring k a) base ≤ℤ available a base
pays_from base k a =
    let b = with_more count.Sponsoring k a in
    let set = pays_set (num_sponsoring a + k) a b refl in
    available_by base b a (core_back a b (pays_more k a).core) (no_fewer a.num_sub_entries (num_sponsoring a)
    (num_sponsored a) b.num_sub_entries (num_sponsoring b) (num_sponsored b) set.0 set.1 set.2)
  where
    core_back : (a b : AccountEntry) → KeepsCore a b → KeepsCore b a
    core_back a b h = record {
      id = sym h.id;
      balance = sym h.balance;
      liabilities = sym h.liabilities;
      seq_num = sym h.seq_num;
      thresholds = sym h.thresholds;
      flags = sym h.flags;
    }

    no_fewer : (s p d s' p' d' : ℕ) → s' ≡ s → p' ≡ p + k → d' ≡ d
        → (pos (2 + s + p) -ℤ pos d) ≤ℤ (pos (2 + s' + p') -ℤ pos d')
    no_fewer s p d s' p' d' one two three = omega (arith, ints)

pub pays_less : (k : ℕ) (a : AccountEntry) → IsCharged (pos 0) a (with_less count.Sponsoring k a)
pays_less k a = set_charged count.Sponsoring (num_sponsoring a - k) a (pos 0)
    (reserves_by a (with_less count.Sponsoring k a) _ _ _ (pos 0)
    (pays_set (num_sponsoring a - k) a (with_less count.Sponsoring k a) refl)
    (le a.num_sub_entries (num_sponsoring a) (num_sponsored a)))
  where
    le : (s p d : ℕ) → ((pos s +ℤ pos (p - k)) -ℤ pos d) ≤ℤ (((pos s +ℤ pos p) -ℤ pos d) +ℤ pos 0)
    le s p d = omega (arith, ints)

-- an account has k subentries more
has_more : (k : ℕ) (a : AccountEntry) → IsCharged (pos k) a (with_more count.SubEntries k a)
has_more k a = set_charged count.SubEntries (a.num_sub_entries + k) a (pos k)
    (reserves_by a (with_more count.SubEntries k a) _ _ _ (pos k)
    (subs_set (a.num_sub_entries + k) a (with_more count.SubEntries k a) refl)
    (le a.num_sub_entries (num_sponsoring a) (num_sponsored a)))
  where
    le : (s p d : ℕ) → ((pos (s + k) +ℤ pos p) -ℤ pos d) ≤ℤ (((pos s +ℤ pos p) -ℤ pos d) +ℤ pos k)
    le s p d = omega (arith, ints)

-- fewer subentries, which it had
has_less : (k : ℕ) (a : AccountEntry) → k ≤ a.num_sub_entries
    → IsCharged (neg_ℤ (pos k)) a (with_less count.SubEntries k a)
has_less k a enough = set_charged count.SubEntries (a.num_sub_entries - k) a (neg_ℤ (pos k))
    (reserves_by a (with_less count.SubEntries k a) _ _ _ (neg_ℤ (pos k))
    (subs_set (a.num_sub_entries - k) a (with_less count.SubEntries k a) refl)
    (le a.num_sub_entries (num_sponsoring a) (num_sponsored a) enough))
  where
    le : (s p d : ℕ) → k ≤ s
        → ((pos (s - k) +ℤ pos p) -ℤ pos d) ≤ℤ (((pos s +ℤ pos p) -ℤ pos d) +ℤ neg_ℤ (pos k))
    le s p d enough = omega (arith, ints)

-- of an account others pay k reserves more
pub paid_more : (k : ℕ) (a : AccountEntry) → IsCharged (neg_ℤ (pos k)) a (with_more count.Sponsored k a)
paid_more k a = set_charged count.Sponsored (num_sponsored a + k) a (neg_ℤ (pos k))
    (reserves_by a (with_more count.Sponsored k a) _ _ _ (neg_ℤ (pos k))
    (paid_set (num_sponsored a + k) a (with_more count.Sponsored k a) refl)
    (le a.num_sub_entries (num_sponsoring a) (num_sponsored a)))
  where
    le : (s p d : ℕ) → ((pos s +ℤ pos p) -ℤ pos (d + k)) ≤ℤ (((pos s +ℤ pos p) -ℤ pos d) +ℤ neg_ℤ (pos k))
    le s p d = omega (arith, ints)

paid_less : (k : ℕ) (a : AccountEntry) → IsCharged (pos k) a (with_less count.Sponsored k a)
paid_less k a = set_charged count.Sponsored (num_sponsored a - k) a (pos k)
    (reserves_by a (with_less count.Sponsored k a) _ _ _ (pos k)
    (paid_set (num_sponsored a - k) a (with_less count.Sponsored k a) refl)
    (le a.num_sub_entries (num_sponsoring a) (num_sponsored a)))
  where
    le : (s p d : ℕ) → ((pos s +ℤ pos p) -ℤ pos (d - k)) ≤ℤ (((pos s +ℤ pos p) -ℤ pos d) +ℤ pos k)
    le s p d = omega (arith, ints)

-- ---- changes in a row

in_a_row : (x y z d e f : ℤ) → y ≤ℤ (x +ℤ d) → z ≤ℤ (y +ℤ e) → (d +ℤ e) ≡ f → z ≤ℤ (x +ℤ f)
in_a_row x y z d e f first second is = omega (arith, ints)

charged_both : (d e f : ℤ) (a b c : AccountEntry) → IsCharged d a b → IsCharged e b c → (d +ℤ e) ≡ f → IsCharged f a c
charged_both d e f a b c first second is = record {
  core = core_kept_twice a b c first.core second.core;
  signers = second.signers ∙ first.signers;
  reserves = in_a_row (reserves_of a) (reserves_of b) (reserves_of c) d e f first.reserves second.reserves is;
}

charged_none : (a : AccountEntry) → IsCharged (pos 0) a a
charged_none a = record { core = core_kept a; signers = refl; reserves = same (reserves_of a) }
  where
    same : (x : ℤ) → x ≤ℤ (x +ℤ pos 0)
    same x = omega (arith, ints)

-- ---- owners

-- k for an owner whom nobody sponsors
abbrev pub unless_paid : Option AccountId → ℕ → ℤ
unless_paid None k = pos k
unless_paid (Some sponsor) k = pos 0

back_and_there : (k : ℤ) → (neg_ℤ k +ℤ k) ≡ pos 0
back_and_there k = omega (arith, ints)

pub subentry_charged : (k : ℕ) (sponsor : Option AccountId) (a : AccountEntry)
    → IsCharged (unless_paid sponsor k) a (with_subentry k sponsor a)
subentry_charged k None a = has_more k a
subentry_charged k (Some x) a = charged_both (pos k) (neg_ℤ (pos k)) (pos 0) a (with_more count.SubEntries k a) _
    (has_more k a) (paid_more k (with_more count.SubEntries k a)) (add_neg_self (pos k))

less_as : (k : ℕ) (a b : AccountEntry) → IsCharged (neg_ℤ (pos k)) a b → IsCharged (pos 0) a b
less_as k a b h = record { core = h.core; signers = h.signers; reserves = weaker _ _ h.reserves }
  where
    weaker : (x y : ℤ) → y ≤ℤ (x +ℤ neg_ℤ (pos k)) → y ≤ℤ (x +ℤ pos 0)
    weaker x y le = omega (arith, ints)

pub no_subentry_charged : (k : ℕ) (sponsor : Option AccountId) (a : AccountEntry) → k ≤ a.num_sub_entries
    → IsCharged (pos 0) a (without_subentry k sponsor a)
no_subentry_charged k None a enough = less_as k a _ (has_less k a enough)
no_subentry_charged k (Some x) a enough = charged_both (neg_ℤ (pos k)) (pos k) (pos 0) a
    (with_less count.SubEntries k a) _ (has_less k a enough) (paid_less k (with_less count.SubEntries k a))
    (back_and_there (pos k))

pub no_subentry_core : (k : ℕ) (sponsor : Option AccountId) (a : AccountEntry)
    → KeepsCore a (without_subentry k sponsor a)
no_subentry_core k None a = with_count_core count.SubEntries (a.num_sub_entries - k) a
no_subentry_core k (Some x) a = core_kept_twice a (with_less count.SubEntries k a) _
    (with_count_core count.SubEntries (a.num_sub_entries - k) a)
    (paid_less k (with_less count.SubEntries k a)).core

-- k for an owner who pays himself from now on
abbrev pub if_back : (old new : Option AccountId) → ℕ → ℤ
if_back None new k = pos 0
if_back (Some sponsor) new k = unless_paid new k

pub other_payer_charged : (k : ℕ) (old new : Option AccountId) (a : AccountEntry)
    → IsCharged (if_back old new k) a (with_other_payer k old new a)
other_payer_charged k None None a = charged_none a
other_payer_charged k None (Some y) a = less_as k a _ (paid_more k a)
other_payer_charged k (Some x) None a = paid_less k a
other_payer_charged k (Some x) (Some y) a = charged_both (pos k) (neg_ℤ (pos k)) (pos 0) a
    (with_less count.Sponsored k a) _ (paid_less k a) (paid_more k (with_less count.Sponsored k a))
    (add_neg_self (pos k))

-- ---- what changes leave available

pub available_still : (base : ℕ) (a b : AccountEntry) → IsCharged (pos 0) a b → available a base ≤ℤ available b base
available_still base a b h = available_by base a b h.core (weak (reserves_of a) (reserves_of b) h.reserves)

-- with k reserves more, none is missing where these were available
pub available_covers : (base k : ℕ) (a b : AccountEntry) → IsCharged (pos k) a b → pos (k * base) ≤ℤ available a base
    → pos 0 ≤ℤ available b base
available_covers base k a b h enough = subst (λ x. pos 0 ≤ℤ x) (same_left a b base h.core)
    (covers a.balance (reserves_of a) (reserves_of b) (account_liabilities a).selling k base enough h.reserves)

pub enough_of : (base k : ℕ) (a : AccountEntry) → is_short base (Some a) k ≡ false
    → pos (k * base) ≤ℤ available a base
enough_of base k a test = not_less (available a base) (pos (k * base)) test
  where
    not_less : (x y : ℤ) → is_lt (int_cmp x y) ≡ false → y ≤ℤ x
    not_less x y h = grind (arith, ints)

-- ---- the next account

pub next_still : (base : ℕ) (a b : AccountEntry) → IsCharged (pos 0) a b → IsNext base (pos 0) a b
next_still base a b h = record {
  id = h.core.id;
  balance = h.core.balance ∙ sym (add_zero a.balance);
  covered = inr (available_still base a b h);
}

pub next_covers : (base k : ℕ) (a b : AccountEntry) → IsCharged (pos k) a b → pos (k * base) ≤ℤ available a base
    → IsNext base (pos 0) a b
next_covers base k a b h enough = record {
  id = h.core.id;
  balance = h.core.balance ∙ sym (add_zero a.balance);
  covered = inl (available_covers base k a b h enough);
}

-- an account with other signers, that counts what it counted
pub next_edited : (base : ℕ) (more : ℤ) (a b c : AccountEntry) → IsNext base more a b → KeepsCore b c
    → ((which : Count) → count_in which c ≡ count_in which b) → IsNext base more a c
next_edited base more a b c next core same =
    let le = available_by base b c core (fewer b.num_sub_entries (num_sponsoring b) (num_sponsored b)
    c.num_sub_entries (num_sponsoring c) (num_sponsored c) (same count.SubEntries) (same count.Sponsoring)
    (same count.Sponsored)) in
    record {
      id = core.id ∙ next.id;
      balance = core.balance ∙ next.balance;
      covered = elim next.covered [
        | inl low ↦ inl (omega (arith, ints))
        | inr as_much ↦ inr (omega (arith, ints))
      ];
    }
  where
    fewer : (s p d s' p' d' : ℕ) → s' ≡ s → p' ≡ p → d' ≡ d
        → (pos (2 + s' + p') -ℤ pos d') ≤ℤ (pos (2 + s + p) -ℤ pos d)
    fewer s p d s' p' d' one two three = omega (arith, ints)
