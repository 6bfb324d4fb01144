-- What a legal state gives of its accounts and sponsors.
use Rattle.legal_rules.proofs.Prelude as prelude
use prelude.{◌≡◌, ◌≢◌, refl, sym, ap, subst, ◌∙◌, ℕ, ◌≤◌, Bool, true, false, cond, List, [], ◌∷◌, length, get_or, All}
use prelude.{Option, Some, None, arith, ints, All-head, All-tail, get_or-le-sum_by, ℤ, pos, ◌+ℤ◌, ◌-ℤ◌, ◌≤ℤ◌}
use prelude.{option_map, count_by, find, get, AccountId, AccountEntry, LedgerHeader, EntryMap, same_itself, account_at}
use prelude.{HasAccount, num_sponsoring, num_sponsored, sponsor_of, multiplicity, is_same_account, open_sponsor}
use prelude.{same_account, signer_sponsors, is_key, for_account, is_for, Subentries, Sponsoring, Sponsored, counted}
use prelude.{stated_at, view, IsLegal, nothing_owed, pools_in}
use Rattle.hash_ids.specs.ledger_types.declared.key.LedgerKey.TheVariants as key
use Rattle.sponsor_laws.specs.sponsor_rules.declared.context.Sponsorship.{Sponsorship}
use Rattle.legal_rules.specs.Consequences.{AccountsInRange, AccountsReady, MinBalancesLow, SignersFew}
use Rattle.legal_rules.specs.Consequences.{IdleSponsorsNothing, SponsorsReady, LegalOwesNothing}
use Rattle.legal_rules.proofs.Bounded.{account_legal, IsAccountLegal}
use Rattle.legal_rules.proofs.Covered.{sponsored_at_most, account_states, minimum_low}
use Rattle.legal_rules.specs.Consequences.{LegalIsOwingNothing}
use Rattle.legal_rules.proofs.Legality.{legal_of}
use Rattle.legal_rules.proofs.Legality.{owing_nothing}
use Rattle.legal_rules.proofs.Lows.{for_account_low}
use Rattle.legal_rules.proofs.Merging.{nothing_counts}
use Rattle.legal_rules.proofs.Needed.{paid_counts}
use Rattle.legal_rules.proofs.PaidFor.{counts_sponsoring}
use Rattle.legal_rules.proofs.Existing.{counted_stated}
use Rattle.legal_rules.proofs.Steps.{account_entry, body_there, same_id_at, with_body}
use Rattle.legal_rules.proofs.Numbers.{natural_at_most, natural_if_true}

bounded : (h : LedgerHeader) (m : EntryMap) (id : AccountId) (a : AccountEntry) → IsLegal h m
    → account_at m id ≡ Some a → IsAccountLegal a
bounded h m id a legal exists = account_legal (view m) h.id_pool nothing_owed (h.total_coins -ℤ h.fee_pool) m id a
    (owing_nothing h m legal) exists

pub accounts_in_range : AccountsInRange
accounts_in_range h m id a legal exists = (bounded h m id a legal exists).range.range

-- others pay at most two reserves more than there are subentries
few_of : (stated_sponsored stated_subs sponsored subs : ℤ) → stated_sponsored ≡ sponsored → stated_subs ≡ subs
    → stated_sponsored ≤ℤ (stated_subs +ℤ pos 2) → sponsored ≤ℤ (subs +ℤ pos 2)
few_of stated_sponsored stated_subs sponsored subs is also few = omega (arith, ints)

sponsored_few : (h : LedgerHeader) (m : EntryMap) (id : AccountId) (a : AccountEntry) → IsLegal h m
    → account_at m id ≡ Some a → pos (num_sponsored a) ≤ℤ (pos a.num_sub_entries +ℤ pos 2)
sponsored_few h m id a legal exists = few_of _ _ _ _ (account_states m id a Sponsored exists)
    (account_states m id a Subentries exists)
    (sponsored_at_most (view m) h.id_pool nothing_owed (h.total_coins -ℤ h.fee_pool) m (key.Account id)
    (owing_nothing h m legal) (omega (arith, ints)))

under_bound : (n s : ℕ) → s ≤ 1000 → pos n ≤ℤ (pos s +ℤ pos 2) → n ≤ 4294967293
under_bound n s few le = omega (arith, ints)

pub accounts_ready : AccountsReady
accounts_ready h m id a legal exists = record {
  sponsored = under_bound (num_sponsored a) a.num_sub_entries (bounded h m id a legal exists).few
      (sponsored_few h m id a legal exists);
}

pub min_balances_low : MinBalancesLow
min_balances_low h m id a base_reserve legal exists = minimum_low a.num_sub_entries (num_sponsoring a) (num_sponsored a)
    base_reserve (sponsored_few h m id a legal exists)

pub signers_few : SignersFew
signers_few h m id a legal exists =
    let found = account_entry m id a exists in
    let there = body_there m id a found.0 found.1 in
    let named = same_id_at m id a legal.keyed exists in
    let known = bounded h m id a legal exists in (
      known.range.signers.few,
      natural_at_most (length a.signers) a.num_sub_entries (stated_at Subentries (get m (key.Account id)))
          (counted_stated (view m) h.id_pool nothing_owed (h.total_coins -ℤ h.fee_pool) m (owing_nothing h m legal)
          Subentries (key.Account id) (key.Account id) (with_body found.0 a) (pos (length a.signers))
          (omega (arith, ints))
          there (natural_if_true (is_key (key.Account a.account_id) (key.Account id)) (length a.signers)
          (ap (λ i. is_key (key.Account i) (key.Account id)) named ∙ same_itself (key.Account id))))
          (account_states m id a Subentries exists),
      known.few,
    )

-- ---- sponsoring nothing

some_none : (n : ℤ) (c : ℕ) → 1 ≤ c → pos c ≤ℤ n → n ≡ pos 0 → ⊥
some_none n c some le none = omega (arith, ints)

sum_none : (x : ℤ) (n : ℕ) → pos 0 ≤ℤ x → 1 ≤ n → (x +ℤ pos n) ≡ pos 0 → ⊥
sum_none x n low some none = omega (arith, ints)

one_is : (id : AccountId) (o : Option AccountId) → o ≡ Some id → ◌≡◌ {A = ℕ} (cond (is_for (key.Account id) o) 1 0) 1
one_is id None is = absurd (cc)
one_is id (Some x) is = ap (λ t. cond t 1 0) (ap (λ y. is_key (key.Account y) (key.Account id))
    (let same : x ≡ id = cc in same) ∙ same_itself (key.Account id))

pub idle_sponsors_nothing : IdleSponsorsNothing
idle_sponsors_nothing h m id a legal exists idle =
    let start = owing_nothing h m legal in
    let none = nothing_counts (view m) h.id_pool (h.total_coins -ℤ h.fee_pool) m start Sponsoring (key.Account id)
    (account_states m id a Sponsoring exists ∙ ap pos idle) in
    record {
      entries = λ k e there is.
          let range = (legal.entries k e there) in
          some_none (counted (view m) Sponsoring (key.Account id) e) (multiplicity e.body)
          (paid_counts h.id_pool e.body (sponsor_of e) range.body range.paid (λ no. let also = is in absurd (cc)))
          (counts_sponsoring (view m) e id is) (none k e there);
      signers = λ of account at has.
          let found = account_entry m of account at in
          let there = body_there m of account found.0 found.1 in
          let le = get_or-le-sum_by (λ (o : Option AccountId). cond (is_for (key.Account id) o) 1 0)
          (signer_sponsors account) has.0 (Some id) has.1 in
          let one = one_is id (get_or (signer_sponsors account) has.0 (Some id)) has.2 in
          sum_none (for_account (key.Account id) (sponsor_of found.0) 2)
          (count_by (is_for (key.Account id)) (signer_sponsors account))
          (for_account_low (key.Account id) (sponsor_of found.0) 2) (omega arith)
          (none (key.Account of) (with_body found.0 account) there);
    }

-- ---- open sponsorships

found_in : (test : Sponsorship → Bool) (P : Sponsorship → Type 0) (xs : List Sponsorship) (x : Sponsorship)
    → find test xs ≡ Some x → All P xs → (test x ≡ true) × P x
found_in test P [] x is all = absurd (cc)
found_in test P (y ∷ ys) x is all = elim (test y) as (λ b. test y ≡ b → cond b (Some y) (find test ys) ≡ Some x
    → (test x ≡ true) × P x) [
      | true ↦ λ h at.
          let same : y ≡ x = cc in
          (ap test (sym same) ∙ h, subst P same (All-head P y ys all))
      | false ↦ λ h later. found_in test P ys x later (All-tail P y ys all)
    ] refl is

of_found : (o : Option Sponsorship) (x : AccountId) → option_map (λ s. s.sponsor) o ≡ Some x
    → (s : Sponsorship) × (o ≡ Some s) × (s.sponsor ≡ x)
of_found None x is = absurd (cc)
of_found (Some s) x is = (s, refl, let same : s.sponsor ≡ x = cc in same)

pub sponsors_ready : SponsorsReady
unfolding open_sponsor
sponsors_ready ctx m owner sound = record {
  exists = λ x is.
      let found = of_found (find (λ s. is_same_account s.sponsored owner) ctx.sponsorships) x is in
      let has = found_in (λ s. is_same_account s.sponsored owner) (λ s. HasAccount m s.sponsor) ctx.sponsorships found.0
      found.1 sound.exist in
      subst (HasAccount m) found.2 has.1;
  other = λ x is same.
      let found = of_found (find (λ s. is_same_account s.sponsored owner) ctx.sponsorships) x is in
      let has = found_in (λ s. is_same_account s.sponsored owner)
      (λ s. s.sponsor ≢ s.sponsored) ctx.sponsorships found.0
      found.1 sound.other in
      has.1 (found.2 ∙ same ∙ sym (same_account found.0.sponsored owner has.0));
}

pub legal_owes_nothing : LegalOwesNothing
legal_owes_nothing h m owed sum legal owing kind k = sym (owing.aggregates kind k)
    ∙ (owing_nothing h m legal).aggregates kind k

pub legal_is_owing_nothing : LegalIsOwingNothing
legal_is_owing_nothing h m = (
  λ legal. (legal.header, owing_nothing h m legal),
  λ owing. legal_of h (pools_in m) m owing.0 owing.1,
)
