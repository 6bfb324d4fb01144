-- Lines, offers and data: what they count for their owners and payers.
use Rattle.legal_rules.proofs.Prelude as prelude
use prelude.{◌≡◌, ◌≢◌, refl, sym, ap, subst, ◌∙◌, ℕ, ◌+◌, ◌≤◌, Bool, true, false, [], Option, Some, None, arith, ints}
use prelude.{ℤ, pos, neg_ℤ, ◌+ℤ◌, if◌then◌else◌, count_by, AccountId, TrustLineEntry, OfferEntry, DataEntry}
use prelude.{LedgerEntry, LedgerEntryBody, LedgerKey, key_of, key_of_body, sponsor_of, with_sponsor, sponsored_entry}
use prelude.{line_multiplicity, multiplicity, owner_of, charge_of, Count, is_there, is_key, for_account, subentries_in}
use prelude.{signer_sponsors_in, for_each, Kind, Subentries, Sponsoring, Sponsored, View, counted, stated}
use prelude.{IsPaidRightly, weight, weighed, in_aggregate, beside_reserves, IsEntryLegal, add_zero, sub_if_zero}
use prelude.{zero_add, counts_once}
use Rattle.hash_ids.specs.ledger_types.declared.entry.LedgerEntryBody.TheVariants as body
use Rattle.hash_ids.specs.ledger_types.declared.key.LedgerKey.TheVariants as key
use Rattle.sponsor_laws.specs.sponsor_rules.declared.charge.Charge.TheVariants as charge
use Rattle.sponsor_laws.specs.sponsor_rules.declared.count.Count.TheVariants as count
use Rattle.legal_rules.proofs.Putting.{IsNoPool}
use Rattle.legal_rules.proofs.Sponsors.{unsponsored, paid_aggregates, sponsor_weighs, recorded, recorded_weighs}
use Rattle.legal_rules.proofs.Existing.{aggregate_of}

-- ---- what such an entry counts

-- a body that charges n reserves as a subentry of its owner
pub record IsSubentry (b : LedgerEntryBody) (owner : AccountId) (n : ℕ) : Type 0 where
  pub charges : charge_of b ≡ charge.Subentry owner n
  pub owns : owner_of b ≡ Some owner
  pub counts : subentries_in b ≡ n
  pub times : multiplicity b ≡ n
  pub unsigned : signer_sponsors_in b ≡ []
  pub states : (which : Count) → stated (aggregate_of which) b ≡ pos 0
  pub some : 1 ≤ n
  pub no_account : (id : AccountId) → key_of_body b ≢ key.Account id
  pub no_pool : IsNoPool (key_of_body b)

line_states : (t : TrustLineEntry) (which : Count) → stated (aggregate_of which) (body.TrustLine t) ≡ pos 0
line_states t count.SubEntries = refl
line_states t count.Sponsoring = refl
line_states t count.Sponsored = refl

offer_states : (o : OfferEntry) (which : Count) → stated (aggregate_of which) (body.Offer o) ≡ pos 0
offer_states o count.SubEntries = refl
offer_states o count.Sponsoring = refl
offer_states o count.Sponsored = refl

data_states : (d : DataEntry) (which : Count) → stated (aggregate_of which) (body.Data d) ≡ pos 0
data_states d count.SubEntries = refl
data_states d count.Sponsoring = refl
data_states d count.Sponsored = refl

-- by what it charges
pub subentry_of : (b : LedgerEntryBody) (owner : AccountId) (n : ℕ) → charge_of b ≡ charge.Subentry owner n
    → IsSubentry b owner n
subentry_of (body.TrustLine t) owner n is =
    let owners : t.account_id ≡ owner = cc in
    let times : line_multiplicity t.asset ≡ n = cc in
    record {
      charges = is;
      owns = ap Some owners;
      counts = times;
      times = times;
      unsigned = refl;
      states = line_states t;
      some = subst (λ x. 1 ≤ x) times (counts_once t.asset);
      no_account = λ id same. absurd (cc);
      no_pool = λ id same. absurd (cc);
    }
subentry_of (body.Offer o) owner n is =
    let owners : o.seller_id ≡ owner = cc in
    let times : 1 ≡ n = cc in
    record {
      charges = is;
      owns = ap Some owners;
      counts = times;
      times = times;
      unsigned = refl;
      states = offer_states o;
      some = omega arith;
      no_account = λ id same. absurd (cc);
      no_pool = λ id same. absurd (cc);
    }
subentry_of (body.Data d) owner n is =
    let owners : d.account_id ≡ owner = cc in
    let times : 1 ≡ n = cc in
    record {
      charges = is;
      owns = ap Some owners;
      counts = times;
      times = times;
      unsigned = refl;
      states = data_states d;
      some = omega arith;
      no_account = λ id same. absurd (cc);
      no_pool = λ id same. absurd (cc);
    }
subentry_of other owner n is = absurd (cc)

nothing_for : (t : Bool) → ◌≡◌ {A = ℤ} (if t then pos (0 + 0) else pos 0) (pos 0)
nothing_for true = refl
nothing_for false = refl

grouped : (w u p s b : ℤ) → w ≡ (u +ℤ p) → u ≡ (s +ℤ b) → w ≡ ((s +ℤ p) +ℤ b)
grouped w u p s b is also = omega (arith, ints)

module _ (v : View) (e : LedgerEntry) (owner : AccountId) (n : ℕ) (s : IsSubentry e.body owner n) where
  -- without its sponsor it counts as a subentry alone, beside what it counts in no aggregate of reserves
  alone : (kind : Kind) (k : LedgerKey) → weight v kind k (unsponsored e)
      ≡ (in_aggregate Subentries (key.Account owner) (pos n) kind k +ℤ beside_reserves (weighed v e) kind k)
  alone Subentries k =
      sub_if_zero (is_key (key_of e) k) (counted v Subentries k e) (stated Subentries e.body)
      (s.states count.SubEntries)
      ∙ (λ i. for_account k (s.owns i) (s.counts i)) ∙ sym (add_zero _)
  alone Sponsored k =
      sub_if_zero (is_key (key_of e) k) (counted v Sponsored k (unsponsored e)) (stated Sponsored e.body)
      (s.states count.Sponsored)
      ∙ (λ i. for_account k (s.owns i) (0 + count_by is_there (s.unsigned i)))
      ∙ nothing_for (is_key (key.Account owner) k)
  alone Sponsoring k =
      sub_if_zero (is_key (key_of e) k) (counted v Sponsoring k (unsponsored e)) (stated Sponsoring e.body)
      (s.states count.Sponsoring)
      ∙ (λ i. pos 0 +ℤ for_each k (s.unsigned i))
  alone kind k = sym (zero_add _)

  -- in all aggregates
  pub subentry_weighs : (kind : Kind) (k : LedgerKey) → weight v kind k e
      ≡ ((in_aggregate Subentries (key.Account owner) (pos n) kind k +ℤ paid_aggregates n (Some owner)
      (sponsor_of e) kind k)
      +ℤ beside_reserves (weighed v e) kind k)
  subentry_weighs kind k =
      grouped _ (weight v kind k (unsponsored e)) (paid_aggregates n (Some owner) (sponsor_of e) kind k)
      (in_aggregate Subentries (key.Account owner) (pos n) kind k) (beside_reserves (weighed v e) kind k)
      (sponsor_weighs v e kind k ∙ (λ i. weight v kind k (unsponsored e)
      +ℤ paid_aggregates (s.times i) (s.owns i) (sponsor_of e) kind k)) (alone kind k)

-- ---- an entry whose sponsor is another one

pub paid_by_other : (b : LedgerEntryBody) (owner : AccountId) (s : Option AccountId) → owner_of b ≡ Some owner
    → s ≢ Some owner → IsPaidRightly b s
paid_by_other (body.ClaimableBalance balance) owner s is apart = absurd (cc)
paid_by_other (body.LiquidityPool pool) owner s is apart = absurd (cc)
paid_by_other (body.Account a) owner s is apart = λ some same. apart (same ∙ is)
paid_by_other (body.TrustLine t) owner s is apart = λ some same. apart (same ∙ is)
paid_by_other (body.Offer o) owner s is apart = λ some same. apart (same ∙ is)
paid_by_other (body.Data d) owner s is apart = λ some same. apart (same ∙ is)

-- an owned entry's sponsor is none or another account
pub paid_not_by_owner : (b : LedgerEntryBody) (owner x : AccountId) → owner_of b ≡ Some owner
    → IsPaidRightly b (Some x) → x ≢ owner
paid_not_by_owner (body.ClaimableBalance balance) owner x is paid same = absurd (cc)
paid_not_by_owner (body.LiquidityPool pool) owner x is paid same = absurd (cc)
paid_not_by_owner (body.Account a) owner x is paid same = paid (λ none. absurd (cc)) (ap Some same ∙ sym is)
paid_not_by_owner (body.TrustLine t) owner x is paid same = paid (λ none. absurd (cc)) (ap Some same ∙ sym is)
paid_not_by_owner (body.Offer o) owner x is paid same = paid (λ none. absurd (cc)) (ap Some same ∙ sym is)
paid_not_by_owner (body.Data d) owner x is paid same = paid (λ none. absurd (cc)) (ap Some same ∙ sym is)

pub legal_recorded : (id_pool : ℕ) (e : LedgerEntry) (s : Option AccountId) → IsPaidRightly e.body s
    → IsEntryLegal id_pool e → IsEntryLegal id_pool (with_sponsor s e)
legal_recorded id_pool e s paid was = record {
  range = record { body = was.range.body; paid = subst (IsPaidRightly e.body) (sym (recorded s e)) paid };
  bound = was.bound;
  few = was.few;
  fits = was.fits;
  filled = was.filled;
}

taken_out : (w x p : ℤ) → w ≡ (x +ℤ (p +ℤ neg_ℤ (pos 0))) → w ≡ (x +ℤ p)
taken_out w x p is = omega (arith, ints)

-- an entry that gets its first sponsor, if it gets one
pub sponsored_weighs : (v : View) (e : LedgerEntry) (t : Option AccountId) → sponsor_of e ≡ None
    → (kind : Kind) (k : LedgerKey) → weight v kind k (sponsored_entry t e)
    ≡ (weight v kind k e +ℤ paid_aggregates (multiplicity e.body) (owner_of e.body) t kind k)
sponsored_weighs v e None none kind k = sym (add_zero _)
sponsored_weighs v e (Some x) none kind k = taken_out _ (weight v kind k e)
    (paid_aggregates (multiplicity e.body) (owner_of e.body) (Some x) kind k) (recorded_weighs v e (Some x) kind k
    ∙ (λ i. weight v kind k e +ℤ (paid_aggregates (multiplicity e.body) (owner_of e.body) (Some x) kind k
    +ℤ neg_ℤ (paid_aggregates (multiplicity e.body) (owner_of e.body) (none i) kind k))))
