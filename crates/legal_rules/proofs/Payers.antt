-- Payers that pay n reserves less or more, and owners for whom they pay.
use Rattle.legal_rules.proofs.Prelude as prelude
use prelude.{◌≡◌, ◌≢◌, refl, sym, ap, subst, ◌∙◌, ℕ, ◌+◌, ◌-◌, ◌≤◌, true, false, Option, Some, None, arith, ℤ, pos}
use prelude.{neg_ℤ, ◌+ℤ◌, get, AccountId, AccountEntry, LedgerEntry, LedgerKey, EntryMap, account_of, account_at}
use prelude.{with_account, num_sponsoring, num_sponsored, with_more, with_less, is_same_account, map_after_charging}
use prelude.{map_after_releasing, map_after_exchange, with_more_paid, with_less_paid, with_subentry, without_subentry}
use prelude.{with_other_payer, same_account, apart_accounts, with_count_keeps, at_most, Subentries, Sponsoring}
use prelude.{Sponsored, View, total, offer_with, Owed, in_aggregate, plus, less, IsEntryLegal, IsLegalOwing, add_zero}
use Rattle.hash_ids.specs.ledger_types.declared.key.LedgerKey.TheVariants as key
use Rattle.sponsor_laws.specs.sponsor_rules.declared.count.Count.TheVariants as count
use Rattle.legal_rules.proofs.Steps.{IsAccountEntry, with_body, IsStep, no_step, steps, step_as, stepped, legal_as}
use Rattle.legal_rules.proofs.Steps.{same_id_at}
use Rattle.legal_rules.proofs.AccountRanges.{MayBe, may_fall}
use Rattle.legal_rules.proofs.Counting.{more_step, less_step, neg_in_aggregate}
use Rattle.legal_rules.proofs.Indices.{kept_elsewhere, entry_after, account_after, account_elsewhere, absent_after}
use Rattle.legal_rules.proofs.Indices.{same_offers}
use Rattle.legal_rules.proofs.Sponsors.{owner_aggregates, payer_aggregates}
use Rattle.legal_rules.proofs.Bounded.{account_legal}
use Rattle.legal_rules.proofs.Existing.{ExistsWith}

-- ---- an owner, for whom n reserves are paid

module _ (id_pool n : ℕ) (id : AccountId) where
  abbrev IsOwnStep : Owed → AccountEntry → AccountEntry → Type 0
  IsOwnStep more a b = IsStep (IsEntryLegal id_pool) more a b

  more_paid_step : (t : Option AccountId) (a : AccountEntry) → a.account_id ≡ id
      → IsOwnStep (less (owner_aggregates n id t)) a (with_more_paid n t a)
  more_paid_step None a same = no_step (IsEntryLegal id_pool) a
  more_paid_step (Some x) a same = step_as (IsEntryLegal id_pool) _ _ a (with_more count.Sponsored n a)
      (more_step id_pool count.Sponsored n a id same tt)
      (λ kind k. neg_in_aggregate Sponsored (key.Account id) (pos n) kind k)

  less_paid_step : (s : Option AccountId) (a : AccountEntry) → a.account_id ≡ id
      → ((x : AccountId) → s ≡ Some x → n ≤ num_sponsored a)
      → IsOwnStep (owner_aggregates n id s) a (with_less_paid n s a)
  less_paid_step None a same enough = no_step (IsEntryLegal id_pool) a
  less_paid_step (Some x) a same enough = less_step id_pool count.Sponsored n a id same (enough x refl) tt

  pub other_payer_step : (s t : Option AccountId) (a : AccountEntry) → a.account_id ≡ id
      → ((x : AccountId) → s ≡ Some x → n ≤ num_sponsored a)
      → IsOwnStep (plus (owner_aggregates n id s) (less (owner_aggregates n id t))) a (with_other_payer n s t a)
  other_payer_step s t a same enough =
      let first = less_paid_step s a same enough in
      steps (IsEntryLegal id_pool) (owner_aggregates n id s) (less (owner_aggregates n id t)) a
      (with_less_paid n s a) _ first
      (more_paid_step t (with_less_paid n s a) (first.move.id ∙ same))

  pub subentry_step : (t : Option AccountId) (a : AccountEntry) → a.account_id ≡ id
      → MayBe count.SubEntries (a.num_sub_entries + n) a
      → IsOwnStep (plus (in_aggregate Subentries (key.Account id) (neg_ℤ (pos n))) (less (owner_aggregates n id t))) a
      (with_subentry n t a)
  subentry_step t a same may =
      let first = more_step id_pool count.SubEntries n a id same may in
      steps (IsEntryLegal id_pool) (in_aggregate Subentries (key.Account id) (neg_ℤ (pos n)))
      (less (owner_aggregates n id t)) a
      (with_more count.SubEntries n a) _ first
      (more_paid_step t (with_more count.SubEntries n a) (first.move.id ∙ same))

  pub no_subentry_step : (s : Option AccountId) (a : AccountEntry) → a.account_id ≡ id → n ≤ a.num_sub_entries
      → MayBe count.SubEntries (a.num_sub_entries - n) a → ((x : AccountId) → s ≡ Some x → n ≤ num_sponsored a)
      → IsOwnStep (plus (in_aggregate Subentries (key.Account id) (pos n)) (owner_aggregates n id s)) a
      (without_subentry n s a)
  no_subentry_step s a same le may enough =
      let first = less_step id_pool count.SubEntries n a id same le may in
      steps (IsEntryLegal id_pool) (in_aggregate Subentries (key.Account id) (pos n)) (owner_aggregates n id s) a
      (with_less count.SubEntries n a) _ first
      (less_paid_step s (with_less count.SubEntries n a) (first.move.id ∙ same) (λ x is.
      subst (λ c. n ≤ c) (sym (with_count_keeps count.SubEntries count.Sponsored _ a (λ same. absurd (cc))))
      (enough x is)))

-- ---- payers

-- an account that exists and can pay n reserves more
pub record HasRoom (n : ℕ) (m : EntryMap) (id : AccountId) : Type 0 where
  pub account : AccountEntry
  pub exists : account_at m id ≡ Some account
  pub fits : account.num_sub_entries + num_sponsoring account + n ≤ 4294967295

-- a key is of no such account
abbrev pub IsBeside : Option AccountId → LedgerKey → Type 0
IsBeside o k = (x : AccountId) → o ≡ Some x → k ≢ key.Account x

pub beside_none : (k : LedgerKey) → IsBeside None k
beside_none k x is = absurd (cc)

pub beside_one : (x : AccountId) (k : LedgerKey) → k ≢ key.Account x → IsBeside (Some x) k
beside_one x k apart y is same = apart (same ∙ ap key.Account (let ids : y ≡ x = cc in ids))

module _ (v : View) (id_pool : ℕ) (sum : ℤ) where
  -- a state after payers changed; what else existed still exists
  pub record ArePaying (owed : Owed) (s t : Option AccountId) (m new : EntryMap) : Type 0 where
    pub legal : IsLegalOwing v id_pool owed sum new
    pub others : (k : LedgerKey) → IsBeside s k → IsBeside t k → get new k ≡ get m k
    pub absent : (k : LedgerKey) → get m k ≡ None → get new k ≡ None
    pub offers : (id : ℤ) → total (offer_with id) new ≡ total (offer_with id) m

  module _ (n : ℕ) where
    released : (s : Option AccountId) (owed : Owed) (m : EntryMap) → IsLegalOwing v id_pool owed sum m
        → ((x : AccountId) → s ≡ Some x → ExistsWith count.Sponsoring n m x)
        → ArePaying (plus owed (payer_aggregates n s)) s None m (map_after_releasing n s m)
    released None owed m legal enough = record {
      legal = legal_as v (IsEntryLegal id_pool) owed _ sum sum m legal (λ kind k. sym (add_zero _)) refl;
      others = λ k beside also. refl;
      absent = λ k none. none;
      offers = λ id. refl;
    }
    released (Some x) owed m legal enough =
        let s = enough x refl in
        let same = same_id_at m x s.account legal.keyed s.exists in
        let bounded = account_legal v id_pool owed sum m x s.account legal s.exists in
        let step = less_step id_pool count.Sponsoring n s.account x same s.enough
        (may_fall count.Sponsoring n s.account bounded.few bounded.fits) in
        record {
          legal = stepped v (IsEntryLegal id_pool) owed _ sum m x (with_less count.Sponsoring n) s.account legal
              s.exists step;
          others = λ k beside also. kept_elsewhere m x (with_less count.Sponsoring n) s.account legal.keyed s.exists
              step.move.id k (beside x refl);
          absent = absent_after m x (with_less count.Sponsoring n) s.account legal.keyed s.exists step.move.id;
          offers = same_offers m x (with_less count.Sponsoring n) s.account legal.keyed s.exists step.move.id;
        }

    charged : (t : Option AccountId) (owed : Owed) (m : EntryMap) → IsLegalOwing v id_pool owed sum m
        → ((x : AccountId) → t ≡ Some x → HasRoom n m x)
        → ArePaying (plus owed (less (payer_aggregates n t))) None t m (map_after_charging n t m)
    charged None owed m legal room = record {
      legal = legal_as v (IsEntryLegal id_pool) owed _ sum sum m legal (λ kind k. sym (add_zero _)) refl;
      others = λ k beside also. refl;
      absent = λ k none. none;
      offers = λ id. refl;
    }
    charged (Some x) owed m legal room =
        let r = room x refl in
        let same = same_id_at m x r.account legal.keyed r.exists in
        let step = more_step id_pool count.Sponsoring n r.account x same (let fits = r.fits in omega arith) in
        record {
          legal = legal_as v (IsEntryLegal id_pool) _ _ sum sum _ (stepped v (IsEntryLegal id_pool) owed _ sum m x
              (with_more count.Sponsoring n) r.account legal r.exists step)
              (λ kind k. ap (λ y. owed kind k +ℤ y) (neg_in_aggregate Sponsoring (key.Account x) (pos n) kind k)) refl;
          others = λ k beside also. kept_elsewhere m x (with_more count.Sponsoring n) r.account legal.keyed r.exists
              step.move.id k (also x refl);
          absent = absent_after m x (with_more count.Sponsoring n) r.account legal.keyed r.exists step.move.id;
          offers = same_offers m x (with_more count.Sponsoring n) r.account legal.keyed r.exists step.move.id;
        }

    -- who can pay still can after a payer paid less
    room_at : (x y : AccountId) (owed : Owed) (m : EntryMap) → IsLegalOwing v id_pool owed sum m → HasRoom n m x
        → ExistsWith count.Sponsoring n m y → HasRoom n (with_account m y (with_less count.Sponsoring n)) x
    room_at x y owed m legal r s =
        let same = same_id_at m y s.account legal.keyed s.exists in
        let bounded = account_legal v id_pool owed sum m y s.account legal s.exists in
        let step = less_step id_pool count.Sponsoring n s.account y same s.enough
        (may_fall count.Sponsoring n s.account bounded.few bounded.fits) in
        elim (is_same_account x y) as (λ b. is_same_account x y ≡ b
        → HasRoom n (with_account m y (with_less count.Sponsoring n)) x) [
          | true ↦ λ is.
              let tied = same_account x y is in
              let one = r.exists in
              let two = ap (account_at m) tied ∙ s.exists in
              let accounts : r.account ≡ s.account = cc in
              let now = with_less count.Sponsoring n s.account in
              record {
                account = now;
                exists = ap (account_at (with_account m y (with_less count.Sponsoring n))) tied
                    ∙ account_after m y (with_less count.Sponsoring n) s.account legal.keyed s.exists step.move.id;
                fits = (
                    let subs = at_most count.Sponsoring count.SubEntries n s.account in
                    let pays = at_most count.Sponsoring count.Sponsoring n s.account in
                    let was : s.account.num_sub_entries + num_sponsoring s.account + n ≤ 4294967295 =
                    subst (λ (a : AccountEntry). a.num_sub_entries + num_sponsoring a + n ≤ 4294967295) accounts
                    r.fits in
                    omega arith);
              }
          | false ↦ λ is. record {
            account = r.account;
            exists = account_elsewhere m y (with_less count.Sponsoring n) s.account legal.keyed s.exists step.move.id x
                (apart_accounts x y is) ∙ r.exists;
            fits = r.fits;
          }
        ] refl

    room_after : (s : Option AccountId) (owed : Owed) (m : EntryMap) → IsLegalOwing v id_pool owed sum m
        → ((x : AccountId) → s ≡ Some x → ExistsWith count.Sponsoring n m x) → (x : AccountId) → HasRoom n m x
        → HasRoom n (map_after_releasing n s m) x
    room_after None owed m legal enough x room = room
    room_after (Some y) owed m legal enough x room = room_at x y owed m legal room (enough y refl)

    -- The old payer pays n reserves less, and the new one n more.
    pub exchanged : (s t : Option AccountId) (owed : Owed) (m : EntryMap) → IsLegalOwing v id_pool owed sum m
        → ((x : AccountId) → s ≡ Some x → ExistsWith count.Sponsoring n m x)
        → ((x : AccountId) → t ≡ Some x → HasRoom n m x)
        → ArePaying (plus (plus owed (payer_aggregates n s)) (less (payer_aggregates n t))) s t m
        (map_after_exchange n s t m)
    exchanged s t owed m legal enough room =
        let first = released s owed m legal enough in
        let second = charged t (plus owed (payer_aggregates n s)) (map_after_releasing n s m) first.legal
        (λ x is. room_after s owed m legal enough x (room x is)) in
        record {
          legal = second.legal;
          others = λ k beside also. second.others k (beside_none k) also ∙ first.others k beside (beside_none k);
          absent = λ k none. second.absent k (first.absent k none);
          offers = λ id. second.offers id ∙ first.offers id;
        }

  -- a state after an account changed too
  pub record AreChanged (owed : Owed) (s t : Option AccountId) (id : AccountId) (a b : AccountEntry) (m new : EntryMap)
      : Type 0 where
    pub legal : IsLegalOwing v id_pool owed sum new
    pub others : (k : LedgerKey) → IsBeside s k → IsBeside t k → k ≢ key.Account id → get new k ≡ get m k
    pub absent : (k : LedgerKey) → get m k ≡ None → get new k ≡ None
    pub offers : (id : ℤ) → total (offer_with id) new ≡ total (offer_with id) m
    pub entry : (e : LedgerEntry) → IsAccountEntry m id a e → get new (key.Account id) ≡ Some (with_body e b)

  -- the owner changes after its payers, of which it is none
  pub owner_changed : (owed more : Owed) (s t : Option AccountId) (id : AccountId) (a : AccountEntry)
      (f : AccountEntry → AccountEntry) (m new : EntryMap) → ArePaying owed s t m new → account_at m id ≡ Some a
      → IsBeside s (key.Account id) → IsBeside t (key.Account id) → IsStep (IsEntryLegal id_pool) more a (f a)
      → AreChanged (plus owed more) s t id a (f a) m (with_account new id f)
  unfolding account_at
  owner_changed owed more s t id a f m new paying exists beside also step =
      let still : get new (key.Account id) ≡ get m (key.Account id) = paying.others (key.Account id) beside also in
      let now : account_at new id ≡ Some a = ap account_of still ∙ exists in
      record {
        legal = stepped v (IsEntryLegal id_pool) owed more sum new id f a paying.legal now step;
        others = λ k besides alsos apart. kept_elsewhere new id f a paying.legal.keyed now step.move.id k apart
            ∙ paying.others k besides alsos;
        absent = λ k none. absent_after new id f a paying.legal.keyed now step.move.id k (paying.absent k none);
        offers = λ n. same_offers new id f a paying.legal.keyed now step.move.id n ∙ paying.offers n;
        entry = λ e here. entry_after new id f a paying.legal.keyed now step.move.id e
            (record { there = still ∙ here.there; is = here.is });
      }
