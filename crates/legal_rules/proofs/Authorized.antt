-- Lines that carry neither flag of authorisation are bound by no offer, and the lines of offers carry one.
use Rattle.legal_rules.proofs.Prelude as prelude
use prelude.{◌≡◌, refl, sym, ap, subst, ◌∙◌, ℕ, true, false, [], ◌∷◌, ◌++◌, All, Option, Some, None, All-append}
use prelude.{All-head, All-tail, ℤ, pos, ◌≤ℤ◌, if◌then◌else◌, get, LedgerEntry, LedgerEntryBody, LedgerKey, EntryMap}
use prelude.{line_in, line_of, total, EachEntry, total_none, part_at_most, is_key, for_key, holder, sells, buys}
use prelude.{Selling, Buying, counted, stated, stated_at, IsBodyInRange, IsEntryInRange, keys_in, view, IsAggregated}
use prelude.{IsAuthorized, AreLinesAuthorized, IsBoundRightly, natural_positive, same_keys}
use Rattle.hash_ids.specs.ledger_types.declared.entry.LedgerEntryBody.TheVariants as body
use Rattle.legal_rules.proofs.Lows.{counted_low}
use Rattle.legal_rules.proofs.Needed.{for_itself, keys_all}
use Rattle.legal_rules.proofs.Numbers.{at_least_one_states_some}

-- ---- from lines to aggregates

-- no offer counts for a line that isn't authorised
not_for : (k : LedgerKey) (o : Option LedgerKey) (n : ℤ) → ((named : LedgerKey) → o ≡ Some named → named ≡ k → ⊥)
    → for_key k o n ≡ pos 0
not_for k None n apart = refl
not_for k (Some named) n apart = elim (is_key named k) as (λ t. is_key named k ≡ t → (if t then n else pos 0) ≡ pos 0) [
  | true ↦ λ tied. absurd (apart named refl (same_keys named k tied))
  | false ↦ λ h. refl
] refl

-- what holds of both holders of an offer
first_passes : (P : LedgerKey → Type 0) (o p : Option LedgerKey) (k : LedgerKey) → All P (keys_in o ++ keys_in p)
    → o ≡ Some k → P k
first_passes P None p k all is = absurd (cc)
first_passes P (Some named) p k all is = subst P (let same : named ≡ k = cc in same) (All-head P named (keys_in p) all)

second_passes : (P : LedgerKey → Type 0) (o p : Option LedgerKey) (k : LedgerKey) → All P (keys_in o ++ keys_in p)
    → p ≡ Some k → P k
second_passes P o None k all is = absurd (cc)
second_passes P None (Some named) k all is = subst P (let same : named ≡ k = cc in same) (All-head P named [] all)
second_passes P (Some x) (Some named) k all is = subst P (let same : named ≡ k = cc in same)
    (All-head P named [] (All-tail P x (named ∷ []) all))

-- where offers' lines are authorised, none counts for a line that isn't
module _ (m : EntryMap) (authorized : EachEntry (λ q x. AreLinesAuthorized m x.body) m) (k : LedgerKey)
    (apart : IsAuthorized (line_of (get m k)) → ⊥) where
  not_named : (named : LedgerKey) → IsAuthorized (line_of (get m named)) → named ≡ k → ⊥
  not_named named passes same = apart (subst (λ q. IsAuthorized (line_of (get m q))) same passes)

  abbrev Passes : LedgerKey → Type 0
  Passes q = IsAuthorized (line_of (get m q))

  not_sold : (b : LedgerEntryBody) → AreLinesAuthorized m b → sells k b ≡ pos 0
  not_sold (body.Offer o) all = not_for k (holder o.seller_id o.selling) _ (λ named is same. not_named named
      (first_passes Passes (holder o.seller_id o.selling) (holder o.seller_id o.buying) named all is) same)
  not_sold other all = refl

  not_bought : (b : LedgerEntryBody) → AreLinesAuthorized m b → buys k b ≡ pos 0
  not_bought (body.Offer o) all = not_for k (holder o.seller_id o.buying) _ (λ named is same. not_named named
      (second_passes Passes (holder o.seller_id o.selling) (holder o.seller_id o.buying) named all is) same)
  not_bought other all = refl

module _ (m : EntryMap) (authorized : EachEntry (λ q x. AreLinesAuthorized m x.body) m)
    (selling : IsAggregated Selling m)
    (buying : IsAggregated Buying m) where
  by_body : (k : LedgerKey) (e : LedgerEntry) (b : LedgerEntryBody) → get m k ≡ Some e → e.body ≡ b → IsBoundRightly b
  by_body k e (body.TrustLine t) there is = λ none.
      let apart : IsAuthorized (line_of (get m k)) → ⊥ = λ passes. subst (λ x. IsAuthorized (line_in x)) is
      (subst (λ o. IsAuthorized (line_of o)) there passes) none in (
        sym (ap (stated_at Selling) there ∙ ap (stated Selling) is) ∙ selling k
            ∙ total_none (counted (view m) Selling k) m (λ q x at. not_sold m authorized k apart x.body
            (authorized q x at)),
        sym (ap (stated_at Buying) there ∙ ap (stated Buying) is) ∙ buying k
            ∙ total_none (counted (view m) Buying k) m (λ q x at. not_bought m authorized k apart x.body
            (authorized q x at)),
      )
  by_body k e other there is = tt

  pub bound_rightly : EachEntry (λ k e. IsBoundRightly e.body) m
  bound_rightly k e there = by_body k e e.body there refl

-- ---- from aggregates to lines

module _ (id_pool : ℕ) (m : EntryMap) (entries : EachEntry (λ k e. IsEntryInRange id_pool e) m)
    (bound : EachEntry (λ k e. IsBoundRightly e.body) m) (selling : IsAggregated Selling m)
    (buying : IsAggregated Buying m) where
  abbrev IsPassed : LedgerKey → Type 0
  IsPassed q = IsAuthorized (line_of (get m q))

  -- a line that something counts for in one of the two aggregates
  sold_passes : (k q : LedgerKey) (x : LedgerEntry) → get m q ≡ Some x → pos 1 ≤ℤ sells k x.body → IsPassed k
  sold_passes k q x at some = by_entry (get m k) refl
    where
      by_line : (e : LedgerEntry) (b : LedgerEntryBody) → get m k ≡ Some e → e.body ≡ b → IsAuthorized (line_in b)
      by_line e (body.TrustLine t) there is = λ none. at_least_one_states_some (sells k x.body)
          (total (counted (view m) Selling k) m)
          (stated_at Selling (get m k)) some (part_at_most (counted (view m) Selling k) m q x
          (λ r y has. counted_low id_pool (view m) Selling k y (entries r y has)) at) (selling k)
          (ap (stated_at Selling) there ∙ ap (stated Selling) is
          ∙ (subst IsBoundRightly is (bound k e there) none).0)
      by_line e other there is = tt

      by_entry : (o : Option LedgerEntry) → get m k ≡ o → IsAuthorized (line_of o)
      by_entry None there = tt
      by_entry (Some e) there = by_line e e.body there refl

  bought_passes : (k q : LedgerKey) (x : LedgerEntry) → get m q ≡ Some x → pos 1 ≤ℤ buys k x.body → IsPassed k
  bought_passes k q x at some = by_entry (get m k) refl
    where
      by_line : (e : LedgerEntry) (b : LedgerEntryBody) → get m k ≡ Some e → e.body ≡ b → IsAuthorized (line_in b)
      by_line e (body.TrustLine t) there is =
          λ none. at_least_one_states_some (buys k x.body) (total (counted (view m) Buying k) m)
          (stated_at Buying (get m k)) some (part_at_most (counted (view m) Buying k) m q x
          (λ r y has. counted_low id_pool (view m) Buying k y (entries r y has)) at) (buying k)
          (ap (stated_at Buying) there ∙ ap (stated Buying) is
          ∙ (subst IsBoundRightly is (bound k e there) none).1)
      by_line e other there is = tt

      by_entry : (o : Option LedgerEntry) → get m k ≡ o → IsAuthorized (line_of o)
      by_entry None there = tt
      by_entry (Some e) there = by_line e e.body there refl

  by_offer : (b : LedgerEntryBody) → IsBodyInRange id_pool b → ((k : LedgerKey) → pos 1 ≤ℤ sells k b → IsPassed k)
      → ((k : LedgerKey) → pos 1 ≤ℤ buys k b → IsPassed k) → AreLinesAuthorized m b
  by_offer (body.Offer o) range sold bought = All-append IsPassed (keys_in (holder o.seller_id o.selling))
      (keys_in (holder o.seller_id o.buying))
      (keys_all IsPassed (holder o.seller_id o.selling) (λ k is. sold k
      (for_itself k (holder o.seller_id o.selling) _ is (natural_positive _ range.wheat))))
      (keys_all IsPassed (holder o.seller_id o.buying) (λ k is. bought k
      (for_itself k (holder o.seller_id o.buying) _ is (natural_positive _ range.sheep))))
  by_offer other range sold bought = tt

  pub lines_authorized : EachEntry (λ k e. AreLinesAuthorized m e.body) m
  lines_authorized q x at = by_offer x.body (entries q x at).body (λ k some. sold_passes k q x at some)
      (λ k some. bought_passes k q x at some)
