-- Moving an entry to another payer keeps counts equal to their sums.
use Rattle.sponsor_laws.proofs.Prelude as prelude
use prelude.{◌≡◌, inl, inr, refl, sym, ap, subst, ◌∙◌, ℕ, ◌+◌, ◌≤◌, true, false, length, Option, Some, None, Ok, arith}
use prelude.{if◌then◌else◌, get, AccountId, ClaimableBalanceEntry, LedgerEntry, LedgerEntryBody, LedgerKey, key_of}
use prelude.{EntryMap, put, Ctx, Count, SubEntries, Sponsoring, Sponsored, HasAccount, sponsor_of, with_sponsor}
use prelude.{unless_first, charge_of, line_multiplicity, multiplicity, owner_of, count_in, map_after_releasing}
use prelude.{map_after_exchange, is_same_account, payer_other_than, payer_tests_at, move_tests_at, map_with_other_payer}
use prelude.{map_with_sponsor, map_with_recorded, map_after_moving_between, map_after_moving_owned}
use prelude.{map_after_moving_balance, map_after_moving_by, map_after_moving_entry, total, counted_for, PayerExists}
use prelude.{MovingKeeps}
use Rattle.sponsor_rules.specs.ledger_types.declared.entry.LedgerEntryBody.TheVariants as body
use Rattle.sponsor_rules.proofs.entry_slots_proofs.RecordedSponsor.{recorded_sponsor}
use Rattle.sponsor_laws.proofs.Totals.{part_of}
use Rattle.sponsor_laws.proofs.Accounts.{share, counted_split, as_many, has_items}
use Rattle.sponsor_laws.proofs.Even.{IsEven, even, kept_of, all_few}
use Rattle.sponsor_laws.proofs.Shifts.{Shift, at_one, plus, no_shift, IsShifted, unshifted, entry_after, account_before}
use Rattle.sponsor_laws.proofs.Shifts.{same_key, same_owner, same_multiplicity, same_own_part}
use Rattle.sponsor_laws.proofs.Changes.{shifted_raise}
use Rattle.sponsor_laws.proofs.Paying.{AreNone, HasEnough, shared, shared_payer, shifted_payer, shifted_payers}
use Rattle.sponsor_laws.proofs.Settling.{inserted, exists_after, exists_put, names_before}
use Rattle.sponsor_laws.proofs.Parts.{pays_for, is_paid_for, enough}
use Rattle.sponsor_laws.proofs.Bounds.{done_by, payer_passed, has_room, pays_more, HasRoom}

pub other_is : (owner : AccountId) (payer : Option AccountId) (s : AccountId) → payer_other_than owner payer ≡ Some s
    → payer ≡ Some s
other_is owner None s is = is
other_is owner (Some payer) s is = elim (is_same_account payer owner) as (λ b. (if b then None else Some payer) ≡ Some s
    → Some payer ≡ Some s) [ true ↦ λ none. absurd (cc) | false ↦ λ same. same ] is

pub room_of : (old : EntryMap) → IsEven old → (ctx : Ctx) (owner : AccountId) (s : Option AccountId) (n : ℕ)
    (after new : EntryMap) → ((id : AccountId) → s ≡ Some id → HasAccount old id)
    → unless_first (move_tests_at ctx old owner s n) after ≡ Ok new
    → (id : AccountId) → s ≡ Some id → HasRoom old id n
room_of old h ctx owner None n after new exists done id is = absurd (cc)
room_of old h ctx owner (Some payer) n after new exists done id is = let same : payer ≡ id = cc in
    subst (λ x. HasRoom old x n) same (has_room old payer n h (exists payer refl)
    (payer_passed ctx old payer n after new done))

module _ (old : EntryMap) (h : IsEven old) (k : LedgerKey) (e : LedgerEntry) (there : get old k ≡ Some e) where
  -- counts moved by what the entry counts for its sponsors
  moved_to : (p q : Shift) (m : EntryMap) (s : Option AccountId) → IsShifted p q old m
      → ((count : Count) (id : AccountId) → p count id + share count id (multiplicity e.body) (owner_of e.body)
      (sponsor_of e) ≡ q count id + share count id (multiplicity e.body) (owner_of e.body) s)
      → ((id : AccountId) → s ≡ Some id → HasAccount old id) → ((id : AccountId) → p SubEntries id ≡ 0)
      → ((id : AccountId) → total SubEntries id old + total Sponsoring id old + p Sponsoring id ≤ 4294967295)
      → IsEven (map_with_sponsor k s m)
  unfolding map_with_sponsor
  moved_to p q m s shifted balanced exists no_subs fits =
      let now = entry_after p q old m k e shifted there in
      let e' = with_sponsor s now.0 in
      let recorded : sponsor_of e' ≡ s = recorded_sponsor s now.0.ext in
      let its_key : key_of e' ≡ k = same_key p q e.body now.0.body now.2.bodies ∙ h.own k e there in
      let is_put : map_with_recorded m s (get m k) ≡ put m e' = ap (map_with_recorded m s) now.1 in
      subst IsEven (sym is_put) (inserted p q old m e' h shifted (record {
        balanced = λ count id.
            let part : part_of (counted_for count id) (get old (key_of e')) ≡ counted_for count id e =
            ap (part_of (counted_for count id)) (ap (get old) its_key ∙ there) in
            let before = counted_split count id e in
            let after = counted_split count id e' in
            let own = same_own_part p q count id e.body now.0.body now.2.bodies in
            let pays : share count id (multiplicity now.0.body) (owner_of now.0.body) (sponsor_of e')
            ≡ share count id (multiplicity e.body) (owner_of e.body) s =
            λ i. share count id (same_multiplicity p q e.body now.0.body now.2.bodies i)
            (same_owner p q e.body now.0.body now.2.bodies i) (recorded i) in
            let is = balanced count id in
            omega arith;
        sums = λ account count is.
            let was = account_before p q e.body now.0.body account now.2.bodies is in
            let sum = h.sums k e was.0 count there was.1 in
            subst (λ id. count_in count account + q count id ≡ total count id old + p count id) (sym was.2.parts.id)
            (let map_after_moving_between = was.2.counts count in omega arith);
        items = λ account is.
            let was = account_before p q e.body now.0.body account now.2.bodies is in
            has_items account (ap length was.2.parts.sponsors ∙ as_many was.0 (h.items k e was.0 there was.1)
            ∙ sym (ap length was.2.parts.signers));
        names = λ id names. exists_put m e' id (exists_after p q old m id shifted (elim names [
          | inl owns ↦ h.names k e id there (names_before p q e now.0 id now.2 (inl owns))
          | inr (inl pays) ↦ exists id (sym recorded ∙ pays)
          | inr (inr n) ↦ h.names k e id there (names_before p q e now.0 id now.2
              (inr (inr (record { account = n.account; is = n.is; sponsor = n.sponsor }))))
        ]));
        few = λ id. let le = all_few old id h in let nothing = no_subs id in omega arith;
        fits = λ id. let le = fits id in let nothing = no_subs id in omega arith;
      }))

  -- ---- what has an owner

  -- what is moved has enough to let go of
  enough_of : (owner : AccountId) (n : ℕ) → owner_of e.body ≡ Some owner → multiplicity e.body ≡ n → (x : AccountId)
      → sponsor_of e ≡ Some x
      → HasEnough no_shift no_shift Sponsored n owner old × HasEnough no_shift no_shift Sponsoring n x old
  enough_of owner n owns times x pays = (
    enough no_shift Sponsored n owner old k e h there
        (subst (λ m. m ≤ counted_for Sponsored owner e) times (is_paid_for e x owner pays owns)) refl,
    enough no_shift Sponsoring n x old k e h there (subst (λ m. m ≤ counted_for Sponsoring x e) times
        (pays_for e x pays)) refl,
  )

  moved_between : (owner : AccountId) (n : ℕ) (s : Option AccountId) → owner_of e.body ≡ Some owner
      → multiplicity e.body ≡ n → ((id : AccountId) → s ≡ Some id → HasAccount old id)
      → ((id : AccountId) → s ≡ Some id → HasRoom old id n)
      → IsShifted (plus no_shift (shared n (Some owner) s)) (plus no_shift (shared n (Some owner) (sponsor_of e))) old
      (map_with_other_payer owner n (sponsor_of e) s old)
      → IsEven (map_with_sponsor k s (map_with_other_payer owner n (sponsor_of e) s old))
  moved_between owner n s owns times exists room second =
      let was = sponsor_of e in
      moved_to (plus no_shift (shared n (Some owner) s)) (plus no_shift (shared n (Some owner) was))
      (map_with_other_payer owner n was s old) s second
      (λ count id.
      let before : share count id (multiplicity e.body) (owner_of e.body) was ≡ share count id n (Some owner) was =
      λ i. share count id (times i) (owns i) was in
      let after : share count id (multiplicity e.body) (owner_of e.body) s ≡ share count id n (Some owner) s =
      λ i. share count id (times i) (owns i) s in
      omega arith)
      exists
      (λ id. refl)
      (λ id. let le = pays_more old id s n h room in omega arith)

  between_done : (ctx : Ctx) (owner : AccountId) (n : ℕ) (was s : Option AccountId) (new : EntryMap)
      → (AreNone was s → ⊥) → map_after_moving_between ctx k owner n was s old ≡ Ok new
      → unless_first (move_tests_at ctx old owner s n) (map_with_sponsor k s (map_with_other_payer owner n was s old))
      ≡ Ok new
  between_done ctx owner n None None new some done = absurd (some (refl, refl))
  between_done ctx owner n was s new some done = done

  none_done : (ctx : Ctx) (owner : AccountId) (n : ℕ) (was s : Option AccountId) (new : EntryMap) → was ≡ None
      → s ≡ None → map_after_moving_between ctx k owner n was s old ≡ Ok new → old ≡ new
  none_done ctx owner n None None new was none done = cc
  none_done ctx owner n None (Some t) new was none done = absurd (cc)
  none_done ctx owner n (Some x) s new was none done = absurd (cc)

  owned_moved : (ctx : Ctx) (owner : AccountId) (n : ℕ) (payer : Option AccountId) (new : EntryMap)
      → owner_of e.body ≡ Some owner → multiplicity e.body ≡ n → PayerExists payer old
      → map_after_moving_owned ctx k owner n (sponsor_of e) payer old ≡ Ok new → IsEven new
  owned_moved ctx owner n payer new owns times exists done =
      let s = payer_other_than owner payer in
      let after = map_with_sponsor k s (map_with_other_payer owner n (sponsor_of e) s old) in
      let exist = λ (id : AccountId) (is : s ≡ Some id). exists id (other_is owner payer id is) in
      elim (shifted_payers no_shift no_shift n old old h.own (unshifted old h.own) owner (sponsor_of e) s
      (enough_of owner n owns times)) [
        | inl none ↦ subst IsEven (none_done ctx owner n (sponsor_of e) s new none.0 none.1 done) h
        | inr some ↦
            let tested = between_done ctx owner n (sponsor_of e) s new some.0 done in
            subst IsEven (done_by (move_tests_at ctx old owner s n) after new tested)
            (moved_between owner n s owns times exist (room_of old h ctx owner s n after new exist tested) some.1)
      ]

  -- ---- claimable balances

  balance_moved : (ctx : Ctx) (balance : ClaimableBalanceEntry) (payer : Option AccountId) (new : EntryMap)
      → e.body ≡ body.ClaimableBalance balance → PayerExists payer old
      → map_after_moving_balance ctx k (length balance.claimants) (sponsor_of e) payer old ≡ Ok new → IsEven new
  balance_moved ctx balance None new is exists done = subst IsEven (cc) h
  balance_moved ctx balance (Some payer) new is exists done =
      let n : ℕ = length balance.claimants in
      let was = sponsor_of e in
      let q : Shift = plus no_shift (shared n None was) in
      let times : multiplicity e.body ≡ n = ap multiplicity is in
      let nobody : owner_of e.body ≡ None = ap owner_of is in
      let first = shifted_payer no_shift no_shift n old old h.own (unshifted old h.own) was
      (λ x pays. enough no_shift Sponsoring n x old k e h there
      (subst (λ m. m ≤ counted_for Sponsoring x e) times (pays_for e x pays)) refl) in
      let second = shifted_raise no_shift q Sponsoring n payer old (map_after_releasing n was old) h.own first in
      let m = map_after_exchange n was (Some payer) old in
      let over = payer_passed ctx old payer n (map_with_sponsor k (Some payer) m) new done in
      subst IsEven (done_by (payer_tests_at ctx old payer n) (map_with_sponsor k (Some payer) m) new done)
      (moved_to (plus no_shift (at_one Sponsoring n payer)) q m (Some payer) second
      (λ count id.
      let before : share count id (multiplicity e.body) (owner_of e.body) was ≡ share count id n None was =
      λ i. share count id (times i) (nobody i) was in
      let after : share count id (multiplicity e.body) (owner_of e.body) (Some payer)
      ≡ share count id n None (Some payer) = λ i. share count id (times i) (nobody i) (Some payer) in
      let one = shared_payer count id payer n in
      omega arith)
      (λ id same. exists id same)
      (λ id. refl)
      (λ id. let le = pays_more old id (Some payer) n h (λ x same. let one : payer ≡ x = cc in
      subst (λ y. HasRoom old y n) one (has_room old payer n h (exists payer refl) over)) in omega arith))

  -- ---- all kinds

  moved_by : (ctx : Ctx) (b : LedgerEntryBody) (payer : Option AccountId) (new : EntryMap) → e.body ≡ b
      → PayerExists payer old → map_after_moving_by ctx k (charge_of b) (sponsor_of e) payer old ≡ Ok new → IsEven new
  moved_by ctx (body.Account account) payer new is exists done =
      owned_moved ctx account.account_id 2 payer new (ap owner_of is) (ap multiplicity is) exists done
  moved_by ctx (body.ClaimableBalance balance) payer new is exists done =
      balance_moved ctx balance payer new is exists done
  moved_by ctx (body.LiquidityPool pool) payer new is exists done = subst IsEven (cc) h
  moved_by ctx (body.TrustLine line) payer new is exists done = owned_moved ctx line.account_id
      (line_multiplicity line.asset) payer new (ap owner_of is) (ap multiplicity is) exists done
  moved_by ctx (body.Offer offer) payer new is exists done =
      owned_moved ctx offer.seller_id 1 payer new (ap owner_of is) (ap multiplicity is) exists done
  moved_by ctx (body.Data data_entry) payer new is exists done =
      owned_moved ctx data_entry.account_id 1 payer new (ap owner_of is) (ap multiplicity is) exists done

pub moving_keeps : MovingKeeps
moving_keeps ctx key payer old new kept exists done = kept_of new (elim (get old key) as (λ o. get old key ≡ o
    → map_after_moving_entry ctx key payer old o ≡ Ok new → IsEven new) [
      | None ↦ λ none same. subst IsEven (cc) (even old kept)
      | Some e ↦ λ there moves. moved_by old (even old kept) key e there ctx e.body payer new refl exists moves
    ] refl done)
