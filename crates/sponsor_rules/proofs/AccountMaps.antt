-- A map in which an account's entry is put in place of the one that was there.
use Rattle.sponsor_rules.proofs.Prelude as prelude
use prelude.{◌≡◌, ◌≢◌, ◌⊎◌, inl, inr, refl, sym, ap, subst, ◌∙◌, ◌≤◌, Bool, true, false, cond, Option, Some, None}
use prelude.{arith, get, get-insert, get-remove, AccountId, AccountEntry, key_of, EntryMap, put, erase, account_of}
use prelude.{account_at, account_slot_at, account_of_slot, entry_of_account, with_account, Count, count_if, count_at}
use prelude.{KeepsCore, KeepsOtherCounts, RaisesNoCount, IsChanged, IsChangeOf, KeepsOthers, RaisesNone, ChangesAtMost}
use prelude.{IsLoaded, HasCore, LeavesCore, LeavesOtherCores, account_slot, account_kind}
use Rattle.std.specs.Ordering.{eq_by_cmp}
use Rattle.ledger_types.specs.KeyOrder.{key_cmp}
use Rattle.ledger_types.proofs.KeyOrdering.{keys_total, same_keys}
use Rattle.ledger_types.specs.declared.entry.LedgerEntry.{LedgerEntry}
use Rattle.ledger_types.specs.declared.entry.LedgerEntryBody.TheVariants as body
use Rattle.ledger_types.specs.declared.key.LedgerKey.{LedgerKey}
use Rattle.ledger_types.specs.declared.key.LedgerKey.TheVariants as key
use Rattle.reserve_rules.proofs.entry_map_proofs.KeyMaps.{same_itself}
use Rattle.reserve_rules.specs.entry_slots.declared.accounts.AccountSlot.{AccountSlot}
use Rattle.reserve_rules.specs.entry_slots.EntrySponsor.{with_sponsor}
use Rattle.std.specs.Prelude.{ℕ, ℤ}
use Rattle.ledger_types.specs.Keys.{key_of_body}
use Rattle.ledger_types.specs.declared.offer.OfferEntry.{OfferEntry}
use Rattle.reserve_rules.specs.entry_map.Book.{offer_in, offer_of}
use Rattle.sponsor_rules.specs.declared.count.Count.TheVariants.{Sponsoring}
use Rattle.sponsor_rules.specs.declared.charge.Charge.{Charge}
use Rattle.sponsor_rules.specs.declared.charge.Charge.TheVariants as charge
use Rattle.sponsor_rules.specs.Counting.{with_less}
use Rattle.sponsor_rules.specs.Paying.{map_after_releasing, without_subentry}
use Rattle.sponsor_rules.specs.Removing.{map_without_charge}
use Rattle.sponsor_rules.proofs.Keeping.{core_kept, core_kept_twice}
use Rattle.reserve_rules.proofs.entry_slots_proofs.ChangedEntries.{accounts_exact, slot_entry, slot_value, with_beside}
use Rattle.reserve_rules.proofs.entry_slots_proofs.ChangedEntries.{with_found, with_missing}
use Rattle.reserve_rules.specs.entry_slots.EntryKinds.{slot_of}
use Rattle.reserve_rules.proofs.entry_map_proofs.Lookups.{put_elsewhere, erase_elsewhere}

-- ---- slots and accounts

pub account_of_slot_at : (m : EntryMap) (id : AccountId) → account_at m id ≡ account_of_slot (account_slot_at m id)
unfolding account_at
account_of_slot_at m id =
    slot_value accounts_exact account_slot (λ s. s.account) (λ e a. refl) (get m (key.Account id))

-- what is loaded stays so, while that account doesn't change
pub loaded_after : (old new : EntryMap) (id : AccountId) (slot : Option AccountSlot) (changed : Option AccountId)
    → IsLoaded old id slot → ChangesAtMost changed old new → changed ≢ Some id → IsLoaded new id slot
loaded_after old new id slot changed was only apart = record {
  slot_is = was.slot_is ∙ sym (only.others id apart);
  account_is = account_of_slot_at new id ∙ ap account_of_slot (only.others id apart) ∙ sym (account_of_slot_at old id)
      ∙ was.account_is;
  named = was.named;
}

pub named_of : (m : EntryMap) (id : AccountId) (slot : AccountSlot) → IsLoaded m id (Some slot)
    → slot.account.account_id ≡ id
named_of m id slot loaded = loaded.named slot refl

pub change_of : (m : EntryMap) (id : AccountId) (slot : AccountSlot) (account : AccountEntry)
    → IsLoaded m id (Some slot) → KeepsCore slot.account account → IsChangeOf m id account
change_of m id slot account loaded core = record { was = slot.account; exists = loaded.account_is; core = core }

pub changed_as : (R : AccountEntry → AccountEntry → Type 0) (m : EntryMap) (id : AccountId) (slot : AccountSlot)
    (account : AccountEntry) → IsLoaded m id (Some slot) → R slot.account account → IsChanged R m id account
changed_as R m id slot account loaded changed was exists =
    let there = loaded.account_is in
    let same : slot.account ≡ was = cc in
    subst (λ a. R a account) same changed

-- ---- with_account, by what is loaded

pub with_account_put : (m : EntryMap) (id : AccountId) (f : AccountEntry → AccountEntry) (slot : AccountSlot)
    → IsLoaded m id (Some slot)
    → with_account m id f ≡ put m (entry_of_account (record slot { account = f slot.account }))
unfolding with_account
with_account_put m id f slot loaded =
    let found = slot_entry accounts_exact account_slot slot m (key.Account id) loaded.slot_is in
    with_found accounts_exact m (key.Account id) f found.1 found.0 found.2
    ∙ ap (λ (s : AccountSlot). put m (entry_of_account (record s { account = f s.account }))) (sym found.3)

pub with_account_none : (m : EntryMap) (id : AccountId) (f : AccountEntry → AccountEntry) → IsLoaded m id None
    → with_account m id f ≡ m
unfolding account_at with_account
with_account_none m id f loaded = with_missing accounts_exact m (key.Account id) f loaded.account_is

pub stored_as : (m : EntryMap) (id : AccountId) (f : AccountEntry
    → AccountEntry) (slot : AccountSlot) (account : AccountEntry) → IsLoaded m id (Some slot) → account ≡ f slot.account
    → put m (entry_of_account (record slot { account = account })) ≡ with_account m id f
stored_as m id f slot account loaded changed = ap (λ (a : AccountEntry). put m
    (entry_of_account (record slot { account = a }))) changed ∙ sym (with_account_put m id f slot loaded)

-- ---- after an account's entry is put

abbrev slots : Option LedgerEntry → Option AccountSlot
slots o = slot_of account_kind account_slot o

slot_chosen : (b : Bool) (slot : AccountSlot) (o : Option LedgerEntry)
    → slots (cond b (Some (entry_of_account slot)) o) ≡ cond b (Some slot) (slots o)
slot_chosen true slot o = refl
slot_chosen false slot o = refl

slot_after : (m : EntryMap) (id : AccountId) (slot : AccountSlot)
    → account_slot_at (put m (entry_of_account slot)) id ≡ cond
    (eq_by_cmp key_cmp (key.Account id) (key.Account slot.account.account_id)) (Some slot) (account_slot_at m id)
slot_after m id slot =
    ap slots (get-insert keys_total m (key.Account slot.account.account_id) (entry_of_account slot)
    (key.Account id)) ∙ slot_chosen _ slot (get m (key.Account id))

abbrev After : EntryMap → AccountId → AccountSlot → AccountId → Type 0
After m id slot other =
    ((id ≡ other) × (account_at (put m (entry_of_account slot)) other ≡ Some slot.account))
    ⊎ ((id ≢ other) × (account_slot_at (put m (entry_of_account slot)) other ≡ account_slot_at m other))

after : (m : EntryMap) (id : AccountId) (slot : AccountSlot) (other : AccountId) → slot.account.account_id ≡ id
    → After m id slot other
after m id slot other named =
    elim (eq_by_cmp key_cmp (key.Account other) (key.Account slot.account.account_id)) as
    (λ b. eq_by_cmp key_cmp (key.Account other) (key.Account slot.account.account_id) ≡ b
    → account_slot_at (put m (entry_of_account slot)) other ≡ cond b (Some slot) (account_slot_at m other)
    → After m id slot other) [
      | true ↦ λ tied is.
          let same : key.Account other ≡ key.Account slot.account.account_id = same_keys _ _ tied in
          let ids : id ≡ other = cc in
          inl (ids, account_of_slot_at (put m (entry_of_account slot)) other ∙ ap account_of_slot is)
      | false ↦ λ apart is. inr (
        (λ same.
            let tied = ap (λ x. eq_by_cmp key_cmp (key.Account other) (key.Account x)) (named ∙ same)
            ∙ same_itself (key.Account other) in
            cc),
        is,
      )
    ] refl (slot_after m other slot)

account_after : (m : EntryMap) (slot : AccountSlot) (other : AccountId) → account_slot_at
    (put m (entry_of_account slot)) other ≡ account_slot_at m other
    → account_at (put m (entry_of_account slot)) other ≡ account_at m other
account_after m slot other is = account_of_slot_at (put m (entry_of_account slot)) other ∙ ap account_of_slot is
    ∙ sym (account_of_slot_at m other)

pub stored_others : (m : EntryMap) (id : AccountId) (slot : AccountSlot) → slot.account.account_id ≡ id
    → ChangesAtMost (Some id) m (put m (entry_of_account slot))
stored_others m id slot named = record {
  others = λ other apart. elim (after m id slot other named) [
    | inl here ↦ absurd (apart (ap Some here.0))
    | inr beside ↦ beside.1
  ];
}

pub stored_balances : (m : EntryMap) (id : AccountId) (slot : AccountSlot) → slot.account.account_id ≡ id
    → IsChangeOf m id slot.account → LeavesCore m (put m (entry_of_account slot))
stored_balances m id slot named change = record {
  kept = λ other was exists. elim (after m id slot other named) [
    | inl here ↦
        let at = sym (ap (account_at m) here.0) ∙ change.exists in
        let same : change.was ≡ was = cc in
        record {
          account = slot.account;
          exists = here.1;
          core = subst (λ a. KeepsCore a slot.account) same change.core;
        }
    | inr beside ↦ record {
      account = was;
      exists = account_after m slot other beside.1 ∙ exists;
      core = core_kept was;
    }
  ];
}

pub stored_kept : (m : EntryMap) (id : AccountId) (slot : AccountSlot) (count : Count) → slot.account.account_id ≡ id
    → IsChangeOf m id slot.account → IsChanged (KeepsOtherCounts count) m id slot.account
    → KeepsOthers count m (put m (entry_of_account slot))
stored_kept m id slot count named change keeps = record {
  kept = λ other counted differ. elim (after m id slot other named) [
    | inl here ↦
        ap (count_if counted) here.1 ∙ keeps change.was change.exists counted differ
        ∙ sym (ap (count_if counted) (sym (ap (account_at m) here.0) ∙ change.exists))
    | inr beside ↦ ap (count_if counted) (account_after m slot other beside.1)
  ];
}

pub stored_low : (m : EntryMap) (id : AccountId) (slot : AccountSlot) → slot.account.account_id ≡ id
    → IsChangeOf m id slot.account → IsChanged RaisesNoCount m id slot.account
    → RaisesNone m (put m (entry_of_account slot))
stored_low m id slot named change low = record {
  low = λ other counted. elim (after m id slot other named) [
    | inl here ↦
        let new = ap (count_if counted) here.1 in
        let old = ap (count_if counted) (sym (ap (account_at m) here.0) ∙ change.exists) in
        let le = low change.was change.exists counted in
        omega arith
    | inr beside ↦ let same = ap (count_if counted) (account_after m slot other beside.1) in omega arith
  ];
}

-- ---- after another change

pub put_balances : (m : EntryMap) (e : LedgerEntry) → LeavesOtherCores (key_of e) m (put m e)
unfolding account_at
put_balances m e = record {
  kept = λ id was apart exists. record {
    account = was;
    exists = ap account_of (put_elsewhere m e (key.Account id) apart) ∙ exists;
    core = core_kept was;
  };
}

pub erased_balances : (m : EntryMap) (k : LedgerKey) → LeavesOtherCores k m (erase m k)
unfolding account_at
erased_balances m k = record {
  kept = λ id was apart exists. record {
    account = was;
    exists = ap account_of (erase_elsewhere m k (key.Account id) apart) ∙ exists;
    core = core_kept was;
  };
}

pub erased_low : (m : EntryMap) (k : LedgerKey) → RaisesNone m (erase m k)
unfolding account_at
erased_low m k = record {
  low = λ id count.
      elim (eq_by_cmp key_cmp (key.Account id) k) as (λ b. get (erase m k) (key.Account id)
      ≡ cond b None (get m (key.Account id)) → count_at (erase m k) id count ≤ count_at m id count) [
        | true ↦ λ is. let none : count_at (erase m k) id count ≡ 0 = ap (λ o. count_if count (account_of o)) is in
            omega arith
        | false ↦ λ is. let same : count_at (erase m k) id count ≡ count_at m id count =
            ap (λ o. count_if count (account_of o)) is in omega arith
      ] (get-remove keys_total m k (key.Account id));
}

-- an entry that exists gets another sponsor
pub recorded_balances : (m : EntryMap) (k : LedgerKey) (e : LedgerEntry) (sponsor : Option AccountId) → get m k ≡ Some e
    → key_of e ≡ k → LeavesCore m (put m (with_sponsor sponsor e))
unfolding account_at
recorded_balances m k e sponsor there named = record {
  kept = λ id was exists.
      elim (eq_by_cmp key_cmp (key.Account id) (key_of e)) as
      (λ b. eq_by_cmp key_cmp (key.Account id) (key_of e) ≡ b → get (put m (with_sponsor sponsor e)) (key.Account id)
      ≡ cond b (Some (with_sponsor sponsor e)) (get m (key.Account id))
      → HasCore (put m (with_sponsor sponsor e)) id was) [
        | true ↦ λ tied is.
            let at : get m (key.Account id) ≡ Some e = ap (get m) (same_keys _ _ tied ∙ named) ∙ there in
            record {
              account = was;
              exists = ap account_of is ∙ sym (ap account_of at) ∙ exists;
              core = core_kept was;
            }
        | false ↦ λ differ is. record { account = was; exists = ap account_of is ∙ exists; core = core_kept was }
      ] refl (get-insert keys_total m (key_of e) (with_sponsor sponsor e) (key.Account id));
}

-- ---- changes in a row

pub raises_none_itself : (m : EntryMap) → RaisesNone m m
raises_none_itself m = record { low = λ id count. omega arith }

pub raises_none_both : (a b c : EntryMap) → RaisesNone a b → RaisesNone b c → RaisesNone a c
raises_none_both a b c first second = record {
  low = λ id count. omega
      (arith, first.low id count, second.low id count);
}

pub changes_nothing : (changed : Option AccountId) (m : EntryMap) → ChangesAtMost changed m m
changes_nothing changed m = record { others = λ other apart. refl }

pub leaves_itself : (m : EntryMap) → LeavesCore m m
leaves_itself m = record { kept = λ id was exists. record { account = was; exists = exists; core = core_kept was } }

has_core_on : (a b : EntryMap) (id : AccountId) (was : AccountEntry) → HasCore a id was
    → ((account : AccountEntry) → account_at a id ≡ Some account → HasCore b id account) → HasCore b id was
has_core_on a b id was first then =
    let second = then first.account first.exists in
    record {
      account = second.account;
      exists = second.exists;
      core = core_kept_twice was first.account second.account first.core second.core;
    }

pub leaves_both : (a b c : EntryMap) → LeavesCore a b → LeavesCore b c → LeavesCore a c
leaves_both a b c first second = record {
  kept = λ id was exists. has_core_on b c id was (first.kept id was exists)
      (second.kept id);
}

pub leaves_then_others : (k q : LedgerKey) (a b c : EntryMap) → q ≡ k → LeavesCore a b → LeavesOtherCores q b c
    → LeavesOtherCores k a c
leaves_then_others k q a b c same first second = record {
  kept = λ id was apart exists. has_core_on b c id was (first.kept id was exists)
      (λ account. second.kept id account (λ is. apart (is ∙ same)));
}

pub leaves_others : (k : LedgerKey) (a b : EntryMap) → LeavesCore a b → LeavesOtherCores k a b
leaves_others k a b leaves = record { kept = λ id was apart. leaves.kept id was }

-- ---- offers stay where accounts change

module _ (seller : AccountId) (id : ℤ) where
  abbrev offer_key : LedgerKey
  offer_key = key.Offer seller id

  offer_beside : (m : EntryMap) (account : AccountId) (f : AccountEntry → AccountEntry)
      → get (with_account m account f) offer_key ≡ get m offer_key
  unfolding with_account
  offer_beside m account f =
      with_beside accounts_exact m (key.Account account) f offer_key (λ a exists same. absurd (cc))

  offer_released : (k : ℕ) (sponsor : Option AccountId) (m : EntryMap)
      → get (map_after_releasing k sponsor m) offer_key ≡ get m offer_key
  offer_released k None m = refl
  offer_released k (Some sponsor) m = offer_beside m sponsor (with_less Sponsoring k)

  pub offer_uncharged : (c : Charge) (sponsor : Option AccountId) (m : EntryMap)
      → get (map_without_charge c sponsor m) offer_key ≡ get m offer_key
  offer_uncharged (charge.Itself owner) sponsor m = offer_released 2 sponsor m
  offer_uncharged (charge.Subentry owner k) sponsor m =
      offer_beside (map_after_releasing k sponsor m) owner (without_subentry k sponsor) ∙ offer_released k sponsor m
  offer_uncharged (charge.Payer k) sponsor m = offer_released k sponsor m
  offer_uncharged charge.Nobody sponsor m = refl

-- an offer that was found is there when its charge is gone
pub offer_still : (m now : EntryMap) (k : LedgerKey) (e : LedgerEntry) (o : OfferEntry) (c : Charge)
    (sponsor : Option AccountId) → now ≡ map_without_charge c sponsor m → get m k ≡ Some e → key_of e ≡ k
    → e.body ≡ body.Offer o → offer_of (get now k) ≡ Some o
offer_still m now k e o c sponsor is found own is_offer =
    let here : key.Offer o.seller_id o.offer_id ≡ k = sym (ap key_of_body is_offer) ∙ own in
    ap (λ n. offer_of (get n k)) is
    ∙ ap (λ q. offer_of (get (map_without_charge c sponsor m) q)) (sym here)
    ∙ ap offer_of (offer_uncharged o.seller_id o.offer_id c sponsor m ∙ ap (get m) here ∙ found)
    ∙ ap offer_in is_offer
