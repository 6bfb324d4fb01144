-- An account that is removed, and whose lumens go to another one.
use Rattle.legal_rules.proofs.Prelude as prelude
use prelude.{◌≡◌, ◌≢◌, refl, sym, ap, subst, ◌∙◌, ℕ, ◌≤◌, Bool, true, false, [], length, Option, Some, None, arith}
use prelude.{ints, ℤ, pos, neg_ℤ, ◌+ℤ◌, ◌-ℤ◌, ◌≤ℤ◌, if◌then◌else◌, get, AccountId, Asset, AccountEntry, LedgerEntry}
use prelude.{LedgerEntryBody, LedgerKey, key_of_body, EntryMap, erase, same_itself, account_at, account_liabilities}
use prelude.{num_sponsoring, num_sponsored, sponsor_of, charge_of, owner_of, map_after_releasing, is_same_account}
use prelude.{map_without_charge, map_after_removing, map_after_removing_entry, signer_sponsors, total, part, EachEntry}
use prelude.{part_at_most, total_only, is_key, for_key, for_account, subentries_in, sponsored_in_entry, for_each}
use prelude.{holder, sells, buys, Kind, Subentries, Sponsoring, Sponsored, Selling, Buying, View, counted, stated}
use prelude.{stated_at, lumens_of, view, pools_in, weight, Owed, nothing_owed, IsEntryLegal, IsLegalOwing, MergesKeep}
use prelude.{apart_keys, add_zero, sub_if_zero, counts_once, nil_from_length}
use Rattle.hash_ids.specs.ledger_types.declared.asset.Asset.TheVariants as asset
use Rattle.hash_ids.specs.ledger_types.declared.asset.TrustLineAsset.TheVariants as line
use Rattle.hash_ids.specs.ledger_types.declared.entry.LedgerEntryBody.TheVariants as body
use Rattle.hash_ids.specs.ledger_types.declared.key.LedgerKey.TheVariants as key
use Rattle.legal_rules.proofs.Lows.{counted_low}
use Rattle.legal_rules.proofs.Weighing.{total_of}
use Rattle.legal_rules.proofs.Legality.{owing_nothing, legal_of}
use Rattle.legal_rules.proofs.Steps.{with_body, account_entry, body_there, same_id_at, legal_as}
use Rattle.legal_rules.proofs.Bounded.{account_legal}
use Rattle.legal_rules.proofs.Paid.{paid_legal}
use Rattle.legal_rules.proofs.Payers.{beside_none, exchanged}
use Rattle.legal_rules.proofs.PaidFor.{nothing_settled, payer_has}
use Rattle.legal_rules.proofs.Putting.{erase_legal}
use Rattle.legal_rules.proofs.Sponsors.{payer_aggregates}

-- ---- what a sum of 0 shows

is_zero : (n all owes states : ℤ) → pos 0 ≤ℤ n → n ≤ℤ all → all ≡ (owes +ℤ states) → owes ≡ pos 0 → states ≡ pos 0
    → n ≡ pos 0
is_zero n all owes states low le is settled none = omega (arith, ints)

no_choice : (t : Bool) (n : ℤ) → t ≡ false → (if t then n else pos 0) ≡ pos 0
no_choice true n is = absurd (cc)
no_choice false n is = refl

not_counted : (t : Bool) (n : ℕ) → 1 ≤ n → (if t then pos n else pos 0) ≡ pos 0 → t ≡ false
not_counted true n some none = absurd (omega (arith, ints))
not_counted false n some none = refl

module _ (v : View) (id_pool : ℕ) (lumens : ℤ) (m : EntryMap)
    (legal : IsLegalOwing v id_pool nothing_owed lumens m) where
  -- where an entry states nothing, nothing counts for it
  pub nothing_counts : (kind : Kind) (k : LedgerKey) → stated_at kind (get m k) ≡ pos 0
      → EachEntry (λ q x. counted v kind k x ≡ pos 0) m
  nothing_counts kind k none q x there = is_zero (counted v kind k x) (total (counted v kind k) m) (pos 0) _
      (counted_low id_pool v kind k x (legal.entries q x there).range)
      (part_at_most (counted v kind k) m q x (λ r y at. counted_low id_pool v kind k y (legal.entries r y at).range)
      there)
      (total_of v (IsEntryLegal id_pool) nothing_owed lumens m legal kind k) refl none

  settles : (counts states all : ℤ) → all ≡ (pos 0 +ℤ states) → all ≡ counts → (counts -ℤ states) ≡ pos 0
  settles counts states all is only = omega (arith, ints)

  -- for which no other entry counts anything states what it counts for itself
  alone_settled : (kind : Kind) (k : LedgerKey) (e : LedgerEntry) → get m k ≡ Some e
      → EachEntry (λ q x. q ≢ k → counted v kind k x ≡ pos 0) m → (counted v kind k e -ℤ stated kind e.body) ≡ pos 0
  alone_settled kind k e there alone = settles (counted v kind k e) (stated kind e.body) (total (counted v kind k) m)
      (total_of v (IsEntryLegal id_pool) nothing_owed lumens m legal kind k ∙ ap (λ o. pos 0 +ℤ stated_at kind o) there)
      (total_only (counted v kind k) m k alone ∙ ap (part (counted v kind k)) there)

-- ---- an account without subentries

-- an entry that is no subentry of an account is sponsored for another one
module _ (id : AccountId) (v : View) where
  abbrev own : LedgerKey
  own = key.Account id

  sponsored_for_none : (e : LedgerEntry) (b : LedgerEntryBody) → key_of_body b ≢ own
      → for_account own (owner_of b) (subentries_in b) ≡ pos 0 → (n : ℕ) → for_account own (owner_of b) n ≡ pos 0
  sponsored_for_none e (body.Account a) apart none n = no_choice _ (pos n)
      (apart_keys (key.Account a.account_id) own apart)
  sponsored_for_none e (body.TrustLine t) apart none n =
      no_choice _ (pos n) (not_counted _ _ (counts_once t.asset) none)
  sponsored_for_none e (body.Offer offer) apart none n = no_choice _ (pos n) (not_counted _ 1 (omega arith) none)
  sponsored_for_none e (body.Data entry) apart none n = no_choice _ (pos n) (not_counted _ 1 (omega arith) none)
  sponsored_for_none e other apart none n = refl

  -- an asset of an account's own entry is its lumens
  held_by_none : (seller : AccountId) (a : Asset) (n : ℤ) → for_account own (Some seller) 1 ≡ pos 0
      → for_key own (holder seller a) n ≡ pos 0
  held_by_none seller asset.Native n none = no_choice _ n (not_counted _ 1 (omega arith) none)
  held_by_none seller (asset.Alphanum4 code issuer) n none = elim (is_same_account issuer seller) as
      (λ b. for_key own (if b then None else Some (key.TrustLine seller (line.Alphanum4 code issuer))) n ≡ pos 0)
      [ true ↦ refl | false ↦ refl ]
  held_by_none seller (asset.Alphanum12 code issuer) n none = elim (is_same_account issuer seller) as
      (λ b. for_key own (if b then None else Some (key.TrustLine seller (line.Alphanum12 code issuer))) n ≡ pos 0)
      [ true ↦ refl | false ↦ refl ]

  sells_none : (b : LedgerEntryBody) → for_account own (owner_of b) (subentries_in b) ≡ pos 0 → sells own b ≡ pos 0
  sells_none (body.Offer offer) none = held_by_none offer.seller_id offer.selling _ none
  sells_none other none = refl

  buys_none : (b : LedgerEntryBody) → for_account own (owner_of b) (subentries_in b) ≡ pos 0 → buys own b ≡ pos 0
  buys_none (body.Offer offer) none = held_by_none offer.seller_id offer.buying _ none
  buys_none other none = refl

-- ---- what it counts and states itself

same_choice : (t : Bool) (c s : ℤ) → (c -ℤ s) ≡ pos 0 → ((if t then c else pos 0) -ℤ (if t then s else pos 0)) ≡ pos 0
same_choice true c s none = none
same_choice false c s none = refl

states_none : (s : ℤ) → (pos 0 -ℤ s) ≡ pos 0 → s ≡ pos 0
states_none s none = omega (arith, ints)

counts_none : (n : ℕ) (t : Bool) → t ≡ true → (if t then pos n else pos 0) ≡ pos 0 → n ≡ 0
counts_none n true is none = omega (arith, ints)
counts_none n false is none = absurd (cc)

abbrev beside_sponsoring : Owed → Owed
beside_sponsoring owed Sponsoring q = pos 0
beside_sponsoring owed kind q = owed kind q

no_payer : (o : Option AccountId) (kind : Kind) (q : LedgerKey)
    → pos 0 ≡ (beside_sponsoring (payer_aggregates 2 o) kind q)
no_payer None Sponsoring q = refl
no_payer None kind q = refl
no_payer (Some sponsor) Sponsoring q = refl
no_payer (Some sponsor) kind q = refl

by_payer : (o : Option AccountId) (q : LedgerKey) → (for_account q o 2 +ℤ pos 0) ≡ payer_aggregates 2 o Sponsoring q
by_payer None q = refl
by_payer (Some sponsor) q = add_zero (for_account q (Some sponsor) 2)

module _ (v : View) (id_pool : ℕ) (lumens : ℤ) (m : EntryMap) (legal : IsLegalOwing v id_pool nothing_owed lumens m)
    (x : LedgerEntry) (a : AccountEntry)
    (there : get m (key.Account a.account_id) ≡ Some (with_body x a)) (subs : a.num_sub_entries ≡ 0)
    (pays : num_sponsoring a ≡ 0) where
  abbrev e : LedgerEntry
  e = with_body x a

  abbrev its_key : LedgerKey
  its_key = key.Account a.account_id

  range : IsEntryLegal id_pool e
  range = legal.entries its_key e there

  no_subentries : EachEntry (λ q y. counted v Subentries its_key y ≡ pos 0) m
  no_subentries = nothing_counts v id_pool lumens m legal Subentries its_key
      (ap (stated_at Subentries) there ∙ ap pos subs)

  unsigned : length a.signers ≡ 0
  unsigned = counts_none (length a.signers) (is_key its_key its_key) (same_itself its_key)
      (no_subentries its_key e there)

  no_sponsors : signer_sponsors a ≡ []
  no_sponsors = nil_from_length _ (range.range.body.signers.items ∙ unsigned)

  sponsored_settled : (counted v Sponsored its_key e -ℤ pos (num_sponsored a)) ≡ pos 0
  sponsored_settled = alone_settled v id_pool lumens m legal Sponsored its_key e there
      (λ q y at apart. sponsored_for_none a.account_id v y y.body (λ same. apart (sym (legal.keyed q y at) ∙ same))
      (no_subentries q y at) (sponsored_in_entry y))

  selling_none : (account_liabilities a).selling ≡ pos 0
  selling_none = states_none _ (alone_settled v id_pool lumens m legal Selling its_key e there
      (λ q y at apart. sells_none a.account_id v y.body (no_subentries q y at)))

  buying_none : (account_liabilities a).buying ≡ pos 0
  buying_none = states_none _ (alone_settled v id_pool lumens m legal Buying its_key e there
      (λ q y at apart. buys_none a.account_id v y.body (no_subentries q y at)))

  sponsored_at : (t : Bool) → t ≡ true → (c : ℕ) (s : ℤ) → ((if t then pos c else pos 0) -ℤ s) ≡ pos 0
      → (pos c -ℤ s) ≡ pos 0
  sponsored_at true is c s none = none
  sponsored_at false is c s none = absurd (cc)

  -- it leaves open what its payer pays
  weighs : (kind : Kind) (q : LedgerKey) → weight v kind q e ≡ payer_aggregates 2 (sponsor_of e) kind q
  weighs Subentries q = same_choice (is_key its_key q) (pos (length a.signers)) (pos a.num_sub_entries)
      (ap (λ n. pos n -ℤ pos a.num_sub_entries) unsigned ∙ ap (λ n. pos 0 -ℤ pos n) subs)
      ∙ no_payer (sponsor_of e) Subentries q
  weighs Sponsored q = same_choice (is_key its_key q) (pos (sponsored_in_entry e)) (pos (num_sponsored a))
      (sponsored_at (is_key its_key its_key) (same_itself its_key) (sponsored_in_entry e)
      (pos (num_sponsored a)) sponsored_settled) ∙ no_payer (sponsor_of e) Sponsored q
  weighs Sponsoring q = sub_if_zero (is_key its_key q) (counted v Sponsoring q e) (pos (num_sponsoring a)) (ap pos pays)
      ∙ ap (λ ids. for_account q (sponsor_of e) 2 +ℤ for_each q ids) no_sponsors ∙ by_payer (sponsor_of e) q
  weighs Selling q = sub_if_zero (is_key its_key q) (pos 0) (account_liabilities a).selling selling_none
      ∙ no_payer (sponsor_of e) Selling q
  weighs Buying q = sub_if_zero (is_key its_key q) (pos 0) (account_liabilities a).buying buying_none
      ∙ no_payer (sponsor_of e) Buying q
  weighs kind q = sub_if_zero (is_key its_key q) (pos 0) (pos 0) refl ∙ no_payer (sponsor_of e) kind q

-- ---- an account that is removed

counts_two : (t : Bool) → t ≡ true → pos 2 ≤ℤ ((if t then pos 2 else pos 0) +ℤ pos 0)
counts_two true is = omega (arith, ints)
counts_two false is = absurd (cc)

settled_with : (w p : ℤ) → w ≡ p → (((pos 0 +ℤ p) +ℤ neg_ℤ (pos 0)) +ℤ neg_ℤ w) ≡ pos 0
settled_with w p is = omega (arith, ints)

module _ (v : View) (id_pool : ℕ) (lumens : ℤ) (m : EntryMap) (legal : IsLegalOwing v id_pool nothing_owed lumens m)
    (x : LedgerEntry) (a : AccountEntry)
    (there : get m (key.Account a.account_id) ≡ Some (with_body x a)) (subs : a.num_sub_entries ≡ 0)
    (pays : num_sponsoring a ≡ 0) where
  abbrev IsLegalNow : EntryMap → Type 0
  IsLegalNow new = IsLegalOwing v id_pool nothing_owed (lumens +ℤ neg_ℤ (lumens_of v.asset a.balance)) new

  apart : (s : AccountId) → sponsor_of x ≡ Some s → key.Account a.account_id ≢ key.Account s
  apart s is same = (legal.entries (key.Account a.account_id) (with_body x a) there).range.paid
      (λ no. absurd (cc)) (is ∙ ap Some (same_account_of same))
    where
      same_account_of : {i j : AccountId} → key.Account j ≡ key.Account i → i ≡ j
      same_account_of same = cc

  without : IsLegalNow (erase (map_after_releasing 2 (sponsor_of x) m) (key.Account a.account_id))
  without =
      let s = sponsor_of x in
      let k = key.Account a.account_id in
      let e1 = with_body x a in
      let now = map_after_releasing 2 s m in
      let changed = exchanged v id_pool lumens 2 s None nothing_owed m legal
      (payer_has v id_pool nothing_owed lumens m legal nothing_settled k e1 there 2 refl (omega arith))
      (λ y no. absurd (cc)) in
      let still : get now k ≡ Some e1 = changed.others k (λ y is. apart y is) (beside_none k) ∙ there in
      legal_as v (IsEntryLegal id_pool) _ nothing_owed _ _ (erase now k)
      (erase_legal v (IsEntryLegal id_pool) _ lumens now changed.legal k e1 still (λ q same. absurd (cc)))
      (λ kind q. settled_with (weight v kind q e1) (payer_aggregates 2 s kind q)
      (weighs v id_pool lumens m legal x a there subs pays kind q)) refl

pub removed_account : (v : View) (id_pool : ℕ) (lumens : ℤ) (m : EntryMap) (id : AccountId) (a : AccountEntry)
    → IsLegalOwing v id_pool nothing_owed lumens m → account_at m id ≡ Some a
    → a.num_sub_entries ≡ 0 → num_sponsoring a ≡ 0 → IsLegalOwing v id_pool nothing_owed
    (lumens +ℤ neg_ℤ (lumens_of v.asset a.balance)) (map_after_removing (key.Account id) m)
removed_account v id_pool lumens m id a legal exists subs pays =
    let found = account_entry m id a exists in
    let same = same_id_at m id a legal.keyed exists in
    let there : get m (key.Account a.account_id) ≡ Some (with_body found.0 a) = ap (λ i. get m (key.Account i)) same
    ∙ body_there m id a found.0 found.1 in
    subst (IsLegalOwing v id_pool nothing_owed (lumens +ℤ neg_ℤ (lumens_of v.asset a.balance)))
    (ap (λ i. erase (map_after_releasing 2 (sponsor_of found.0) m) (key.Account i)) same
    ∙ ap (λ b. erase (map_without_charge (charge_of b) (sponsor_of found.0) m) (key.Account id)) (sym found.1.is)
    ∙ ap (map_after_removing_entry (key.Account id) m) (sym found.1.there))
    (without v id_pool lumens m legal found.0 a there subs pays)

pub merges_keep : MergesKeep
merges_keep h m id destination a b legal exists subs pays there room =
    let coins = h.total_coins -ℤ h.fee_pool in
    let start = owing_nothing h m legal in
    let removed = removed_account (view m) h.id_pool coins m id a start exists subs pays in
    let low = credit_low b.balance a.balance (account_legal (view m) h.id_pool nothing_owed (coins +ℤ neg_ℤ a.balance)
    (map_after_removing (key.Account id) m) destination b removed there).range.range.balance
    (account_legal (view m) h.id_pool nothing_owed coins m id a start exists).range.range.balance in
    legal_of h (pools_in m) _ legal.header (legal_as (view m)
    (IsEntryLegal h.id_pool) nothing_owed nothing_owed _ coins _
    (paid_legal (view m) h.id_pool nothing_owed (coins +ℤ neg_ℤ a.balance)
    (map_after_removing (key.Account id) m) destination a.balance b removed there low room) (λ kind k. refl)
    (back_again coins a.balance))
  where
    credit_low : (balance amount : ℤ) → pos 0 ≤ℤ balance → pos 0 ≤ℤ amount → pos 0 ≤ℤ (balance +ℤ amount)
    credit_low balance amount low also = omega (arith, ints)

    back_again : (a b : ℤ) → ((a +ℤ neg_ℤ b) +ℤ b) ≡ a
    back_again a b = omega (arith, ints)
