-- Others pay at most an account's own two reserves and one for each subentry, so its minimum balance isn't below 0.
use Rattle.legal_rules.proofs.Prelude as prelude
use prelude.{◌≡◌, refl, sym, ap, subst, ◌∙◌, ℕ, ◌+◌, ◌-◌, ◌*◌, ◌≤◌, Bool, true, false, length, Option, Some, None}
use prelude.{arith, ints, count_by-le-length, ℤ, pos, ◌+ℤ◌, ◌-ℤ◌, ◌*ℤ◌, ◌≤ℤ◌, if◌then◌else◌, count_by, get, AccountId}
use prelude.{AccountEntry, LedgerEntry, LedgerEntryBody, LedgerKey, key_of, key_of_body, EntryMap, account_at}
use prelude.{account_liabilities, num_sponsoring, num_sponsored, sponsor_of, min_balance, available, multiplicity}
use prelude.{owner_of, is_there, signer_sponsors, Weight, total, part, EachEntry, total_plus, total_only, total_at_most}
use prelude.{is_key, for_account, subentries_in, signer_sponsors_in, Kind, Subentries, Sponsored, View, counted, stated}
use prelude.{stated_at, IsBodyInRange, IsAccountInRange, Owed, IsEntryLegal, IsLegalOwing, apart_keys}
use Rattle.hash_ids.specs.ledger_types.declared.entry.LedgerEntryBody.TheVariants as body
use Rattle.hash_ids.specs.ledger_types.declared.key.LedgerKey.TheVariants as key
use Rattle.legal_rules.proofs.Weighing.{total_of}
use Rattle.legal_rules.proofs.Steps.{account_entry}

-- two reserves of an account itself
abbrev own_two : LedgerKey → Weight
own_two k e = if is_key (key_of e) k then pos 2 else pos 0

at_most_two : (b : Bool) → (if b then 2 else 0) ≤ 2
at_most_two true = omega arith
at_most_two false = omega arith

-- what others pay of an account and its signers
few_for_account : (id_pool : ℕ) (k : LedgerKey) (e : LedgerEntry) (a : AccountEntry) → e.body ≡ body.Account a
    → IsEntryLegal id_pool e
    → (if is_there (sponsor_of e) then 2 else 0) + count_by is_there (signer_sponsors a) ≤ length a.signers + 2
few_for_account id_pool k e a is range =
    let mine : IsAccountInRange a = subst (IsBodyInRange id_pool) is range.range.body in
    let le = count_by-le-length is_there (signer_sponsors a) in
    let items = mine.signers.items in
    let two = at_most_two (is_there (sponsor_of e)) in
    omega arith

both_or_none : (b : Bool) (few many : ℕ) → few ≤ many + 2
    → (if b then pos few else pos 0) ≤ℤ ((if b then pos many else pos 0) +ℤ (if b then pos 2 else pos 0))
both_or_none true few many le = omega (arith, ints)
both_or_none false few many le = omega (arith, ints)

paid_or_not : (b : Bool) (n : ℕ) → (if b then n else 0) + 0 ≤ n
paid_or_not true n = omega arith
paid_or_not false n = omega arith

no_more_for : (t : Bool) (few many : ℕ) (more : ℤ) → few ≤ many → pos 0 ≤ℤ more
    → (if t then pos few else pos 0) ≤ℤ ((if t then pos many else pos 0) +ℤ more)
no_more_for true few many more le low = omega (arith, ints)
no_more_for false few many more le low = omega (arith, ints)

low_sum : (more : ℤ) → pos 0 ≤ℤ more → pos 0 ≤ℤ (pos 0 +ℤ more)
low_sum more low = omega (arith, ints)

two_high : (t : Bool) → (if t then pos 2 else pos 0) ≤ℤ pos 2
two_high true = omega (arith, ints)
two_high false = omega (arith, ints)

two_low : (t : Bool) → pos 0 ≤ℤ (if t then pos 2 else pos 0)
two_low true = omega (arith, ints)
two_low false = omega (arith, ints)

sponsored_few : (id_pool : ℕ) (v : View) (k : LedgerKey) (e : LedgerEntry) (b : LedgerEntryBody) → e.body ≡ b
    → IsEntryLegal id_pool e
    → for_account k (owner_of b) ((if is_there (sponsor_of e) then multiplicity b else 0) + count_by is_there
    (signer_sponsors_in b)) ≤ℤ (for_account k (owner_of b) (subentries_in b) +ℤ
    (if is_key (key_of_body b) k then pos 2 else pos 0))
sponsored_few id_pool v k e (body.Account a) is range = both_or_none (is_key (key.Account a.account_id) k) _ _
    (few_for_account id_pool k e a is range)
sponsored_few id_pool v k e (body.ClaimableBalance balance) is range = low_sum _
    (two_low (is_key (key.ClaimableBalance balance.balance_id) k))
sponsored_few id_pool v k e (body.LiquidityPool pool) is range = low_sum _
    (two_low (is_key (key.LiquidityPool pool.pool_id) k))
sponsored_few id_pool v k e (body.TrustLine line) is range = no_more_for
    (is_key (key.Account line.account_id) k) _ _ _ (paid_or_not (is_there (sponsor_of e)) _)
    (two_low (is_key (key_of_body (body.TrustLine line)) k))
sponsored_few id_pool v k e (body.Offer offer) is range = no_more_for (is_key (key.Account offer.seller_id) k) _ _ _
    (paid_or_not (is_there (sponsor_of e)) _) (two_low (is_key (key_of_body (body.Offer offer)) k))
sponsored_few id_pool v k e (body.Data entry) is range = no_more_for (is_key (key.Account entry.account_id) k) _ _ _
    (paid_or_not (is_there (sponsor_of e)) _) (two_low (is_key (key_of_body (body.Data entry)) k))

-- the two of the account under a key
total_two : (m : EntryMap) (k : LedgerKey) → EachEntry (λ q e. key_of e ≡ q) m → total (own_two k) m ≤ℤ pos 2
total_two m k keyed = subst (λ n. n ≤ℤ pos 2) (sym (total_only (own_two k) m k
    (λ q e there apart. ap (λ b. if b then pos 2 else pos 0)
    (apart_keys (key_of e) k (λ same. apart (sym (keyed q e there) ∙ same)))))) (part_two (get m k))
  where
    part_two : (o : Option LedgerEntry) → part (own_two k) o ≤ℤ pos 2
    part_two None = omega (arith, ints)
    part_two (Some e) = two_high (is_key (key_of e) k)

stated_few : (sponsored subs two all_sponsored all_subs all_two owes more : ℤ) → all_sponsored ≤ℤ all_two
    → all_two ≡ (all_subs +ℤ two) → two ≤ℤ pos 2
    → all_sponsored ≡ (more +ℤ sponsored) → all_subs ≡ (owes +ℤ subs) → owes ≤ℤ more → sponsored ≤ℤ (subs +ℤ pos 2)
stated_few sponsored subs two all_sponsored all_subs all_two owes more le is few sum also none = omega (arith, ints)

pub sponsored_at_most : (v : View) (id_pool : ℕ) (owed : Owed) (lumens : ℤ) (m : EntryMap) (k : LedgerKey)
    → IsLegalOwing v id_pool owed lumens m → owed Subentries k ≤ℤ owed Sponsored k
    → stated_at Sponsored (get m k) ≤ℤ (stated_at Subentries (get m k) +ℤ pos 2)
sponsored_at_most v id_pool owed lumens m k legal none = stated_few (stated_at Sponsored (get m k))
    (stated_at Subentries (get m k)) _ _ _ _ (owed Subentries k) (owed Sponsored k)
    (total_at_most (counted v Sponsored k) (λ e. counted v Subentries k e +ℤ own_two k e) m
    (λ q e there. sponsored_few id_pool v k e e.body refl (legal.entries q e there)))
    (total_plus (λ e. counted v Subentries k e +ℤ own_two k e) (counted v Subentries k) (own_two k) m (λ e. refl))
    (total_two m k legal.keyed)
    (total_of v (IsEntryLegal id_pool) owed lumens m legal Sponsored k)
    (total_of v (IsEntryLegal id_pool) owed lumens m legal Subentries k) none

pub account_states : (m : EntryMap) (id : AccountId) (a : AccountEntry) (kind : Kind) → account_at m id ≡ Some a
    → stated_at kind (get m (key.Account id)) ≡ stated kind (body.Account a)
account_states m id a kind exists = let found = account_entry m id a exists in ap (stated_at kind) found.1.there
    ∙ ap (stated kind) found.1.is

pub minimum_low : (subs sponsoring sponsored base : ℕ) → pos sponsored ≤ℤ (pos subs +ℤ pos 2)
    → pos 0 ≤ℤ ((pos (2 + subs + sponsoring) -ℤ pos sponsored) *ℤ pos base)
minimum_low subs sponsoring sponsored base le = subst (λ (x : ℤ). pos 0 ≤ℤ (x *ℤ pos base))
    (natural_of subs sponsoring sponsored le) (natural_low ((2 + subs + sponsoring - sponsored) * base))
  where
    natural_low : (n : ℕ) → pos 0 ≤ℤ pos n
    natural_low n = omega (arith, ints)

    natural_of : (subs sponsoring sponsored : ℕ) → pos sponsored ≤ℤ (pos subs +ℤ pos 2)
        → pos (2 + subs + sponsoring - sponsored) ≡ (pos (2 + subs + sponsoring) -ℤ pos sponsored)
    natural_of subs sponsoring sponsored le = omega (arith, ints)

spendable : (balance least selling amount : ℤ) → pos 0 ≤ℤ least → pos 0 ≤ℤ selling
    → amount ≤ℤ (balance -ℤ least -ℤ selling) → amount ≤ℤ balance
spendable balance least selling amount low also le = omega (arith, ints)

-- what an account can spend is at most its balance
-- what has to be kept is at least nothing
pub minimum_not_below : (v : View) (id_pool : ℕ) (owed : Owed) (lumens : ℤ) (m : EntryMap) (id : AccountId)
    (a : AccountEntry) (base_reserve : ℕ) → IsLegalOwing v id_pool owed lumens m
    → owed Subentries (key.Account id) ≤ℤ owed Sponsored (key.Account id) → account_at m id ≡ Some a
    → pos 0 ≤ℤ min_balance a base_reserve
minimum_not_below v id_pool owed lumens m id a base_reserve legal none exists =
    let few = sponsored_at_most v id_pool owed lumens m (key.Account id) legal none in
    let sponsored = account_states m id a Sponsored exists in
    let subs = account_states m id a Subentries exists in
    minimum_low a.num_sub_entries (num_sponsoring a) (num_sponsored a) base_reserve (few_of _ _ _ _ sponsored subs few)
  where
    few_of : (stated_sponsored stated_subs sponsored subs : ℤ) → stated_sponsored ≡ sponsored → stated_subs ≡ subs
        → stated_sponsored ≤ℤ (stated_subs +ℤ pos 2) → sponsored ≤ℤ (subs +ℤ pos 2)
    few_of stated_sponsored stated_subs sponsored subs is also few = omega (arith, ints)

pub not_above_balance : (v : View) (id_pool : ℕ) (owed : Owed) (lumens : ℤ) (m : EntryMap) (id : AccountId)
    (a : AccountEntry) (base_reserve : ℕ) (amount : ℤ) → IsLegalOwing v id_pool owed lumens m
    → owed Subentries (key.Account id) ≤ℤ owed Sponsored (key.Account id) → account_at m id ≡ Some a
    → amount ≤ℤ available a base_reserve → amount ≤ℤ a.balance
not_above_balance v id_pool owed lumens m id a base_reserve amount legal none exists le =
    let found = account_entry m id a exists in
    let range : IsAccountInRange a = subst (IsBodyInRange id_pool) found.1.is
    (legal.entries (key.Account id) found.0 found.1.there).range.body in
    spendable a.balance (min_balance a base_reserve) (account_liabilities a).selling amount
    (minimum_not_below v id_pool owed lumens m id a base_reserve legal none exists) range.range.selling le
