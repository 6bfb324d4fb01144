-- The first states of ledgers.
use Rattle.legal_rules.proofs.Prelude as prelude
use prelude.{◌≡◌, ◌≢◌, refl, sym, ap, subst, ◌∙◌, ℕ, ◌+◌, ◌≤◌, Bool, true, false, cond, List, [], ◌∷◌, length, map}
use prelude.{◌++◌, All, Option, Some, None, arith, ints, length-filter, All-head, All-tail, eq_by_cmp, flat_map}
use prelude.{LedgerEntryBody, key_of_body, sponsor_of, owner_of, signer_sponsors_in, account_keys, holding_keys}
use prelude.{IsPaidRightly, ℤ, pos, ◌+ℤ◌, ◌-ℤ◌, if◌then◌else◌, count_by, filter, get, empty, get-empty, AccountId}
use prelude.{Signer, AccountEntry, LedgerEntry, LedgerKey, key_of, key_cmp, put, same_itself, is_there, Weight, total}
use prelude.{part, EachEntry, put_each, total_put, total_none, is_key, is_for, Kind, Subentries, Sponsoring, Sponsored}
use prelude.{Selling, Buying, View, counted, stated_at, held, offer_with, offer_with_in, IsAccountInRange, view}
use prelude.{pools_in, IsAggregated, weight, IsEntryLegal, put_get, put_there, zero_at_most_one, same_keys}
use Rattle.legal_rules.specs.FirstStates.{LoneEntries}
use Rattle.legal_rules.proofs.Subentries.{paid_not_by_owner}
use Rattle.hash_ids.specs.ledger_types.declared.asset.Asset.TheVariants as asset
use Rattle.hash_ids.specs.ledger_types.declared.entry.LedgerEntryBody.TheVariants as body
use Rattle.hash_ids.specs.ledger_types.declared.key.LedgerKey.TheVariants as key
use Rattle.legal_rules.specs.FirstStates.{IsPlainAccount, PlainStatesAreLegal, new_account, GenesisIsLegal}
use Rattle.legal_rules.specs.FirstStates.{LoneAccounts}
use Rattle.legal_rules.proofs.Legality.{legal_of}
use Rattle.legal_rules.proofs.Numbers.{taken_off, nothing_less}

-- ---- plain accounts

pub filter_of_no_sponsors : (p : Option AccountId → Bool) (signers : List Signer) → p None ≡ false
    → filter p (map (λ signer. None) signers) ≡ []
filter_of_no_sponsors p [] none = refl
filter_of_no_sponsors p (x ∷ xs) none = ap (λ b. cond b (None ∷ filter p (map (λ signer. None) xs))
    (filter p (map (λ signer. None) xs))) none ∙ filter_of_no_sponsors p xs none

pub count_of_no_sponsors : (p : Option AccountId → Bool) (signers : List Signer) → p None ≡ false
    → count_by p (map (λ signer. None) signers) ≡ 0
count_of_no_sponsors p signers none = sym (length-filter p (map (λ signer. None) signers))
    ∙ ap length (filter_of_no_sponsors p signers none)

same_less : (t : Bool) (n : ℕ) → ((if t then pos n else pos 0) -ℤ (if t then pos n else pos 0)) ≡ pos 0
same_less true n = omega (arith, ints)
same_less false n = refl

none_less : (t : Bool) (n : ℕ) → n ≡ 0 → ((if t then pos (0 + n) else pos 0) -ℤ (if t then pos 0 else pos 0)) ≡ pos 0
none_less true n none = omega (arith, ints)
none_less false n none = refl

zero_natural_states_none : (t : Bool) (n : ℕ) → n ≡ 0 → ((pos 0 +ℤ pos n) -ℤ (if t then pos 0 else pos 0)) ≡ pos 0
zero_natural_states_none true n none = omega (arith, ints)
zero_natural_states_none false n none = omega (arith, ints)

module _ (v : View) (e : LedgerEntry) (p : IsPlainAccount e) where
  abbrev a : AccountEntry
  a = p.account

  abbrev plain : LedgerEntry
  plain = record e { body = body.Account (record a { num_sub_entries = length a.signers; ext = None }); ext = None }

  plain_weighs : (kind : Kind) (k : LedgerKey) → weight v kind k plain ≡ pos 0
  plain_weighs Subentries k = same_less (is_key (key.Account a.account_id) k) (length a.signers)
  plain_weighs Sponsored k =
      none_less (is_key (key.Account a.account_id) k) _ (count_of_no_sponsors is_there a.signers refl)
  plain_weighs Sponsoring k =
      zero_natural_states_none (is_key (key.Account a.account_id) k) _ (count_of_no_sponsors (is_for k) a.signers refl)
  plain_weighs kind k = nothing_less (is_key (key.Account a.account_id) k)

  is_plain : e ≡ plain
  is_plain = (λ i. record e { body = p.is i; ext = p.unsponsored i })
      ∙ (λ i. record e {
        body = body.Account (record a { num_sub_entries = p.subentries i; ext = p.unbound i });
        ext =
            None;
      })

  pub weighs_nothing : (kind : Kind) (k : LedgerKey) → weight v kind k e ≡ pos 0
  weighs_nothing kind k = ap (weight v kind k) is_plain ∙ plain_weighs kind k

  no_offer : (n : ℤ) → offer_with n e ≡ pos 0
  no_offer n = ap (offer_with_in n) p.is

  fits_in : a.num_sub_entries ≤ 1000 → a.num_sub_entries + 0 ≤ 4294967295
  fits_in few = omega arith

  legal_plain : (id_pool : ℕ) → IsEntryLegal id_pool e
  legal_plain id_pool = subst (IsEntryLegal id_pool) (sym is_plain) (record {
    range = record { body = subst IsAccountInRange same p.range; paid = λ some. absurd (some refl) };
    bound = tt;
    few = subst (λ n. n ≤ 1000) p.subentries p.few;
    fits = subst (λ n. n + 0 ≤ 4294967295) p.subentries (fits_in p.few);
    filled = tt;
  })
    where
      same : a ≡ record a { num_sub_entries = length a.signers; ext = None }
      same i = record a { num_sub_entries = p.subentries i; ext = p.unbound i }

pub plain_states_are_legal : PlainStatesAreLegal
plain_states_are_legal h m header keyed plain coins = legal_of h (pools_in m) m header (record {
  params = λ id. refl;
  keyed = keyed;
  entries = λ k e there. legal_plain (view m) e (plain k e there) h.id_pool;
  offers = λ n. zero_at_most_one _ (total_none (offer_with n) m (λ k e there. no_offer (view m) e (plain k e there) n));
  aggregates = λ kind q. total_none (weight (view m) kind q) m
      (λ k e there. weighs_nothing (view m) e (plain k e there) kind q);
  supply = taken_off h.total_coins h.fee_pool (total (held asset.Native) m) coins;
})

-- ---- one account

nobody : (P : LedgerKey → LedgerEntry → Type 0) → EachEntry P empty
nobody P k e there = absurd (let none : get {K = LedgerKey} {X = LedgerEntry} {R = key_cmp} empty k ≡ None =
    get-empty key_cmp k in cc)

one_only : (new none old one : ℤ) → (new +ℤ none) ≡ (old +ℤ one) → none ≡ pos 0 → old ≡ pos 0 → new ≡ one
one_only new none old one is nothing zero = omega (arith, ints)

one_total : (f : Weight) (e : LedgerEntry) → total f (put empty e) ≡ f e
one_total f e = one_only (total f (put empty e)) (part f (get empty (key_of e))) (total f empty) (f e)
    (total_put f empty e) (ap (part f) (get-empty key_cmp (key_of e)))
    (total_none f empty (nobody (λ k x. f x ≡ pos 0)))

pub genesis_is_legal : GenesisIsLegal
genesis_is_legal h seq root header range subs unsigned bare coins =
    plain_states_are_legal h (put empty (new_account seq root)) header
    (put_each (λ k x. key_of x ≡ k) empty (new_account seq root) (nobody (λ k x. key_of x ≡ k)) refl)
    (put_each (λ k x. IsPlainAccount x) empty (new_account seq root) (nobody (λ k x. IsPlainAccount x)) (record {
      account = root;
      is = refl;
      unsponsored = refl;
      unbound = bare;
      subentries = subs ∙ sym (ap length unsigned);
      few = subst (λ n. n ≤ 1000) (sym subs) (omega arith);
      range = range;
    }))
    (ap (λ n. n +ℤ h.fee_pool) (one_total (held asset.Native) (new_account seq root)) ∙ coins)

own_count : (t : Bool) (n s : ℕ) → t ≡ true → pos s ≡ (if t then pos n else pos 0) → s ≡ n
own_count true n s is same = cc
own_count false n s is same = absurd (cc)

pub lone_accounts : LoneAccounts
lone_accounts h seq a legal =
    let e = new_account seq a in
    let m = put empty e in
    let k = key.Account a.account_id in
    let there : get m k ≡ Some e = put_there empty e in
    let aggregate : (kind : Kind) → IsAggregated kind m
    → stated_at kind (Some e) ≡ counted (view m) kind k e = λ kind aggregated.
    sym (ap (stated_at kind) there) ∙ aggregated k ∙ one_total (counted (view m) kind k) e in
    record {
      header = legal.header;
      range = (legal.entries k e there).body;
      subentries = own_count (is_key k k) (length a.signers) a.num_sub_entries (same_itself k)
          (aggregate Subentries legal.subentries);
      few = legal.few k e there;
      selling = aggregate Selling legal.selling;
      buying = aggregate Buying legal.buying;
      lumens = ap (λ n. n +ℤ h.fee_pool) (sym (one_total (held asset.Native) e)) ∙ legal.lumens;
    }

-- ---- one entry

chosen_there : (b : Bool) (e : LedgerEntry) (q k : LedgerKey) (o : Option LedgerEntry) → o ≡ None
    → eq_by_cmp key_cmp q k ≡ b → cond b (Some e) o ≢ None → q ≡ k
chosen_there true e q k o none tied exists = same_keys q k tied
chosen_there false e q k o none apart exists = absurd (exists none)

-- what is beside nothing is the entry itself
alone : (e : LedgerEntry) (q : LedgerKey) → get (put empty e) q ≢ None → q ≡ key_of e
alone e q exists = chosen_there (eq_by_cmp key_cmp q (key_of e)) e q (key_of e) (get empty q) (get-empty key_cmp q) refl
    (λ none. exists (put_get empty e q ∙ none))

module _ (P : LedgerKey → Type 0) (more rest : List LedgerKey) where
  first_passes : (o s : Option AccountId) → All P (account_keys o ++ account_keys s ++ more ++ rest) → (x : AccountId)
      → o ≡ Some x → P (key.Account x)
  first_passes None s all x is = absurd (cc)
  first_passes (Some y) s all x is = subst (λ i. P (key.Account i)) (let same : y ≡ x = cc in same)
      (All-head P (key.Account y) (account_keys s ++ more ++ rest) all)

  second_passes : (o s : Option AccountId) → All P (account_keys o ++ account_keys s ++ more ++ rest) → (x : AccountId)
      → s ≡ Some x → P (key.Account x)
  second_passes o None all x is = absurd (cc)
  second_passes None (Some y) all x is = subst (λ i. P (key.Account i)) (let same : y ≡ x = cc in same)
      (All-head P (key.Account y) (more ++ rest) all)
  second_passes (Some z) (Some y) all x is = subst (λ i. P (key.Account i)) (let same : y ≡ x = cc in same)
      (All-head P (key.Account y) (more ++ rest)
      (All-tail P (key.Account z) (key.Account y ∷ (more ++ rest)) all))

own_by_key : (b : LedgerEntryBody) (x : AccountId) → key_of_body b ≡ key.Account x → owner_of b ≡ Some x
own_by_key (body.Account a) x is = ap Some (let same : a.account_id ≡ x = cc in same)
own_by_key other x is = absurd (cc)

unpaid : (e : LedgerEntry) (o : Option AccountId) → sponsor_of e ≡ o → ((x : AccountId) → o ≡ Some x → ⊥) → o ≡ None
unpaid e None is apart = refl
unpaid e (Some x) is apart = absurd (apart x refl)

pub lone_entries : LoneEntries
lone_entries h e legal =
    let m = put empty e in
    let there : get m (key_of e) ≡ Some e = put_there empty e in
    let signers = flat_map account_keys (signer_sponsors_in e.body) in
    let holding = holding_keys (pools_in m) e.body in
    let needed = legal.existing (key_of e) e there in
    let range = legal.entries (key_of e) e there in
    record {
      owner = λ id is. sym (alone e (key.Account id) (first_passes (λ q. get m q ≢ None) signers holding
          (owner_of e.body) (sponsor_of e) needed id is));
      sponsor = unpaid e (sponsor_of e) refl (λ x is.
          let at = alone e (key.Account x) (second_passes (λ q. get m q ≢ None) signers holding (owner_of e.body)
          (sponsor_of e) needed x is) in
          paid_not_by_owner e.body x x (own_by_key e.body x (sym at))
          (subst (IsPaidRightly e.body) is range.paid) refl);
    }
