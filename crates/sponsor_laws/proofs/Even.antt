-- What is kept, said of each entry by its key.
use Rattle.sponsor_laws.proofs.Prelude as prelude
use prelude.{◌≡◌, ◌⊎◌, inl, inr, refl, sym, ap, subst, ◌∙◌, ℕ, suc, ◌+◌, ◌≤◌, Bool, true, false, cond, List, [], ◌∷◌}
use prelude.{length, Option, Some, None, Contains, arith, if◌then◌else◌, count_by, get, sum_by-cons, AccountId}
use prelude.{AccountEntry, LedgerEntry, LedgerEntryBody, LedgerKey, key_of, key_of_body, keys_total, EntryMap, IsKeyed}
use prelude.{Count, SubEntries, Sponsoring, Sponsored, account_in, account_of, account_at, HasAccount, sponsor_of}
use prelude.{multiplicity, owner_of, count_in, HasItems, signer_sponsors, subentries_for, sponsored_signers}
use prelude.{sponsoring_signers, total, counted_for, is_this, is_there, AreKept, same_account, if_some_at, if_some_from}
use prelude.{accounts_exact, entry_found}
use Rattle.sponsor_rules.specs.ledger_types.declared.entry.LedgerEntryBody.TheVariants as body
use Rattle.sponsor_rules.specs.ledger_types.declared.key.LedgerKey.TheVariants as key
use Rattle.sponsor_laws.proofs.Totals.{sum_in-none}

-- an entry names an account as its owner, its sponsor or the sponsor of a signer
pub record NamesSigner (e : LedgerEntry) (id : AccountId) : Type 0 where
  pub account : AccountEntry
  pub is : account_in e.body ≡ Some account
  pub sponsor : Contains (signer_sponsors account) (Some id)

abbrev pub Names : LedgerEntry → AccountId → Type 0
Names e id = (owner_of e.body ≡ Some id) ⊎ ((sponsor_of e ≡ Some id) ⊎ NamesSigner e id)

-- each entry is under its own key
abbrev pub AreOwn : EntryMap → Type 0
AreOwn m = (k : LedgerKey) (e : LedgerEntry) → get m k ≡ Some e → key_of e ≡ k

-- The same as `AreKept`, by entries.
pub record IsEven (m : EntryMap) : Type 0 where
  pub own : AreOwn m
  pub sums : (k : LedgerKey) (e : LedgerEntry) (account : AccountEntry) (count : Count) → get m k ≡ Some e
      → account_in e.body ≡ Some account → count_in count account ≡ total count account.account_id m
  pub items : (k : LedgerKey) (e : LedgerEntry) (account : AccountEntry) → get m k ≡ Some e
      → account_in e.body ≡ Some account → HasItems account
  pub names : (k : LedgerKey) (e : LedgerEntry) (id : AccountId) → get m k ≡ Some e → Names e id → HasAccount m id
  pub few : (id : AccountId) → HasAccount m id → total SubEntries id m ≤ 1000
  pub fits : (id : AccountId) → HasAccount m id → total SubEntries id m + total Sponsoring id m ≤ 4294967295

-- ---- keys

own_keys : (m : EntryMap) → IsKeyed m → AreOwn m
own_keys m keyed k e there = if_some_at (λ x. key_of x ≡ k) (get m k) e (keyed k) there

keyed_of : (m : EntryMap) → AreOwn m → IsKeyed m
keyed_of m own k = if_some_from (λ x. key_of x ≡ k) (get m k) (own k)

pub account_key : (b : LedgerEntryBody) (account : AccountEntry) → account_in b ≡ Some account
    → key_of_body b ≡ key.Account account.account_id
account_key b account h = ap key_of_body (accounts_exact.body b account h)

-- ---- accounts by their ids

-- the entry of an account that exists
pub account_entry : (m : EntryMap) (id : AccountId) (account : AccountEntry) → account_at m id ≡ Some account
    → (e : LedgerEntry) × ((get m (key.Account id) ≡ Some e) × (account_in e.body ≡ Some account))
unfolding account_at
account_entry m id account h =
    let found = entry_found accounts_exact m (key.Account id) account h in
    (found.0, (found.1.there, ap account_in found.1.is))

pub exists_in : (m : EntryMap) (id : AccountId) (e : LedgerEntry) (account : AccountEntry)
    → get m (key.Account id) ≡ Some e → account_in e.body ≡ Some account → account_at m id ≡ Some account
unfolding account_at
exists_in m id e account there is = ap account_of there ∙ is

pub same_id : (m : EntryMap) (id : AccountId) (e : LedgerEntry) (account : AccountEntry) → AreOwn m
    → get m (key.Account id) ≡ Some e → account_in e.body ≡ Some account → account.account_id ≡ id
same_id m id e account own there is = let same : key.Account account.account_id ≡ key.Account id =
    sym (account_key e.body account is) ∙ own _ e there in cc

pub account_of_entry : (m : EntryMap) (k : LedgerKey) (e : LedgerEntry) (account : AccountEntry) → AreOwn m
    → get m k ≡ Some e → account_in e.body ≡ Some account → account_at m account.account_id ≡ Some account
account_of_entry m k e account own there is = exists_in m account.account_id e account
    (ap (get m) (sym (account_key e.body account is) ∙ own k e there) ∙ there) is

-- ---- the two forms

ap_le : {a b x y n : ℕ} → a ≡ x → b ≡ y → a + b ≤ n → x + y ≤ n
ap_le g h is = omega arith

le_of : {a b x y n : ℕ} → a ≡ x → b ≡ y → x + y ≤ n → a + b ≤ n
le_of g h is = omega arith

pub sums_of : (m : EntryMap) → IsEven m → (id : AccountId) (account : AccountEntry) (count : Count)
    → account_at m id ≡ Some account → count_in count account ≡ total count id m
sums_of m h id account count there =
    let entry = account_entry m id account there in
    h.sums (key.Account id) entry.0 account count entry.1.0 entry.1.1
    ∙ ap (λ x. total count x m) (same_id m id entry.0 account h.own entry.1.0 entry.1.1)

pub even : (m : EntryMap) → AreKept m → IsEven m
even m kept =
    let own = own_keys m kept.counted.keyed in
    record {
      own = own;
      sums = λ k e account count there is. kept.counted.sums account.account_id account count
          (account_of_entry m k e account own there is);
      items = λ k e account there is. kept.items account.account_id account
          (account_of_entry m k e account own there is);
      names = λ k e id there names. elim names [
        | inl owns ↦ kept.counted.owners k e id there owns
        | inr (inl pays) ↦ kept.counted.sponsors k e id there pays
        | inr (inr n) ↦ kept.counted.signers n.account.account_id n.account id
            (account_of_entry m k e n.account own there n.is) n.sponsor
      ];
      few = λ id exists. subst (λ n. n ≤ 1000) (kept.counted.sums id exists.0 SubEntries exists.1)
          (kept.counted.few id exists.0 exists.1);
      fits = λ id exists. ap_le (kept.counted.sums id exists.0 SubEntries exists.1)
          (kept.counted.sums id exists.0 Sponsoring exists.1) (kept.counted.fits id exists.0 exists.1);
    }

pub kept_of : (m : EntryMap) → IsEven m → AreKept m
kept_of m h = record {
  counted = record {
    keyed = keyed_of m h.own;
    sums = sums_of m h;
    few = λ id account there. subst (λ n. n ≤ 1000) (sym (sums_of m h id account SubEntries there))
        (h.few id (account, there));
    fits = λ id account there. le_of (sums_of m h id account SubEntries there) (sums_of m h id account Sponsoring there)
        (h.fits id (account, there));
    owners = λ k e id there owns. h.names k e id there (inl owns);
    sponsors = λ k e id there pays. h.names k e id there (inr (inl pays));
    signers = λ of account id there sponsor. let entry = account_entry m of account there in
        h.names (key.Account of) entry.0 id entry.1.0
        (inr (inr (record { account = account; is = entry.1.1; sponsor = sponsor })));
  };
  items = λ id account there. let entry = account_entry m id account there in
      h.items (key.Account id) entry.0 account entry.1.0 entry.1.1;
}

-- ---- what isn't named counts nothing

pub this_is : (id : AccountId) (o : Option AccountId) → is_this id o ≡ true → o ≡ Some id
this_is id None h = absurd (cc)
this_is id (Some other) h = ap Some (same_account other id h)

pub not_this : (id : AccountId) (o : Option AccountId) → (o ≡ Some id → ⊥) → is_this id o ≡ false
not_this id o apart = elim (is_this id o) as (λ b. is_this id o ≡ b
    → b ≡ false) [ true ↦ λ h. absurd (apart (this_is id o h)) | false ↦ λ h. refl ] refl

subentries_none : (id : AccountId) (b : LedgerEntryBody) → is_this id (owner_of b) ≡ false → subentries_for id b ≡ 0
subentries_none id (body.Account account) h = ap (λ t. if t then length account.signers else 0) h
subentries_none id other h = ap (λ t. if t then multiplicity other else 0) h

pub sponsored_none : (id : AccountId) (b : LedgerEntryBody) → is_this id (owner_of b) ≡ false
    → sponsored_signers id b ≡ 0
sponsored_none id (body.Account account) h = ap (λ t. if t then count_by is_there (signer_sponsors account) else 0) h
sponsored_none id other h = refl

pub count_none : (id : AccountId) (xs : List (Option AccountId)) → (Contains xs (Some id) → ⊥)
    → count_by (is_this id) xs ≡ 0
count_none id [] none = refl
count_none id (x ∷ xs) none =
    let here : ◌≡◌ {A = ℕ} (cond (is_this id x) 1 0) 0 =
    ap (λ t. cond t 1 0) (not_this id x (λ is. none (0, omega arith, is))) in
    let rest : count_by (is_this id) xs ≡ 0 = count_none id xs
    (λ later. none (suc later.0, omega (arith, later.1), later.2)) in
    let cons = sum_by-cons (λ (o : Option AccountId). cond (is_this id o) 1 0) x xs in
    omega arith

sponsoring_none : (id : AccountId) (b : LedgerEntryBody) → ((account : AccountEntry) → account_in b ≡ Some account
    → Contains (signer_sponsors account) (Some id) → ⊥) → sponsoring_signers id b ≡ 0
sponsoring_none id (body.Account account) none = count_none id (signer_sponsors account) (none account refl)
sponsoring_none id other none = refl

pub nothing_if : (b : Bool) (n : ℕ) → n ≡ 0 → (if b then n else 0) ≡ 0
nothing_if true n h = h
nothing_if false n h = refl

unnamed_counts_nothing : (count : Count) (id : AccountId) (e : LedgerEntry) → (Names e id → ⊥)
    → counted_for count id e ≡ 0
unnamed_counts_nothing SubEntries id e apart = subentries_none id e.body
    (not_this id (owner_of e.body) (λ h. apart (inl h)))
unnamed_counts_nothing Sponsoring id e apart =
    let paid : (if is_this id (sponsor_of e) then multiplicity e.body else 0) ≡ 0 =
    ap (λ t. if t then multiplicity e.body else 0) (not_this id (sponsor_of e) (λ h. apart (inr (inl h)))) in
    let signers = sponsoring_none id e.body (λ account is there. apart
    (inr (inr (record { account = account; is = is; sponsor = there })))) in
    omega arith
unnamed_counts_nothing Sponsored id e apart =
    let owner = not_this id (owner_of e.body) (λ h. apart (inl h)) in
    let paid : (if is_there (sponsor_of e) then (if is_this id
    (owner_of e.body) then multiplicity e.body else 0) else 0) ≡ 0 =
    ap (λ t. if is_there (sponsor_of e) then (if t then multiplicity e.body else 0) else 0) owner
    ∙ nothing_if (is_there (sponsor_of e)) 0 refl in
    let signers = sponsored_none id e.body owner in
    omega arith

unnamed_total : (count : Count) (id : AccountId) (m : EntryMap)
    → ((k : LedgerKey) (e : LedgerEntry) → get m k ≡ Some e → Names e id → ⊥) → total count id m ≡ 0
unnamed_total count id m apart = sum_in-none keys_total (counted_for count id) m
    (λ k e there. unnamed_counts_nothing count id e (apart k e there))

pub unstanding_total : (count : Count) (id : AccountId) (m : EntryMap) → IsEven m → (HasAccount m id → ⊥)
    → total count id m ≡ 0
unstanding_total count id m h apart = unnamed_total count id m (λ k e there names. apart (h.names k e id there names))

-- ---- bounds of all totals

pub exists_or_not : (P : Type 0) (m : EntryMap) (id : AccountId) → (HasAccount m id → P) → ((HasAccount m id → ⊥) → P)
    → P
exists_or_not P m id f g = elim (account_at m id) as (λ o. account_at m id ≡ o → P) [
  | None ↦ λ none. g (λ exists. let there = exists.1 in absurd (cc))
  | Some account ↦ λ there. f (account, there)
] refl

pub all_few : (m : EntryMap) (id : AccountId) → IsEven m → total SubEntries id m ≤ 1000
all_few m id h = exists_or_not (total SubEntries id m ≤ 1000) m id (h.few id) (λ apart. let none =
    unstanding_total SubEntries id m h apart in omega arith)

pub all_fit : (m : EntryMap) (id : AccountId) → IsEven m → total SubEntries id m + total Sponsoring id m ≤ 4294967295
all_fit m id h = exists_or_not (total SubEntries id m + total Sponsoring id m ≤ 4294967295) m id (h.fits id)
    (λ apart. let none = unstanding_total SubEntries id m h apart in
    let unpaid = unstanding_total Sponsoring id m h apart in omega arith)
