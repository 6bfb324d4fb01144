-- What accounts, lines and pools are named by entries, and that nothing is counted for one that isn't.
use Rattle.image_rules.proofs.Prelude as prelude
use prelude.{◌≡◌, ◌≢◌, refl, sym, ap, subst, ◌∙◌, ℕ, ◌+◌, Bool, true, false, cond, List, [], ◌∷◌, ◌++◌, ◌<◌, map}
use prelude.{length, take, get_or, All, Option, Some, None, arith, ints, All-nil, All-cons, All-head, All-tail}
use prelude.{All-append, All-map, length-map, ℤ, pos, ◌+ℤ◌, ◌↔◌, IsTrue, if◌then◌else◌, count_by, flat_map, AccountId}
use prelude.{Hash, Asset, TrustLineAsset, Signer, AccountEntry, TrustLineEntry, OfferEntry, LedgerEntry}
use prelude.{LedgerEntryBody, LedgerKey, key_of, key_of_body, is_there, is_key, for_key, for_account, is_for, for_each}
use prelude.{signer_sponsors_in, subentries_in, sponsored_in_entry, account_keys, keys_in, share_keys, pool_keys}
use prelude.{holding_keys, needed_keys, holder, sells, buys, Pools, pool_named, needed_line, shares_in, share_lines}
use prelude.{uses_of, uses_by, uses, View, counted, Aggregate, kind_of, itself, other_owner, own_count, counted_itself}
use prelude.{counted_else, payers_pay, owner_is_paid, ArePayersOthers, add_zero, zero_add, zeros_add_to_zero}
use Rattle.std.proofs.lemmas.List.Sums.{length-filter}
use Rattle.entry_slots.specs.EntrySponsor.{sponsor_of}
use Rattle.sponsor_rules.specs.Charge.{owner_of, multiplicity}
use Rattle.sponsor_rules.specs.Payers.{is_same_account}
use Rattle.close_rules.specs.legal_rules.OfferLiabilities.{bound_of}
use Rattle.entry_map.proofs.Lookups.{apart_keys}
use Rattle.ledger_types.proofs.Lists.{all_back, all_front}
use Rattle.std.proofs.lemmas.List.Filters.{length-filter_more}
use Rattle.ledger_types.specs.declared.asset.Asset.TheVariants as asset
use Rattle.ledger_types.specs.declared.asset.PoolParams.{PoolParams}
use Rattle.ledger_types.specs.declared.asset.TrustLineAsset.TheVariants as line
use Rattle.ledger_types.specs.declared.account.AccountEntryExtensionV2.{AccountEntryExtensionV2}
use Rattle.ledger_types.specs.declared.entry.LedgerEntryBody.TheVariants as body
use Rattle.ledger_types.specs.declared.key.LedgerKey.TheVariants as key
use Rattle.entry_slots.specs.AccountExtensions.{sponsorship_of, second_in, sponsorship_in}
use Rattle.image_rules.specs.declared.aggregates.Aggregate.TheVariants as aggregate
use Rattle.close_rules.proofs.legal_rules_proofs.Evaluated.{filter_of_others, for_account_of_others, for_key_of_others}
use Rattle.close_rules.proofs.legal_rules_proofs.Evaluated.{uses_of_others}

-- ---- lists of keys, one after another

abbrev pub AllOf : (LedgerKey → Type 0) → Option AccountId → Type 0
AllOf P o = All P (account_keys o)

pub all_flat : (P : LedgerKey → Type 0) (ids : List (Option AccountId)) → All (AllOf P) ids
    → All P (flat_map account_keys ids)
all_flat P [] all = All-nil P
all_flat P (o ∷ ids) all =
    All-append P (account_keys o) (flat_map account_keys ids) (All-head (AllOf P) o ids all)
    (all_flat P ids (All-tail (AllOf P) o ids all))

pub flat_all : (P : LedgerKey → Type 0) (ids : List (Option AccountId)) → All P (flat_map account_keys ids)
    → All (AllOf P) ids
flat_all P [] all = All-nil (AllOf P)
flat_all P (o ∷ ids) all =
    All-cons (AllOf P) o ids (all_front P (account_keys o) (flat_map account_keys ids) all)
    (flat_all P ids (all_back P (account_keys o) (flat_map account_keys ids) all))

-- the keys of accounts, lines and pools that an entry names
pub record AllNamed (P : LedgerKey → Type 0) (pools : Pools) (e : LedgerEntry) : Type 0 where
  pub owner : All P (account_keys (owner_of e.body))
  pub sponsor : All P (account_keys (sponsor_of e))
  pub signers : All P (flat_map account_keys (signer_sponsors_in e.body))
  pub holding : All P (holding_keys pools e.body)

module _ (P : LedgerKey → Type 0) (pools : Pools) (e : LedgerEntry) where
  abbrev owners : List LedgerKey
  owners = account_keys (owner_of e.body)

  abbrev sponsors : List LedgerKey
  sponsors = account_keys (sponsor_of e)

  abbrev signers : List LedgerKey
  signers = flat_map account_keys (signer_sponsors_in e.body)

  abbrev holding : List LedgerKey
  holding = holding_keys pools e.body

  pub named_of_needed : All P (needed_keys pools e) → AllNamed P pools e
  named_of_needed all =
      let three = all_front P (owners ++ sponsors ++ signers) holding all in
      let two = all_front P (owners ++ sponsors) signers three in
      record {
        owner = all_front P owners sponsors two;
        sponsor = all_back P owners sponsors two;
        signers = all_back P (owners ++ sponsors) signers three;
        holding = all_back P (owners ++ sponsors ++ signers) holding all;
      }

  pub needed_of_all : All P owners → All P sponsors → All P signers → All P holding → All P (needed_keys pools e)
  needed_of_all owns pays signs holds =
      All-append P (owners ++ sponsors ++ signers) holding
      (All-append P (owners ++ sponsors) signers (All-append P owners sponsors owns pays) signs) holds

-- ---- what answers say

pub flat_iff : (P : LedgerKey → Type 0) (answer : Bool) (ids named : List (Option AccountId)) → named ≡ ids
    → (IsTrue answer ↔ All (AllOf P) ids) → (IsTrue answer ↔ All P (flat_map account_keys named))
flat_iff P answer ids named is h = (
  λ said. subst (λ xs. All P (flat_map account_keys xs)) (sym is) (all_flat P ids (h.0 said)),
  λ all. h.1 (flat_all P ids (subst (λ xs. All P (flat_map account_keys xs)) is all)),
)

pub needed_iff : (P : LedgerKey → Type 0) (pools : Pools) (e : LedgerEntry) (all owner sponsor payers holders : Bool)
    → (IsTrue all ↔ (IsTrue owner × IsTrue sponsor × IsTrue payers × IsTrue holders))
    → (IsTrue owner ↔ All P (account_keys (owner_of e.body))) → (IsTrue sponsor ↔ All P (account_keys (sponsor_of e)))
    → (IsTrue payers ↔ All P (flat_map account_keys (signer_sponsors_in e.body)))
    → (IsTrue holders ↔ All P (holding_keys pools e.body)) → (IsTrue all ↔ All P (needed_keys pools e))
needed_iff P pools e all owner sponsor payers holders four owns pays signs holds = (
  λ said. let each = four.0 said in
      needed_of_all P pools e (owns.0 each.0) (pays.0 each.1) (signs.0 each.2) (holds.0 each.3),
  λ needed. let named = named_of_needed P pools e needed in
      four.1 (
        owns.1 named.owner,
        pays.1 named.sponsor,
        signs.1 named.signers,
        holds.1 named.holding,
      ),
)

-- two answers on the keys of one key each
pub both_iff : (P : LedgerKey → Type 0) (first second both : Bool) (xs ys : List LedgerKey)
    → (IsTrue both ↔ (IsTrue first × IsTrue second)) → (IsTrue first ↔ All P xs) → (IsTrue second ↔ All P ys)
    → (IsTrue both ↔ All P (xs ++ ys))
both_iff P first second both xs ys two one other = (
  λ said. let each = two.0 said in All-append P xs ys (one.0 each.0) (other.0 each.1),
  λ all. two.1 (one.1 (all_front P xs ys all), other.1 (all_back P xs ys all)),
)

-- ---- what isn't named isn't counted

abbrev IsOther : LedgerKey → LedgerKey → Type 0
IsOther k q = q ≢ k

unsold : (k : LedgerKey) (pools : Pools) (b : LedgerEntryBody) → All (IsOther k) (holding_keys pools b)
    → sells k b ≡ pos 0
unsold k pools (body.Offer offer) others =
    for_key_of_others k (holder offer.seller_id offer.selling) (pos (bound_of offer).wheat)
    (all_front (IsOther k) (keys_in (holder offer.seller_id offer.selling))
    (keys_in (holder offer.seller_id offer.buying)) others)
unsold k pools other others = refl

unbought : (k : LedgerKey) (pools : Pools) (b : LedgerEntryBody) → All (IsOther k) (holding_keys pools b)
    → buys k b ≡ pos 0
unbought k pools (body.Offer offer) others =
    for_key_of_others k (holder offer.seller_id offer.buying) (pos (bound_of offer).sheep)
    (all_back (IsOther k) (keys_in (holder offer.seller_id offer.selling))
    (keys_in (holder offer.seller_id offer.buying)) others)
unbought k pools other others = refl

none_for_each : (k : LedgerKey) (ids : List (Option AccountId)) → All (IsOther k) (flat_map account_keys ids)
    → for_each k ids ≡ pos 0
none_for_each k ids others =
    ap pos (sym (length-filter (is_for k) ids) ∙ ap length (filter_of_others k ids others))

-- ---- pools and the lines that their shares need

unshared_in : (k : LedgerKey) (pools : Pools) (id : AccountId) (x : TrustLineAsset) (n : ℤ)
    → All (IsOther k) (pool_keys pools id x) → for_key k (pool_named x) n ≡ pos 0
unshared_in k pools id (line.PoolShare pool) n others =
    ap (λ b. if b then n else pos 0)
    (apart_keys (key.LiquidityPool pool) k
    (All-head (IsOther k) (key.LiquidityPool pool) (share_keys id (pools pool)) others))
unshared_in k pools id other n others = refl

unshared : (k : LedgerKey) (pools : Pools) (b : LedgerEntryBody) → All (IsOther k) (holding_keys pools b)
    → shares_in k b ≡ pos 0
unshared k pools (body.TrustLine t) others = unshared_in k pools t.account_id t.asset t.balance others
unshared k pools other others = refl

unlined : (k : LedgerKey) (pools : Pools) (b : LedgerEntryBody) → All (IsOther k) (holding_keys pools b)
    → share_lines k b ≡ pos 0
unlined k pools (body.TrustLine t) others = unshared_in k pools t.account_id t.asset (pos 1) others
unlined k pools other others = refl

unused_by : (k : LedgerKey) (pools : Pools) (id : AccountId) (x : TrustLineAsset)
    → All (IsOther k) (pool_keys pools id x) → uses_by pools k id x ≡ pos 0
unused_by k pools id (line.PoolShare pool) others =
    uses_of_others k id (pools pool)
    (All-tail (IsOther k) (key.LiquidityPool pool) (share_keys id (pools pool)) others)
unused_by k pools id other others = refl

unused : (k : LedgerKey) (pools : Pools) (b : LedgerEntryBody) → All (IsOther k) (holding_keys pools b)
    → uses pools k b ≡ pos 0
unused k pools (body.TrustLine t) others = unused_by k pools t.account_id t.asset others
unused k pools other others = refl

pub uncounted : (which : Aggregate) (v : View) (k : LedgerKey) (e : LedgerEntry) → AllNamed (IsOther k) v.pools e
    → counted v (kind_of which) k e ≡ pos 0
uncounted aggregate.Subentries v k e others =
    for_account_of_others k (owner_of e.body) (subentries_in e.body) others.owner
uncounted aggregate.Sponsored v k e others =
    for_account_of_others k (owner_of e.body) (sponsored_in_entry e) others.owner
uncounted aggregate.Sponsoring v k e others =
    zeros_add_to_zero (for_account k (sponsor_of e) (multiplicity e.body)) (for_each k (signer_sponsors_in e.body))
    (for_account_of_others k (sponsor_of e) (multiplicity e.body) others.sponsor)
    (none_for_each k (signer_sponsors_in e.body) others.signers)
uncounted aggregate.Selling v k e others = unsold k v.pools e.body others.holding
uncounted aggregate.Buying v k e others = unbought k v.pools e.body others.holding
uncounted aggregate.Shares v k e others = unshared k v.pools e.body others.holding
uncounted aggregate.ShareLines v k e others = unlined k v.pools e.body others.holding
uncounted aggregate.Uses v k e others = unused k v.pools e.body others.holding

-- ---- a key that isn't an account's

account_only : (P : LedgerKey → Type 0) → ((id : AccountId) → P (key.Account id)) → (o : Option AccountId)
    → All P (account_keys o)
account_only P all None = All-nil P
account_only P all (Some id) = All-cons P (key.Account id) [] (all id) (All-nil P)

accounts_only : (P : LedgerKey → Type 0) → ((id : AccountId) → P (key.Account id)) → (ids : List (Option AccountId))
    → All P (flat_map account_keys ids)
accounts_only P all [] = All-nil P
accounts_only P all (None ∷ ids) = accounts_only P all ids
accounts_only P all (Some id ∷ ids) =
    All-cons P (key.Account id) (flat_map account_keys ids) (all id) (accounts_only P all ids)

-- a key under which neither an account nor a line nor a pool exists
pub record IsElsewhere (k : LedgerKey) : Type 0 where
  pub accounts : (id : AccountId) → key.Account id ≢ k
  pub lines : (id : AccountId) (x : TrustLineAsset) → key.TrustLine id x ≢ k
  pub pools : (id : Hash) → key.LiquidityPool id ≢ k

module _ (k : LedgerKey) (elsewhere : IsElsewhere k) where
  line_other : (id issuer : AccountId) (x : TrustLineAsset)
      → All (IsOther k) (keys_in (if is_same_account issuer id then None else Some (key.TrustLine id x)))
  line_other id issuer x = elim (is_same_account issuer id) as
      (λ t. All (IsOther k) (keys_in (if t then None else Some (key.TrustLine id x)))) [
        | true ↦ All-nil (IsOther k)
        | false ↦ All-cons (IsOther k) (key.TrustLine id x) [] (elsewhere.lines id x) (All-nil (IsOther k))
      ]

  holder_other : (id : AccountId) (x : Asset) → All (IsOther k) (keys_in (holder id x))
  holder_other id asset.Native = All-cons (IsOther k) (key.Account id) [] (elsewhere.accounts id) (All-nil (IsOther k))
  holder_other id (asset.Alphanum4 code issuer) = line_other id issuer (line.Alphanum4 code issuer)
  holder_other id (asset.Alphanum12 code issuer) = line_other id issuer (line.Alphanum12 code issuer)

  needed_other : (id : AccountId) (x : Asset) → All (IsOther k) (keys_in (needed_line id x))
  needed_other id asset.Native = All-nil (IsOther k)
  needed_other id (asset.Alphanum4 code issuer) = holder_other id (asset.Alphanum4 code issuer)
  needed_other id (asset.Alphanum12 code issuer) = holder_other id (asset.Alphanum12 code issuer)

  shares_other : (id : AccountId) (o : Option PoolParams) → All (IsOther k) (share_keys id o)
  shares_other id None = All-nil (IsOther k)
  shares_other id (Some params) =
      All-append (IsOther k) (keys_in (needed_line id params.asset_a)) (keys_in (needed_line id params.asset_b))
      (needed_other id params.asset_a) (needed_other id params.asset_b)

  pool_other : (pools : Pools) (id : AccountId) (x : TrustLineAsset) → All (IsOther k) (pool_keys pools id x)
  pool_other pools id (line.PoolShare pool) =
      All-cons (IsOther k) (key.LiquidityPool pool) (share_keys id (pools pool)) (elsewhere.pools pool)
      (shares_other id (pools pool))
  pool_other pools id other = All-nil (IsOther k)

  holding_other : (pools : Pools) (b : LedgerEntryBody) → All (IsOther k) (holding_keys pools b)
  holding_other pools (body.TrustLine t) = pool_other pools t.account_id t.asset
  holding_other pools (body.Offer offer) =
      All-append (IsOther k) (keys_in (holder offer.seller_id offer.selling))
      (keys_in (holder offer.seller_id offer.buying)) (holder_other offer.seller_id offer.selling)
      (holder_other offer.seller_id offer.buying)
  holding_other pools other = All-nil (IsOther k)

  pub named_elsewhere : (pools : Pools) (e : LedgerEntry) → AllNamed (IsOther k) pools e
  named_elsewhere pools e = record {
    owner = account_only (IsOther k) elsewhere.accounts (owner_of e.body);
    sponsor = account_only (IsOther k) elsewhere.accounts (sponsor_of e);
    signers = accounts_only (IsOther k) elsewhere.accounts (signer_sponsors_in e.body);
    holding = holding_other pools e.body;
  }

-- ---- no sponsors of signers

pub none_named : (signers : List Signer) → flat_map account_keys (map (λ signer. None) signers) ≡ []
none_named [] = refl
none_named (s ∷ signers) = none_named signers

-- ---- one more that is named

one_counted : (b : Bool) → (if b then pos 1 else pos 0) ≡ pos (cond b 1 0)
one_counted true = refl
one_counted false = refl

counts_one : (k : LedgerKey) (o : Option AccountId) → for_account k o 1 ≡ pos (cond (is_for k o) 1 0)
counts_one k None = refl
counts_one k (Some id) = one_counted (is_key (key.Account id) k)

pub for_each_more : (k : LedgerKey) (ids : List (Option AccountId)) (i : ℕ) (d : Option AccountId) → i < length ids
    → for_each k (take (i + 1) ids) ≡ (for_each k (take i ids) +ℤ for_account k (get_or ids i d) 1)
for_each_more k ids i d lt =
    ap pos (sym (length-filter (is_for k) (take (i + 1) ids)) ∙ length-filter_more (is_for k) ids i d lt
    ∙ ap (λ n. n + cond (is_for k (get_or ids i d)) 1 0) (length-filter (is_for k) (take i ids)))
    ∙ ap (λ n. pos (count_by (is_for k) (take i ids)) +ℤ n) (sym (counts_one k (get_or ids i d)))

-- ---- sums of what is counted

paid_sum : (k : LedgerKey) (o : Option AccountId) (a b n : ℕ) → a + b ≡ n
    → for_account k o n ≡ (for_account k o a +ℤ for_account k o b)
paid_sum k None a b n is = omega (arith, ints)
paid_sum k (Some id) a b n is = elim (is_key (key.Account id) k) as
    (λ t. (if t then pos n else pos 0) ≡ ((if t then pos a else pos 0) +ℤ (if t then pos b else pos 0))) [
      | true ↦ omega (arith, ints)
      | false ↦ omega (arith, ints)
    ]

pub sponsored_sum : (k : LedgerKey) (e : LedgerEntry) (owner : Option AccountId) (paid signers : ℕ)
    → owner ≡ other_owner e.body → paid + count_by is_there (signer_sponsors_in e.body) ≡ sponsored_in_entry e
    → signers ≡ count_by is_there (signer_sponsors_in e.body)
    → owner_is_paid k e ≡ (for_account k owner paid +ℤ for_account k owner signers)
sponsored_sum k e owner paid signers is sum same =
    ap (λ o. for_account k o (sponsored_in_entry e)) (sym is)
    ∙ paid_sum k owner paid signers (sponsored_in_entry e) (ap (λ n. paid + n) same ∙ sum)

pub sponsoring_sum : (k : LedgerKey) (e : LedgerEntry) (sponsor : Option AccountId) (n : ℕ)
    → sponsor ≡ sponsor_of e → n ≡ multiplicity e.body
    → payers_pay k e ≡ (for_account k sponsor n +ℤ for_each k (signer_sponsors_in e.body))
sponsoring_sum k e sponsor n is same =
    ap (λ o. for_account k o (multiplicity e.body) +ℤ for_each k (signer_sponsors_in e.body)) (sym is)
    ∙ ap (λ c. for_account k sponsor c +ℤ for_each k (signer_sponsors_in e.body)) (sym same)

-- ---- what an account counts for itself, and what is counted for others

add_for_account_zero : (k : LedgerKey) (o : Option AccountId) (a : ℤ) → a ≡ (a +ℤ for_account k o 0)
add_for_account_zero k None a = sym (add_zero a)
add_for_account_zero k (Some id) a =
    elim (is_key (key.Account id) k) as (λ b. a ≡ (a +ℤ (if b then pos 0 else pos 0))) [
      | true ↦ sym (add_zero a)
      | false ↦ sym (add_zero a)
    ]

owned_parts : (k : LedgerKey) (b : LedgerEntryBody) (n : ℕ) → for_account k (owner_of b) n
    ≡ (for_account k (other_owner b) n +ℤ for_account k (itself b) n)
owned_parts k (body.Account a) n = sym (zero_add (for_account k (Some a.account_id) n))
owned_parts k (body.TrustLine line) n = sym (add_zero (for_account k (Some line.account_id) n))
owned_parts k (body.Offer offer) n = sym (add_zero (for_account k (Some offer.seller_id) n))
owned_parts k (body.Data data_entry) n = sym (add_zero (for_account k (Some data_entry.account_id) n))
owned_parts k (body.ClaimableBalance balance) n = sym (add_zero (pos 0))
owned_parts k (body.LiquidityPool pool) n = sym (add_zero (pos 0))

pub counted_parts : (which : Aggregate) (v : View) (k : LedgerKey) (e : LedgerEntry)
    → counted v (kind_of which) k e ≡ (counted_else v.pools which k e +ℤ counted_itself which k e)
counted_parts aggregate.Subentries v k e = owned_parts k e.body (subentries_in e.body)
counted_parts aggregate.Sponsored v k e = owned_parts k e.body (sponsored_in_entry e)
counted_parts aggregate.Sponsoring v k e =
    add_for_account_zero k (itself e.body) (for_account k (sponsor_of e) (multiplicity e.body)
    +ℤ for_each k (signer_sponsors_in e.body))
counted_parts aggregate.Selling v k e = add_for_account_zero k (itself e.body) (sells k e.body)
counted_parts aggregate.Buying v k e = add_for_account_zero k (itself e.body) (buys k e.body)
counted_parts aggregate.Shares v k e = add_for_account_zero k (itself e.body) (shares_in k e.body)
counted_parts aggregate.ShareLines v k e = add_for_account_zero k (itself e.body) (share_lines k e.body)
counted_parts aggregate.Uses v k e = add_for_account_zero k (itself e.body) (uses v.pools k e.body)

-- under a key that isn't an account's others count all
pub counted_by_others : (which : Aggregate) (v : View) (k : LedgerKey) (e : LedgerEntry)
    → ((id : AccountId) → key.Account id ≢ k) → counted v (kind_of which) k e ≡ counted_else v.pools which k e
counted_by_others which v k e other =
    counted_parts which v k e
    ∙ ap (λ n. counted_else v.pools which k e +ℤ n)
    (for_account_of_others k (itself e.body) (own_count which e) (account_only (IsOther k) other (itself e.body)))
    ∙ add_zero (counted_else v.pools which k e)

-- an account counts nothing for another one
pub none_itself : (which : Aggregate) (k : LedgerKey) (e : LedgerEntry) → key_of e ≢ k
    → counted_itself which k e ≡ pos 0
none_itself which k e other = none_of e.body refl
  where
    none_of : (b : LedgerEntryBody) → e.body ≡ b → for_account k (itself b) (own_count which e) ≡ pos 0
    none_of (body.Account a) is =
        ap (λ t. if t then pos (own_count which e) else pos 0)
        (apart_keys (key.Account a.account_id) k (λ same. other (ap key_of_body is ∙ same)))
    none_of (body.TrustLine line) is = refl
    none_of (body.Offer offer) is = refl
    none_of (body.Data data_entry) is = refl
    none_of (body.ClaimableBalance balance) is = refl
    none_of (body.LiquidityPool pool) is = refl

-- ---- who pays for signers, by the extension of an account

module _ (b : LedgerEntryBody) (a : AccountEntry) (is : b ≡ body.Account a) where
  pub unsponsored : second_in a.ext ≡ None → signer_sponsors_in b ≡ map (λ signer. None) a.signers
  unsponsored none = ap signer_sponsors_in is
      ∙ ap (λ o. (sponsorship_in a.signers o).signer_sponsoring_ids) none

  pub sponsors_by : (s : AccountEntryExtensionV2) → second_in a.ext ≡ Some s
      → signer_sponsors_in b ≡ s.signer_sponsoring_ids
  sponsors_by s some = ap signer_sponsors_in is
      ∙ ap (λ o. (sponsorship_in a.signers o).signer_sponsoring_ids) some

pub others_by_none : (a : AccountEntry) → second_in a.ext ≡ None
    → ArePayersOthers a.account_id a.signers (sponsorship_of a).signer_sponsoring_ids
others_by_none a none =
    subst (λ o. ArePayersOthers a.account_id a.signers (sponsorship_in a.signers o).signer_sponsoring_ids) (sym none)
    (record {
      items = length-map a.signers (λ signer. None);
      others = All-map (λ s. s ≢ Some a.account_id) (λ signer. None) a.signers (λ k d lt same. cc);
    })

-- ---- what an offer counts where its seller has its assets

pub sold_at : (k : LedgerKey) (b : LedgerEntryBody) (offer : OfferEntry) (named : Option LedgerKey) (n : ℕ)
    → b ≡ body.Offer offer → named ≡ holder offer.seller_id offer.selling → n ≡ (bound_of offer).wheat
    → sells k b ≡ for_key k named (pos n)
sold_at k b offer named n is at same =
    ap (sells k) is ∙ ap (λ o. for_key k o (pos (bound_of offer).wheat)) (sym at)
    ∙ ap (λ c. for_key k named (pos c)) (sym same)

pub bought_at : (k : LedgerKey) (b : LedgerEntryBody) (offer : OfferEntry) (named : Option LedgerKey) (n : ℕ)
    → b ≡ body.Offer offer → named ≡ holder offer.seller_id offer.buying → n ≡ (bound_of offer).sheep
    → buys k b ≡ for_key k named (pos n)
bought_at k b offer named n is at same =
    ap (buys k) is ∙ ap (λ o. for_key k o (pos (bound_of offer).sheep)) (sym at)
    ∙ ap (λ c. for_key k named (pos c)) (sym same)

-- ---- what a line of pool shares counts for its pool and for the lines that it needs

pub shared_at : (k : LedgerKey) (b : LedgerEntryBody) (t : TrustLineEntry) (named : Option LedgerKey) (n : ℕ)
    → b ≡ body.TrustLine t → named ≡ pool_named t.asset → t.balance ≡ pos n → shares_in k b ≡ for_key k named (pos n)
shared_at k b t named n is at same =
    ap (shares_in k) is ∙ ap (λ o. for_key k o t.balance) (sym at) ∙ ap (for_key k named) same

pub lined_at : (k : LedgerKey) (b : LedgerEntryBody) (t : TrustLineEntry) (named : Option LedgerKey)
    → b ≡ body.TrustLine t → named ≡ pool_named t.asset → share_lines k b ≡ for_key k named (pos 1)
lined_at k b t named is at = ap (share_lines k) is ∙ ap (λ o. for_key k o (pos 1)) (sym at)

pub used_at : (k : LedgerKey) (pools : Pools) (b : LedgerEntryBody) (t : TrustLineEntry) → b ≡ body.TrustLine t
    → uses pools k b ≡ uses_by pools k t.account_id t.asset
used_at k pools b t is = ap (uses pools k) is

pub used_by : (k : LedgerKey) (pools : Pools) (id : AccountId) (x : TrustLineAsset) (pool : Hash)
    (params : Option PoolParams) → x ≡ line.PoolShare pool → params ≡ pools pool
    → uses_by pools k id x ≡ uses_of k id params
used_by k pools id x pool params is same = ap (uses_by pools k id) is ∙ ap (uses_of k id) (sym same)

pub used_both : (k : LedgerKey) (id : AccountId) (params : PoolParams) (first second : Option LedgerKey)
    → first ≡ needed_line id params.asset_a → second ≡ needed_line id params.asset_b
    → uses_of k id (Some params) ≡ (for_key k first (pos 1) +ℤ for_key k second (pos 1))
used_both k id params first second is other =
    ap (λ o. for_key k o (pos 1) +ℤ for_key k (needed_line id params.asset_b) (pos 1)) (sym is)
    ∙ ap (λ o. for_key k first (pos 1) +ℤ for_key k o (pos 1)) (sym other)
