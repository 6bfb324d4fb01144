-- What a change of one entry in its place leaves, and what is then under its key.
use Rattle.entry_slots.proofs.Prelude.{◌≡◌, ◌≢◌, refl, sym, ap, ◌∙◌, None, Option, Some, option_map, List, ℕ, AccountId}
use Rattle.entry_slots.proofs.Prelude.{subst, true, false, cond}
use Rattle.std.specs.FinMap.{get, same_map}
use Rattle.entry_map.specs.EntryMap.{EntryMap, put}
use Rattle.entry_map.specs.ledger_types.Keys.{key_of_body, key_of}
use Rattle.entry_map.specs.ledger_types.declared.account.AccountEntry.{AccountEntry}
use Rattle.entry_map.specs.ledger_types.declared.claimable_balance.ClaimableBalanceEntry.{ClaimableBalanceEntry}
use Rattle.entry_map.specs.ledger_types.declared.data_entry.DataEntry.{DataEntry}
use Rattle.entry_map.specs.ledger_types.declared.liquidity_pool.LiquidityPoolEntry.{LiquidityPoolEntry}
use Rattle.entry_map.specs.ledger_types.declared.offer.OfferEntry.{OfferEntry}
use Rattle.entry_map.specs.ledger_types.declared.trust_line.TrustLineEntry.{TrustLineEntry}
use Rattle.entry_map.specs.ledger_types.declared.entry.LedgerEntry.{LedgerEntry}
use Rattle.entry_map.specs.ledger_types.declared.entry.LedgerEntryBody.{LedgerEntryBody}
use Rattle.entry_map.specs.ledger_types.declared.entry.LedgerEntryBody.TheVariants as body
use Rattle.entry_map.specs.ledger_types.declared.key.LedgerKey.{LedgerKey}
use Rattle.entry_map.specs.ledger_types.declared.key.LedgerKey.TheVariants as key
use Rattle.entry_map.proofs.Lookups.{put_elsewhere, put_there, put_get}
use Rattle.entry_slots.specs.EntryKinds.{EntryKind, entry_at, slot_of, value_of, with_entry, with_value, with_value_of}
use Rattle.entry_slots.specs.Accounts.{account_in, account_kind}
use Rattle.entry_slots.specs.Balances.{balance_in, balance_kind}
use Rattle.entry_slots.specs.DataEntries.{data_in, data_kind}
use Rattle.entry_slots.specs.Lines.{line_in, line_kind}
use Rattle.entry_slots.specs.Offers.{offer_in, offer_kind, offer_of}
use Rattle.entry_slots.specs.Pools.{pool_in, pool_kind}
use Rattle.entry_map.specs.ledger_types.declared.ids.ClaimableBalanceId.{ClaimableBalanceId}
use Rattle.entry_map.specs.ledger_types.declared.ids.Hash.{Hash}
use Rattle.entry_map.specs.ledger_types.declared.asset.TrustLineAsset.{TrustLineAsset}
use Rattle.std.specs.Ordering.{eq_by_cmp}
use Rattle.entry_map.specs.ledger_types.KeyOrder.{key_cmp}
use Rattle.entry_map.proofs.ledger_types_proofs.KeyOrdering.{keys_total, keys_exact}

-- ---- kinds

-- a kind of which each body holds the value that it was made of, and no other body holds one
pub record IsExact {V : Type 0} (kind : EntryKind V) : Type 0 where
  pub value : (v : V) → kind.value_in (kind.body_of v) ≡ Some v
  pub body : (b : LedgerEntryBody) (v : V) → kind.value_in b ≡ Some v → b ≡ kind.body_of v

account_body : (b : LedgerEntryBody) (v : AccountEntry) → account_in b ≡ Some v → b ≡ body.Account v
account_body (body.Account x) v is = let same : x ≡ v = cc in ap body.Account same
account_body other v is = absurd (cc)

pub accounts_exact : IsExact account_kind
accounts_exact = record { value = λ v. refl; body = account_body }

line_body : (b : LedgerEntryBody) (v : TrustLineEntry) → line_in b ≡ Some v → b ≡ body.TrustLine v
line_body (body.TrustLine x) v is = let same : x ≡ v = cc in ap body.TrustLine same
line_body other v is = absurd (cc)

pub lines_exact : IsExact line_kind
lines_exact = record { value = λ v. refl; body = line_body }

offer_body : (b : LedgerEntryBody) (v : OfferEntry) → offer_in b ≡ Some v → b ≡ body.Offer v
offer_body (body.Offer x) v is = let same : x ≡ v = cc in ap body.Offer same
offer_body other v is = absurd (cc)

pub offers_exact : IsExact offer_kind
offers_exact = record { value = λ v. refl; body = offer_body }

data_body : (b : LedgerEntryBody) (v : DataEntry) → data_in b ≡ Some v → b ≡ body.Data v
data_body (body.Data x) v is = let same : x ≡ v = cc in ap body.Data same
data_body other v is = absurd (cc)

pub data_exact : IsExact data_kind
data_exact = record { value = λ v. refl; body = data_body }

balance_body : (b : LedgerEntryBody) (v : ClaimableBalanceEntry) → balance_in b ≡ Some v → b ≡ body.ClaimableBalance v
balance_body (body.ClaimableBalance x) v is = let same : x ≡ v = cc in ap body.ClaimableBalance same
balance_body other v is = absurd (cc)

pub balances_exact : IsExact balance_kind
balances_exact = record { value = λ v. refl; body = balance_body }

pool_body : (b : LedgerEntryBody) (v : LiquidityPoolEntry) → pool_in b ≡ Some v → b ≡ body.LiquidityPool v
pool_body (body.LiquidityPool x) v is = let same : x ≡ v = cc in ap body.LiquidityPool same
pool_body other v is = absurd (cc)

pub pools_exact : IsExact pool_kind
pools_exact = record { value = λ v. refl; body = pool_body }

-- what has a key of a kind is of the kind

pub account_under : (id : AccountId) (b : LedgerEntryBody) → key_of_body b ≡ key.Account id
    → (v : AccountEntry) × (b ≡ body.Account v)
account_under id (body.Account v) own = (v, refl)
account_under id other own = absurd (cc)

pub line_under : (id : AccountId) (asset : TrustLineAsset) (b : LedgerEntryBody)
    → key_of_body b ≡ key.TrustLine id asset → (v : TrustLineEntry) × (b ≡ body.TrustLine v)
line_under id asset (body.TrustLine v) own = (v, refl)
line_under id asset other own = absurd (cc)

pub data_under : (id : AccountId) (name : List ℕ) (b : LedgerEntryBody) → key_of_body b ≡ key.Data id name
    → (v : DataEntry) × (b ≡ body.Data v)
data_under id name (body.Data v) own = (v, refl)
data_under id name other own = absurd (cc)

pub balance_under : (id : ClaimableBalanceId) (b : LedgerEntryBody) → key_of_body b ≡ key.ClaimableBalance id
    → (v : ClaimableBalanceEntry) × (b ≡ body.ClaimableBalance v)
balance_under id (body.ClaimableBalance v) own = (v, refl)
balance_under id other own = absurd (cc)

pub pool_under : (pool : Hash) (b : LedgerEntryBody) → key_of_body b ≡ key.LiquidityPool pool
    → (v : LiquidityPoolEntry) × (b ≡ body.LiquidityPool v)
pool_under pool (body.LiquidityPool v) own = (v, refl)
pool_under pool other own = absurd (cc)

-- an offer, as the book looks it up
pub offer_found : (o : Option LedgerEntry) → offer_of o ≡ value_of offer_kind o
offer_found None = refl
offer_found (Some e) = refl

-- ---- what is there

-- the entry under a key, which holds a value
pub record IsEntryOf {V : Type 0} (kind : EntryKind V) (m : EntryMap) (k : LedgerKey) (v : V) (e : LedgerEntry)
    : Type 0 where
  pub there : get m k ≡ Some e
  pub is : e.body ≡ kind.body_of v

module _ {V : Type 0} {kind : EntryKind V} (exact : IsExact kind) where
  found_of : (o : Option LedgerEntry) (v : V) → value_of kind o ≡ Some v
      → (e : LedgerEntry) × (o ≡ Some e) × (e.body ≡ kind.body_of v)
  found_of None v is = absurd (cc)
  found_of (Some e) v is = (e, refl, exact.body e.body v is)

  pub entry_found : (m : EntryMap) (k : LedgerKey) (v : V) → entry_at kind m k ≡ Some v
      → (e : LedgerEntry) × IsEntryOf kind m k v e
  entry_found m k v exists =
      let found = found_of (get m k) v exists in
      (found.0, record { there = found.1; is = found.2 })

  pub entry_exists : (m : EntryMap) (k : LedgerKey) (v : V) (e : LedgerEntry) → IsEntryOf kind m k v e
      → entry_at kind m k ≡ Some v
  entry_exists m k v e here = ap (value_of kind) here.there ∙ ap kind.value_in here.is ∙ exact.value v

  nothing_in : (k : LedgerKey) → ((b : LedgerEntryBody) → key_of_body b ≡ k → (v : V) × (b ≡ kind.body_of v))
      → (o : Option LedgerEntry) → ((e : LedgerEntry) → o ≡ Some e → key_of_body e.body ≡ k) → value_of kind o ≡ None
      → o ≡ None
  nothing_in k under None own none = refl
  nothing_in k under (Some e) own none =
      let found = under e.body (own e refl) in
      let holds = ap kind.value_in found.1 ∙ exact.value found.0 in
      absurd (cc)

  -- where no value is under a key of the kind, nothing is
  pub nothing_under : (m : EntryMap) (k : LedgerKey)
      → ((b : LedgerEntryBody) → key_of_body b ≡ k → (v : V) × (b ≡ kind.body_of v))
      → ((e : LedgerEntry) → get m k ≡ Some e → key_of_body e.body ≡ k) → entry_at kind m k ≡ None → get m k ≡ None
  nothing_under m k under own none = nothing_in k under (get m k) own none

  -- a value has the key under which its entry is
  pub own_key : (m : EntryMap) (k : LedgerKey) (v : V)
      → ((e : LedgerEntry) → get m k ≡ Some e → key_of_body e.body ≡ k) → entry_at kind m k ≡ Some v
      → key_of_body (kind.body_of v) ≡ k
  own_key m k v own exists =
      let found = entry_found m k v exists in
      sym (ap key_of_body found.1.is) ∙ own found.0 found.1.there

-- what holds of one value holds of any that is there
pub of_any : {V : Type 0} (P : V → Type 0) (o : Option V) (a : V) → o ≡ Some a → P a → (v : V) → o ≡ Some v → P v
of_any P o a exists holds v is = let same : a ≡ v = cc in subst P same holds

-- ---- entries, taken apart

module _ {V S : Type 0} {kind : EntryKind V} (exact : IsExact kind) (parts : LedgerEntry → V → S) where
  value_again : (read : S → V) (same : (e : LedgerEntry) (v : V) → read (parts e v) ≡ v) (e : LedgerEntry)
      (o : Option V) → o ≡ option_map read (option_map (parts e) o)
  value_again read same e None = refl
  value_again read same e (Some v) = ap Some (sym (same e v))

  -- the value of what was taken apart
  pub slot_value : (read : S → V) → ((e : LedgerEntry) (v : V) → read (parts e v) ≡ v) → (o : Option LedgerEntry)
      → value_of kind o ≡ option_map read (slot_of kind parts o)
  slot_value read same None = refl
  slot_value read same (Some e) = value_again read same e (kind.value_in e.body)

  parts_by : (s : S) (e : LedgerEntry) (o : Option V) → kind.value_in e.body ≡ o → Some s ≡ option_map (parts e) o
      → (v : V) × (e.body ≡ kind.body_of v) × (s ≡ parts e v)
  parts_by s e None holds is = absurd (cc)
  parts_by s e (Some v) holds is = (v, exact.body e.body v holds, (let same : s ≡ parts e v = cc in same))

  parts_of : (s : S) (m : EntryMap) (k : LedgerKey) (o : Option LedgerEntry) → get m k ≡ o
      → Some s ≡ slot_of kind parts o → (e : LedgerEntry) × (v : V) × IsEntryOf kind m k v e × (s ≡ parts e v)
  parts_of s m k None there is = absurd (cc)
  parts_of s m k (Some e) there is =
      let found = parts_by s e (kind.value_in e.body) refl is in
      (e, found.0, record { there = there; is = found.1 }, found.2)

  -- the entry that was taken apart
  pub slot_entry : (s : S) (m : EntryMap) (k : LedgerKey) → Some s ≡ slot_of kind parts (get m k)
      → (e : LedgerEntry) × (v : V) × IsEntryOf kind m k v e × (s ≡ parts e v)
  slot_entry s m k is = parts_of s m k (get m k) refl is

-- ---- changes

module _ {V : Type 0} {kind : EntryKind V} (exact : IsExact kind) (m : EntryMap) (k : LedgerKey) (f : V → V) where
  abbrev put_changed : LedgerEntry → V → EntryMap
  put_changed e v = put m (record e { body = kind.body_of (f v) })

  by_value : (P : EntryMap → Type 0) (e : LedgerEntry) → get m k ≡ Some e → (entry_at kind m k ≡ None → P m)
      → ((e : LedgerEntry) (v : V) → IsEntryOf kind m k v e → P (put_changed e v))
      → (o : Option V) → kind.value_in e.body ≡ o → P (with_value kind m f e o)
  by_value P e there missing changed None none = missing (ap (value_of kind) there ∙ none)
  by_value P e there missing changed (Some v) holds =
      changed e v (record { there = there; is = exact.body e.body v holds })

  by_found : (P : EntryMap → Type 0) → (entry_at kind m k ≡ None → P m)
      → ((e : LedgerEntry) (v : V) → IsEntryOf kind m k v e → P (put_changed e v))
      → (o : Option LedgerEntry) → get m k ≡ o → P (with_value_of kind m f o)
  by_found P missing changed None none = missing (ap (value_of kind) none)
  by_found P missing changed (Some e) there = by_value P e there missing changed (kind.value_in e.body) refl

  -- the map stays where nothing is to be changed, and else the changed entry is put
  pub either_way : (P : EntryMap → Type 0) → (entry_at kind m k ≡ None → P m)
      → ((e : LedgerEntry) (v : V) → IsEntryOf kind m k v e → P (put_changed e v)) → P (with_entry kind m k f)
  either_way P missing changed = by_found P missing changed (get m k) refl

  pub with_missing : entry_at kind m k ≡ None → with_entry kind m k f ≡ m
  with_missing none =
      either_way (λ n. n ≡ m) (λ same. refl) (λ e v here. let exists = entry_exists exact m k v e here in absurd (cc))

  pub with_found : (v : V) (e : LedgerEntry) → IsEntryOf kind m k v e → with_entry kind m k f ≡ put_changed e v
  with_found v e here =
      ap (with_value_of kind m f) here.there ∙ ap (λ b. with_value kind m f e (kind.value_in b)) here.is
      ∙ ap (with_value kind m f e) (exact.value v)

  -- what is under a key at which nothing is put
  pub with_beside : (q : LedgerKey) → ((v : V) → entry_at kind m k ≡ Some v → q ≢ key_of_body (kind.body_of (f v)))
      → get (with_entry kind m k f) q ≡ get m q
  with_beside q apart =
      either_way (λ n. get n q ≡ get m q) (λ none. refl)
      (λ e v here. put_elsewhere m (record e { body = kind.body_of (f v) }) q
      (apart v (entry_exists exact m k v e here)))

  -- what is under the key, where the changed entry has it
  pub with_there : ((v : V) → entry_at kind m k ≡ Some v → key_of_body (kind.body_of (f v)) ≡ k)
      → entry_at kind (with_entry kind m k f) k ≡ option_map f (entry_at kind m k)
  with_there own =
      either_way (λ n. entry_at kind n k ≡ option_map f (entry_at kind m k))
      (λ none. none ∙ sym (ap (option_map f) none))
      (λ e v here.
      let exists = entry_exists exact m k v e here in
      let now = record e { body = kind.body_of (f v) } in
      ap (entry_at kind (put m now)) (sym (own v exists)) ∙ ap (value_of kind) (put_there m now)
      ∙ exact.value (f v) ∙ sym (ap (option_map f) exists))

-- ---- two changes in one place

put_both : (m : EntryMap) (e x : LedgerEntry) → key_of x ≡ key_of e → (q : LedgerKey)
    → get (put (put m e) x) q ≡ get (put m x) q
put_both m e x same q = put_get (put m e) x q
    ∙ elim (eq_by_cmp key_cmp q (key_of x)) as (λ b. eq_by_cmp key_cmp q (key_of x) ≡ b
    → cond b (Some x) (get (put m e) q) ≡ cond b (Some x) (get m q)) [
      | true ↦ λ tied. refl
      | false ↦ λ apart. put_get m e q
          ∙ ap (λ b. cond b (Some e) (get m q)) (ap (eq_by_cmp key_cmp q) (sym same) ∙ apart)
    ] refl
    ∙ sym (put_get m x q)

-- an entry that is put in place of another one
put_twice : (m : EntryMap) (e x : LedgerEntry) → key_of x ≡ key_of e → put (put m e) x ≡ put m x
put_twice m e x same = same_map keys_total keys_exact _ _ (put_both m e x same)

-- a value that is changed twice
pub with_twice : {V : Type 0} {kind : EntryKind V} (exact : IsExact kind) (m : EntryMap) (k : LedgerKey) (f g : V → V)
    → ((v : V) → entry_at kind m k ≡ Some v → key_of_body (kind.body_of (f v)) ≡ k)
    → ((v : V) → entry_at kind m k ≡ Some v → key_of_body (kind.body_of (g (f v))) ≡ k)
    → with_entry kind (with_entry kind m k f) k g ≡ with_entry kind m k (λ v. g (f v))
with_twice {V} {kind} exact m k f g own also =
    either_way exact m k f (λ n. with_entry kind n k g ≡ with_entry kind m k (λ v. g (f v)))
    (λ none. with_missing exact m k g none ∙ sym (with_missing exact m k (λ v. g (f v)) none))
    (λ e v here.
    let exists = entry_exists exact m k v e here in
    let once : LedgerEntry = record e { body = kind.body_of (f v) } in
    let twice : LedgerEntry = record e { body = kind.body_of (g (f v)) } in
    let there : get (put m once) k ≡ Some once = ap (get (put m once)) (sym (own v exists)) ∙ put_there m once in
    with_found exact (put m once) k g (f v) once (record { there = there; is = refl })
    ∙ put_twice m once twice (also v exists ∙ sym (own v exists))
    ∙ sym (with_found exact m k (λ v. g (f v)) v e here))
