-- What a change of one entry leaves of the others.
use Rattle.pool_shares.proofs.Prelude as prelude
use prelude.{◌≡◌, ◌≢◌, refl, sym, ap, ◌∙◌, ℕ, Option, Some, None, ℤ, get, AccountId, Hash, TrustLineAsset, AccountEntry}
use prelude.{TrustLineEntry, LiquidityPoolEntry, LedgerEntry, LedgerKey, key_of_body, EntryMap, with_account}
use prelude.{sponsor_of, with_line, pool_slot_at, with_pool, map_after_releasing, without_subentry, with_less_paid}
use prelude.{map_without_charge, map_after_removing_entry, map_after_removing, IsKeyed, line_paid, paying}
use prelude.{erase_elsewhere, pool_kind, pool_slot, IsExact, accounts_exact, lines_exact, pools_exact, with_beside}
use prelude.{own_key, keyed_after}
use Rattle.sponsor_rules.specs.Counting.{with_less}
use Rattle.trade_cross.specs.legal_rules.Payments.{paid}
use Rattle.ledger_types.specs.declared.key.LedgerKey.TheVariants as key
use Rattle.trade_cross.proofs.entry_sums_proofs.Lookups.{erase_each}
use Rattle.sponsor_rules.specs.declared.charge.Charge.{Charge}
use Rattle.sponsor_rules.specs.declared.charge.Charge.TheVariants as charge
use Rattle.sponsor_rules.specs.declared.count.Count.TheVariants.{SubEntries, Sponsoring, Sponsored}
use Rattle.sponsor_rules.specs.Charge.{charge_of}
use Rattle.sponsor_rules.proofs.Keeping.{with_count_core}
use Rattle.entry_slots.specs.EntryKinds.{EntryKind, slot_of, with_entry}

-- ---- pools stay when a line changes

pub pools_still : (m : EntryMap) (id : AccountId) (held : TrustLineAsset) (f : TrustLineEntry → TrustLineEntry)
    (pool : Hash) → pool_slot_at (with_line m id held f) pool ≡ pool_slot_at m pool
unfolding with_line
pools_still m id held f pool = ap (slot_of pool_kind pool_slot)
    (with_beside lines_exact m (key.TrustLine id held) f (key.LiquidityPool pool) (λ t exists same. absurd (cc)))

-- ---- an entry that is changed

module _ {V : Type 0} {kind : EntryKind V} (exact : IsExact kind) (m : EntryMap) (keyed : IsKeyed m) (k : LedgerKey)
    (f : V → V) where
  beside : ((v : V) → key_of_body (kind.body_of (f v)) ≡ key_of_body (kind.body_of v)) → (q : LedgerKey) → q ≢ k
      → get (with_entry kind m k f) q ≡ get m q
  beside keeps q apart = with_beside exact m k f q (λ v exists same.
      apart (same ∙ keeps v ∙ own_key exact m k v (keyed k) exists))

pub account_beside : (m : EntryMap) → IsKeyed m → (id : AccountId) (f : AccountEntry → AccountEntry)
    → ((a : AccountEntry) → (f a).account_id ≡ a.account_id) → (q : LedgerKey) → q ≢ key.Account id
    → get (with_account m id f) q ≡ get m q
unfolding with_account
account_beside m keyed id f keeps = beside accounts_exact m keyed (key.Account id) f (λ a. ap key.Account (keeps a))

pub account_keyed : (m : EntryMap) (id : AccountId) (f : AccountEntry → AccountEntry) → IsKeyed m
    → IsKeyed (with_account m id f)
unfolding with_account
account_keyed m id f keyed = keyed_after accounts_exact m (key.Account id) f keyed

pub line_beside : (m : EntryMap) → IsKeyed m → (id : AccountId) (held : TrustLineAsset)
    (f : TrustLineEntry → TrustLineEntry)
    → ((t : TrustLineEntry) → key.TrustLine (f t).account_id (f t).asset ≡ key.TrustLine t.account_id t.asset)
    → (q : LedgerKey) → q ≢ key.TrustLine id held → get (with_line m id held f) q ≡ get m q
unfolding with_line
line_beside m keyed id held f keeps = beside lines_exact m keyed (key.TrustLine id held) f keeps

pub line_keyed : (m : EntryMap) (id : AccountId) (held : TrustLineAsset) (f : TrustLineEntry → TrustLineEntry)
    → IsKeyed m → IsKeyed (with_line m id held f)
unfolding with_line
line_keyed m id held f keyed = keyed_after lines_exact m (key.TrustLine id held) f keyed

pub pool_beside : (m : EntryMap) → IsKeyed m → (pool : Hash) (f : LiquidityPoolEntry → LiquidityPoolEntry)
    → ((p : LiquidityPoolEntry) → (f p).pool_id ≡ p.pool_id) → (q : LedgerKey) → q ≢ key.LiquidityPool pool
    → get (with_pool m pool f) q ≡ get m q
unfolding with_pool
pool_beside m keyed pool f keeps =
    beside pools_exact m keyed (key.LiquidityPool pool) f (λ p. ap key.LiquidityPool (keeps p))

pub pool_keyed : (m : EntryMap) (pool : Hash) (f : LiquidityPoolEntry → LiquidityPoolEntry) → IsKeyed m
    → IsKeyed (with_pool m pool f)
unfolding with_pool
pool_keyed m pool f keyed = keyed_after pools_exact m (key.LiquidityPool pool) f keyed

-- ---- a payment

pub paying_beside : (m : EntryMap) → IsKeyed m → (k : Option LedgerKey) (n : ℤ) (q : LedgerKey) → k ≢ Some q
    → get (paying k n m) q ≡ get m q
paying_beside m keyed (Some (key.Account id)) n q apart =
    account_beside m keyed id (paid n) (λ a. refl) q (λ same. apart (ap Some (sym same)))
paying_beside m keyed (Some (key.TrustLine id held)) n q apart =
    line_beside m keyed id held (line_paid n) (λ t. refl) q (λ same. apart (ap Some (sym same)))
paying_beside m keyed other n q apart = refl

pub paying_keyed : (m : EntryMap) → IsKeyed m → (k : Option LedgerKey) (n : ℤ) → IsKeyed (paying k n m)
paying_keyed m keyed (Some (key.Account id)) n = account_keyed m id (paid n) keyed
paying_keyed m keyed (Some (key.TrustLine id held)) n = line_keyed m id held (line_paid n) keyed
paying_keyed m keyed other n = keyed

-- ---- an entry that is removed

-- a key that is no account's
abbrev pub IsNoAccount : LedgerKey → Type 0
IsNoAccount q = (id : AccountId) → q ≢ key.Account id

less_paid : (k : ℕ) (sponsor : Option AccountId) (a : AccountEntry)
    → (with_less_paid k sponsor a).account_id ≡ a.account_id
less_paid k None a = refl
less_paid k (Some sponsor) a = (with_count_core Sponsored _ a).id

fewer : (k : ℕ) (sponsor : Option AccountId) (a : AccountEntry)
    → (without_subentry k sponsor a).account_id ≡ a.account_id
fewer k sponsor a = less_paid k sponsor (with_less SubEntries k a) ∙ (with_count_core SubEntries _ a).id

releasing_beside : (k : ℕ) (sponsor : Option AccountId) (m : EntryMap) → IsKeyed m → (q : LedgerKey) → IsNoAccount q
    → get (map_after_releasing k sponsor m) q ≡ get m q
releasing_beside k None m keyed q plain = refl
releasing_beside k (Some sponsor) m keyed q plain =
    account_beside m keyed sponsor (with_less Sponsoring k) (λ a. (with_count_core Sponsoring _ a).id) q
    (plain sponsor)

releasing_keyed : (k : ℕ) (sponsor : Option AccountId) (m : EntryMap) → IsKeyed m
    → IsKeyed (map_after_releasing k sponsor m)
releasing_keyed k None m keyed = keyed
releasing_keyed k (Some sponsor) m keyed = account_keyed m sponsor (with_less Sponsoring k) keyed

charge_beside : (c : Charge) (sponsor : Option AccountId) (m : EntryMap) → IsKeyed m → (q : LedgerKey) → IsNoAccount q
    → get (map_without_charge c sponsor m) q ≡ get m q
charge_beside (charge.Itself id) sponsor m keyed q plain = releasing_beside 2 sponsor m keyed q plain
charge_beside (charge.Subentry owner k) sponsor m keyed q plain =
    account_beside (map_after_releasing k sponsor m) (releasing_keyed k sponsor m keyed) owner
    (without_subentry k sponsor) (fewer k sponsor) q (plain owner)
    ∙ releasing_beside k sponsor m keyed q plain
charge_beside (charge.Payer k) sponsor m keyed q plain = releasing_beside k sponsor m keyed q plain
charge_beside charge.Nobody sponsor m keyed q plain = refl

charge_keyed : (c : Charge) (sponsor : Option AccountId) (m : EntryMap) → IsKeyed m
    → IsKeyed (map_without_charge c sponsor m)
charge_keyed (charge.Itself id) sponsor m keyed = releasing_keyed 2 sponsor m keyed
charge_keyed (charge.Subentry owner k) sponsor m keyed =
    account_keyed (map_after_releasing k sponsor m) owner (without_subentry k sponsor)
    (releasing_keyed k sponsor m keyed)
charge_keyed (charge.Payer k) sponsor m keyed = releasing_keyed k sponsor m keyed
charge_keyed charge.Nobody sponsor m keyed = keyed

module _ (k : LedgerKey) (m : EntryMap) (keyed : IsKeyed m) where
  removed_beside : (q : LedgerKey) → q ≢ k → IsNoAccount q → (o : Option LedgerEntry)
      → get (map_after_removing_entry k m o) q ≡ get m q
  removed_beside q apart plain None = refl
  removed_beside q apart plain (Some e) =
      erase_elsewhere (map_without_charge (charge_of e.body) (sponsor_of e) m) k q apart
      ∙ charge_beside (charge_of e.body) (sponsor_of e) m keyed q plain

  pub removing_beside : (q : LedgerKey) → q ≢ k → IsNoAccount q → get (map_after_removing k m) q ≡ get m q
  removing_beside q apart plain = removed_beside q apart plain (get m k)

  removed_keyed : (o : Option LedgerEntry) → IsKeyed (map_after_removing_entry k m o)
  removed_keyed None = keyed
  removed_keyed (Some e) =
      erase_each _ (map_without_charge (charge_of e.body) (sponsor_of e) m) k
      (charge_keyed (charge_of e.body) (sponsor_of e) m keyed)

  pub removing_keyed : IsKeyed (map_after_removing k m)
  removing_keyed = removed_keyed (get m k)
