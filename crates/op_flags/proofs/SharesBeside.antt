-- What leaves pools, and lines of their shares, as they are.
use Rattle.entry_map.proofs.Lookups.{put_elsewhere}
use Rattle.entry_map.specs.EntryMap.{EntryMap, put}
use Rattle.entry_slots.specs.Accounts.{with_account}
use Rattle.entry_slots.specs.Lines.{with_line}
use Rattle.ledger_types.specs.Keys.{key_of}
use Rattle.ledger_types.specs.declared.account.AccountEntry.{AccountEntry}
use Rattle.ledger_types.specs.declared.asset.Asset.{Asset}
use Rattle.ledger_types.specs.declared.asset.TrustLineAsset.{TrustLineAsset}
use Rattle.ledger_types.specs.declared.entry.LedgerEntry.{LedgerEntry}
use Rattle.ledger_types.specs.declared.ids.AccountId.{AccountId}
use Rattle.ledger_types.specs.declared.key.LedgerKey.{LedgerKey}
use Rattle.ledger_types.specs.declared.offer.OfferEntry.{OfferEntry}
use Rattle.ledger_types.specs.declared.trust_line.TrustLineEntry.{TrustLineEntry}
use Rattle.legal_rules.proofs.Leaving.{keyed_put}
use Rattle.legal_rules.specs.Binding.{binding, bound_account, bound_line, releasing}
use Rattle.legal_rules.specs.Holdings.{IsKeyed}
use Rattle.legal_rules.specs.OfferLiabilities.{bound_of}
use Rattle.legal_rules.specs.ShareLaws.{map_with_uses, map_with_uses_at, with_uses}
use Rattle.legal_rules.specs.Trades.{holder}
use Rattle.offer_book.specs.Book.{offers_by}
use Rattle.op_flags.specs.LineFlags.{map_after_flagging, map_after_revoking, with_flags}
use Rattle.op_flags.specs.Revoking.{map_after_cancelling_all, map_without_offers, trades_in}
use Rattle.op_form.specs.Assets.{line_asset_of}
use Rattle.pool_shares.proofs.Beside.{IsNoAccount, account_beside, account_keyed, line_beside, line_keyed}
use Rattle.pool_shares.proofs.Beside.{removing_beside, removing_keyed}
use Rattle.sponsor_rules.proofs.Keeping.{with_count_core}
use Rattle.sponsor_rules.specs.Counting.{with_more}
use Rattle.sponsor_rules.specs.Payers.{is_same_account}
use Rattle.sponsor_rules.specs.Paying.{map_after_charging}
use Rattle.sponsor_rules.specs.Removing.{map_after_removing}
use Rattle.sponsor_rules.specs.declared.count.Count.TheVariants.{Sponsoring}
use Rattle.std.proofs.Common.{refl, subst, ◌∙◌}
use Rattle.std.specs.FinMap.{get}
use Rattle.std.specs.List.{filter}
use Rattle.std.specs.Prelude.{Bool, List, None, Option, Some, [], false, if◌then◌else◌, neg_ℤ, pos, true, ℕ, ℤ, ◌∷◌}
use Rattle.std.specs.Prelude.{◌≡◌, ◌≢◌}
use Rattle.trade_cross.specs.Cancelling.{map_after_cancelling}
use Rattle.trade_cross.specs.Crossing.{offer_key}
use Rattle.ledger_types.specs.declared.asset.Asset.TheVariants as asset
use Rattle.ledger_types.specs.declared.asset.TrustLineAsset.TheVariants as line
use Rattle.ledger_types.specs.declared.key.LedgerKey.TheVariants as key

-- the keys of pools and of lines of their shares
abbrev pub IsOfPools : LedgerKey → Type 0
IsOfPools (key.LiquidityPool pool) = Unit {0}
IsOfPools (key.TrustLine id (line.PoolShare pool)) = Unit {0}
IsOfPools other = ⊥

-- pools and lines of their shares stay as they were
pub record KeepsPools (m n : EntryMap) : Type 0 where
  pub keyed : IsKeyed n
  pub same : (q : LedgerKey) → IsOfPools q → get n q ≡ get m q

pub keeps_itself : (m : EntryMap) → IsKeyed m → KeepsPools m m
keeps_itself m keyed = record { keyed = keyed; same = λ q ours. refl }

pub keeps_twice : (a b c : EntryMap) → KeepsPools a b → KeepsPools b c → KeepsPools a c
keeps_twice a b c first second =
    record { keyed = second.keyed; same = λ q ours. second.same q ours ∙ first.same q ours }

-- a key that is none of them is another one
pub another_key : (q k : LedgerKey) → IsOfPools q → (IsOfPools k → ⊥) → q ≢ k
another_key q k ours not same = not (subst IsOfPools same ours)

pub no_account : (q : LedgerKey) → IsOfPools q → IsNoAccount q
no_account q ours id = another_key q (key.Account id) ours (λ none. none)

-- ---- accounts and lines

pub account_keeps : (m : EntryMap) (id : AccountId) (f : AccountEntry → AccountEntry)
    → ((a : AccountEntry) → (f a).account_id ≡ a.account_id) → IsKeyed m → KeepsPools m (with_account m id f)
account_keeps m id f named keyed = record {
  keyed = account_keyed m id f keyed;
  same = λ q ours. account_beside m keyed id f named q (no_account q ours id);
}

pub line_keeps : (m : EntryMap) (id : AccountId) (held : TrustLineAsset) (f : TrustLineEntry → TrustLineEntry)
    → ((t : TrustLineEntry) → key.TrustLine (f t).account_id (f t).asset ≡ key.TrustLine t.account_id t.asset)
    → (IsOfPools (key.TrustLine id held) → ⊥) → IsKeyed m → KeepsPools m (with_line m id held f)
line_keeps m id held f named not keyed = record {
  keyed = line_keyed m id held f keyed;
  same = λ q ours. line_beside m keyed id held f named q (another_key q (key.TrustLine id held) ours not);
}

pub removing_keeps : (k : LedgerKey) (m : EntryMap) → (IsOfPools k → ⊥) → IsKeyed m
    → KeepsPools m (map_after_removing k m)
removing_keeps k m not keyed = record {
  keyed = removing_keyed k m keyed;
  same = λ q ours. removing_beside k m keyed q (another_key q k ours not) (no_account q ours);
}

pub charging_keeps : (k : ℕ) (payer : Option AccountId) (m : EntryMap) → IsKeyed m
    → KeepsPools m (map_after_charging k payer m)
charging_keeps k None m keyed = keeps_itself m keyed
charging_keeps k (Some payer) m keyed =
    account_keeps m payer (with_more Sponsoring k) (λ a. (with_count_core Sponsoring _ a).id) keyed

pub putting_keeps : (m : EntryMap) (e : LedgerEntry) → (IsOfPools (key_of e) → ⊥) → IsKeyed m
    → KeepsPools m (put m e)
putting_keeps m e not keyed = record {
  keyed = keyed_put m e keyed;
  same = λ q ours. put_elsewhere m e q (another_key q (key_of e) ours not);
}

-- ---- what an account holds is in no pool's shares

uses_of_line : (n : ℤ) (id : AccountId) (held : TrustLineAsset) (m : EntryMap) (issues : Bool)
    → (IsOfPools (key.TrustLine id held) → ⊥) → IsKeyed m
    → KeepsPools m (map_with_uses_at n (if issues then None else Some (key.TrustLine id held)) m)
uses_of_line n id held m true not keyed = keeps_itself m keyed
uses_of_line n id held m false not keyed = line_keeps m id held (with_uses n) (λ t. refl) not keyed

pub uses_keep : (n : ℤ) (id : AccountId) (x : Asset) (m : EntryMap) → IsKeyed m
    → KeepsPools m (map_with_uses n id x m)
uses_keep n id asset.Native m keyed = keeps_itself m keyed
uses_keep n id (asset.Alphanum4 code issuer) m keyed =
    uses_of_line n id (line.Alphanum4 code issuer) m (is_same_account issuer id) (λ none. none) keyed
uses_keep n id (asset.Alphanum12 code issuer) m keyed =
    uses_of_line n id (line.Alphanum12 code issuer) m (is_same_account issuer id) (λ none. none) keyed

binding_line : (id : AccountId) (held : TrustLineAsset) (selling buying : ℤ) (m : EntryMap) (issues : Bool)
    → (IsOfPools (key.TrustLine id held) → ⊥) → IsKeyed m
    → KeepsPools m (binding (if issues then None else Some (key.TrustLine id held)) selling buying m)
binding_line id held selling buying m true not keyed = keeps_itself m keyed
binding_line id held selling buying m false not keyed =
    line_keeps m id held (bound_line selling buying) (λ t. refl) not keyed

binding_keeps : (id : AccountId) (x : Asset) (selling buying : ℤ) (m : EntryMap) → IsKeyed m
    → KeepsPools m (binding (holder id x) selling buying m)
binding_keeps id asset.Native selling buying m keyed =
    account_keeps m id (bound_account selling buying) (λ a. refl) keyed
binding_keeps id (asset.Alphanum4 code issuer) selling buying m keyed =
    binding_line id (line.Alphanum4 code issuer) selling buying m (is_same_account issuer id) (λ none. none) keyed
binding_keeps id (asset.Alphanum12 code issuer) selling buying m keyed =
    binding_line id (line.Alphanum12 code issuer) selling buying m (is_same_account issuer id) (λ none. none) keyed

-- ---- offers that go with an authorisation

releasing_keeps : (o : OfferEntry) (m : EntryMap) → IsKeyed m → KeepsPools m (releasing o m)
releasing_keeps o m keyed =
    let sold = binding (holder o.seller_id o.selling) (neg_ℤ (pos (bound_of o).wheat)) (pos 0) m in
    let first = binding_keeps o.seller_id o.selling (neg_ℤ (pos (bound_of o).wheat)) (pos 0) m keyed in
    keeps_twice m sold (releasing o m) first
    (binding_keeps o.seller_id o.buying (pos 0) (neg_ℤ (pos (bound_of o).sheep)) sold first.keyed)

cancelling_keeps : (o : OfferEntry) (m : EntryMap) → IsKeyed m → KeepsPools m (map_after_cancelling o m)
cancelling_keeps o m keyed =
    let first = releasing_keeps o m keyed in
    keeps_twice m (releasing o m) (map_after_cancelling o m) first
    (removing_keeps (offer_key o) (releasing o m) (λ none. none) first.keyed)

all_cancelled : (os : List OfferEntry) (m : EntryMap) → IsKeyed m → KeepsPools m (map_after_cancelling_all os m)
all_cancelled [] m keyed = keeps_itself m keyed
all_cancelled (o ∷ os) m keyed =
    let first = cancelling_keeps o m keyed in
    keeps_twice m (map_after_cancelling o m) (map_after_cancelling_all os (map_after_cancelling o m)) first
    (all_cancelled os (map_after_cancelling o m) first.keyed)

offers_keep : (trustor : AccountId) (held : Asset) (m : EntryMap) → IsKeyed m
    → KeepsPools m (map_without_offers trustor held m)
unfolding map_without_offers
offers_keep trustor held m keyed = all_cancelled (filter (trades_in held) (offers_by m trustor)) m keyed

revoking_keeps : (trustor : AccountId) (held : Asset) (revoked : Bool) (m : EntryMap) → IsKeyed m
    → KeepsPools m (map_after_revoking trustor held revoked m)
revoking_keeps trustor held true m keyed = offers_keep trustor held m keyed
revoking_keeps trustor held false m keyed = keeps_itself m keyed

no_shares : (id : AccountId) (held : Asset) → IsOfPools (key.TrustLine id (line_asset_of held)) → ⊥
no_shares id asset.Native none = none
no_shares id (asset.Alphanum4 code issuer) none = none
no_shares id (asset.Alphanum12 code issuer) none = none

-- a line that has its new flags, and the offers that go with it
pub flagging_keeps : (trustor : AccountId) (held : Asset) (flags : ℕ) (revoked : Bool) (m : EntryMap) → IsKeyed m
    → KeepsPools m (map_after_flagging trustor held flags revoked m)
flagging_keeps trustor held flags revoked m keyed =
    let first = revoking_keeps trustor held revoked m keyed in
    let left = map_after_revoking trustor held revoked m in
    keeps_twice m left (map_after_flagging trustor held flags revoked m) first
    (line_keeps left trustor (line_asset_of held) (with_flags flags) (λ t. refl) (no_shares trustor held) first.keyed)
