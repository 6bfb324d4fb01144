-- An entry of one kind that changes, in a map of which an invariant holds.
use Rattle.entry_map.specs.EntryMap.{EntryMap}
use Rattle.entry_slots.specs.Accounts.{account_at, with_account}
use Rattle.entry_slots.specs.DataEntries.{with_data}
use Rattle.entry_slots.specs.Lines.{with_line}
use Rattle.entry_slots.specs.Offers.{with_offer}
use Rattle.entry_slots.specs.Pools.{pool_at, with_pool}
use Rattle.entry_slots.specs.Tests.{unless_fault}
use Rattle.ledger_types.specs.declared.account.AccountEntry.{AccountEntry}
use Rattle.ledger_types.specs.declared.asset.TrustLineAsset.{TrustLineAsset}
use Rattle.ledger_types.specs.declared.data_entry.DataEntry.{DataEntry}
use Rattle.ledger_types.specs.declared.ids.AccountId.{AccountId}
use Rattle.ledger_types.specs.declared.ids.Hash.{Hash}
use Rattle.ledger_types.specs.declared.key.LedgerKey.{LedgerKey}
use Rattle.ledger_types.specs.declared.liquidity_pool.LiquidityPoolEntry.{LiquidityPoolEntry}
use Rattle.ledger_types.specs.declared.offer.OfferEntry.{OfferEntry}
use Rattle.ledger_types.specs.declared.trust_line.TrustLineEntry.{TrustLineEntry}
use Rattle.std.proofs.Common.{IfOk, subst}
use Rattle.std.specs.Prelude.{Bool, IfSome, List, None, Option, Result, Some, false, if◌then◌else◌, true, ℕ, ℤ, ◌≡◌}
use Rattle.sponsor_rules.proofs.Entries.{FitsBody, Invariant}
use Rattle.ledger_types.specs.declared.key.LedgerKey.TheVariants as key
use Rattle.entry_slots.specs.EntryKinds.{EntryKind, entry_at, with_entry}
use Rattle.entry_slots.proofs.ChangedEntries.{IsExact, accounts_exact, data_exact, either_way, entry_exists}
use Rattle.entry_slots.proofs.ChangedEntries.{lines_exact, offers_exact, pools_exact}

-- a map that may be made
pub record HoldsIf {F : Type 0} (v : Invariant) (made : Result EntryMap F) : Type 0 where
  pub holds : IfOk made v.Holds

pub unless_holds : {F : Type 0} (v : Invariant) (found : Option F) (m : EntryMap) → v.Holds m
    → HoldsIf v (unless_fault found m)
unless_holds v None m holds = record { holds = holds }
unless_holds v (Some fault) m holds = record { holds = tt }

-- a map that may be there
pub record HoldsIfSome (v : Invariant) (found : Option EntryMap) : Type 0 where
  pub holds : IfSome found v.Holds

pub some_unless : (v : Invariant) (b : Bool) (m : EntryMap) → v.Holds m
    → HoldsIfSome v (if b then None else Some m)
some_unless v true m holds = record { holds = tt }
some_unless v false m holds = record { holds = holds }

-- a value that changes in its place, where it fits then as well
pub entry_changed : {V : Type 0} {kind : EntryKind V} (exact : IsExact kind) (v : Invariant) (m : EntryMap)
    (k : LedgerKey) (change : V → V)
    → ((x : V) → entry_at kind m k ≡ Some x → FitsBody v.of (kind.body_of x)
    → FitsBody v.of (kind.body_of (change x))) → v.Holds m → v.Holds (with_entry kind m k change)
entry_changed {V} {kind} exact v m k change keep holds =
    either_way exact m k change v.Holds (λ none. holds)
    (λ e x here.
    let fits = v.found m k e holds here.there in
    v.putting m (record e { body = kind.body_of (change x) }) holds (record {
      body = keep x (entry_exists exact m k x e here) (subst (FitsBody v.of) here.is fits.body);
      sponsor = fits.sponsor;
    }))

-- the account at hand changes
pub one_changed : (v : Invariant) (m : EntryMap) (id : AccountId) (change : AccountEntry → AccountEntry)
    → ((a : AccountEntry) → account_at m id ≡ Some a → v.of.Account a → v.of.Account (change a)) → v.Holds m
    → v.Holds (with_account m id change)
unfolding account_at with_account
one_changed v m id change keep holds = entry_changed accounts_exact v m (key.Account id) change keep holds

pub account_changed : (v : Invariant) (change : AccountEntry → AccountEntry)
    → ((a : AccountEntry) → v.of.Account a → v.of.Account (change a)) → (m : EntryMap) (id : AccountId) → v.Holds m
    → v.Holds (with_account m id change)
account_changed v change keep m id holds = one_changed v m id change (λ a at. keep a) holds

pub line_changed : (v : Invariant) (change : TrustLineEntry → TrustLineEntry)
    → ((t : TrustLineEntry) → v.of.Line t → v.of.Line (change t)) → (m : EntryMap) (id : AccountId)
    (held : TrustLineAsset) → v.Holds m → v.Holds (with_line m id held change)
unfolding with_line
line_changed v change keep m id held holds =
    entry_changed lines_exact v m (key.TrustLine id held) change (λ t exists. keep t) holds

pub pool_changed : (v : Invariant) (m : EntryMap) (pool : Hash) (change : LiquidityPoolEntry → LiquidityPoolEntry)
    → ((p : LiquidityPoolEntry) → pool_at m pool ≡ Some p → v.of.Pool p → v.of.Pool (change p)) → v.Holds m
    → v.Holds (with_pool m pool change)
unfolding pool_at with_pool
pool_changed v m pool change keep holds = entry_changed pools_exact v m (key.LiquidityPool pool) change keep holds

pub data_changed : (v : Invariant) (change : DataEntry → DataEntry)
    → ((d : DataEntry) → v.of.Data d → v.of.Data (change d)) → (m : EntryMap) (id : AccountId) (name : List ℕ)
    → v.Holds m → v.Holds (with_data m id name change)
unfolding with_data
data_changed v change keep m id name holds =
    entry_changed data_exact v m (key.Data id name) change (λ d exists. keep d) holds

pub offer_changed : (v : Invariant) (change : OfferEntry → OfferEntry)
    → ((o : OfferEntry) → v.of.Offer o → v.of.Offer (change o)) → (m : EntryMap) (seller : AccountId) (number : ℤ)
    → v.Holds m → v.Holds (with_offer m seller number change)
unfolding with_offer
offer_changed v change keep m seller number holds =
    entry_changed offers_exact v m (key.Offer seller number) change (λ o exists. keep o) holds
