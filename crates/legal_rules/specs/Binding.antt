-- Liabilities that are acquired and released where an offer's owner holds its assets (CAP-0003;
-- acquireOrReleaseLiabilities in stellar-core).
use Rattle.std.specs.Prelude.{◌≡◌, ◌≢◌, ◌%◌, ℤ, pos, neg_ℤ, ◌+ℤ◌, Option, Some, None}
use Rattle.hash_ids.specs.ledger_types.declared.price.Liabilities.{Liabilities}
use Rattle.hash_ids.specs.ledger_types.declared.account.AccountEntry.{AccountEntry}
use Rattle.hash_ids.specs.ledger_types.declared.trust_line.TrustLineEntry.{TrustLineEntry}
use Rattle.hash_ids.specs.ledger_types.declared.offer.OfferEntry.{OfferEntry}
use Rattle.hash_ids.specs.ledger_types.declared.key.LedgerKey.{LedgerKey}
use Rattle.hash_ids.specs.ledger_types.declared.key.LedgerKey.TheVariants as key
use Rattle.entry_sums.specs.entry_map.EntryMap.{EntryMap}
use Rattle.sponsor_laws.specs.entry_slots.Accounts.{account_at, with_account}
use Rattle.sponsor_laws.specs.entry_slots.AccountExtensions.{account_liabilities, with_account_liabilities}
use Rattle.sponsor_laws.specs.entry_slots.Lines.{line_at, with_line}
use Rattle.sponsor_laws.specs.entry_slots.LineExtensions.{line_liabilities, with_line_liabilities}
use Rattle.sponsor_laws.specs.reserve_rules.Reserve.{IsInRange, IsLineInRange}
use Rattle.legal_rules.specs.OfferLiabilities.{bound_of}
use Rattle.legal_rules.specs.Trades.{holder}

-- liabilities that rise by these, which may be below 0
abbrev pub risen : (selling buying : ℤ) → Liabilities → Liabilities
risen selling buying was = record { buying = was.buying +ℤ buying; selling = was.selling +ℤ selling }

abbrev pub bound_account : (selling buying : ℤ) → AccountEntry → AccountEntry
bound_account selling buying a = with_account_liabilities (risen selling buying (account_liabilities a)) a

abbrev pub bound_line : (selling buying : ℤ) → TrustLineEntry → TrustLineEntry
bound_line selling buying t = with_line_liabilities (risen selling buying (line_liabilities t)) t

-- the map, in which the liabilities of what is under the key of an account or a line rise by these
abbrev pub binding : Option LedgerKey → (selling buying : ℤ) → EntryMap → EntryMap
binding (Some (key.Account id)) selling buying m = with_account m id (bound_account selling buying)
binding (Some (key.TrustLine id asset)) selling buying m = with_line m id asset (bound_line selling buying)
binding other selling buying m = m

-- what an offer binds is bound in what its owner holds
abbrev pub acquiring : OfferEntry → EntryMap → EntryMap
acquiring o m = binding (holder o.seller_id o.buying) (pos 0) (pos (bound_of o).sheep)
    (binding (holder o.seller_id o.selling) (pos (bound_of o).wheat) (pos 0) m)

-- and released
abbrev pub releasing : OfferEntry → EntryMap → EntryMap
releasing o m = binding (holder o.seller_id o.buying) (pos 0) (neg_ℤ (pos (bound_of o).sheep))
    (binding (holder o.seller_id o.selling) (neg_ℤ (pos (bound_of o).wheat)) (pos 0) m)

-- what is bound under the key of an account or a line stays in its range, and a line is authorised
abbrev pub CanBind : EntryMap → Option LedgerKey → (selling buying : ℤ) → Type 0
CanBind m None selling buying = Unit {0}
CanBind m (Some (key.Account id)) selling buying =
    (a : AccountEntry) × (account_at m id ≡ Some a) × IsInRange (bound_account selling buying a)
CanBind m (Some (key.TrustLine id asset)) selling buying =
    (t : TrustLineEntry) × (line_at m id asset ≡ Some t) × IsLineInRange (bound_line selling buying t)
    × (t.flags % 4 ≢ 0)
CanBind m (Some other) selling buying = ⊥

-- the same for both sides of an offer, the selling first
abbrev pub CanBindBoth : OfferEntry → (wheat sheep : ℤ) → EntryMap → Type 0
CanBindBoth o wheat sheep m =
    CanBind m (holder o.seller_id o.selling) wheat (pos 0)
    × CanBind (binding (holder o.seller_id o.selling) wheat (pos 0) m) (holder o.seller_id o.buying) (pos 0) sheep
