-- Changes of a balance alone, and of what is bound alone.
use Rattle.std.specs.Prelude.{ℤ, pos, neg_ℤ, Option}
use Rattle.ledger_types.specs.declared.offer.OfferEntry.{OfferEntry}
use Rattle.ledger_types.specs.declared.key.LedgerKey.{LedgerKey}
use Rattle.entry_map.specs.EntryMap.{EntryMap}
use Rattle.legal_rules.specs.Binding.{binding}
use Rattle.legal_rules.specs.OfferLiabilities.{bound_of}
use Rattle.trade_cross.specs.Crossing.{seller_gives_at, seller_takes_at}
use Rattle.trade_cross.specs.declared.holding.Change.{Change}
use Rattle.trade_cross.specs.Locations.{DoesChangeFit}

abbrev pub payment : ℤ → Change
payment n = record { balance = n; selling = pos 0; buying = pos 0 }

abbrev pub bond : (selling buying : ℤ) → Change
bond selling buying = record { balance = pos 0; selling = selling; buying = buying }

-- so much more, which may be below 0, fits what is under the key of an account or a line
abbrev pub DoesPaymentFit : EntryMap → Option LedgerKey → ℤ → Type 0
DoesPaymentFit m k n = DoesChangeFit m k (payment n)

abbrev pub DoesBondFit : EntryMap → Option LedgerKey → (selling buying : ℤ) → Type 0
DoesBondFit m k selling buying = DoesChangeFit m k (bond selling buying)

-- ---- both sides of an offer

abbrev pub both_bound : OfferEntry → (selling buying : ℤ) → EntryMap → EntryMap
both_bound o selling buying m =
    binding (seller_takes_at o) (pos 0) buying (binding (seller_gives_at o) selling (pos 0) m)

pub record DoBondsFit (o : OfferEntry) (selling buying : ℤ) (m : EntryMap) : Type 0 where
  pub gives : DoesBondFit m (seller_gives_at o) selling (pos 0)
  pub takes : DoesBondFit (binding (seller_gives_at o) selling (pos 0) m) (seller_takes_at o) (pos 0) buying

-- what an offer binds can be bound, or released
abbrev pub DoesAcquireFit : OfferEntry → EntryMap → Type 0
DoesAcquireFit o m = DoBondsFit o (pos (bound_of o).wheat) (pos (bound_of o).sheep) m

abbrev pub DoesReleaseFit : OfferEntry → EntryMap → Type 0
DoesReleaseFit o m = DoBondsFit o (neg_ℤ (pos (bound_of o).wheat)) (neg_ℤ (pos (bound_of o).sheep)) m
