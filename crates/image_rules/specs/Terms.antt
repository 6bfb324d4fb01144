-- What entries in their ranges have, which determines what they bind and count.
use Rattle.std.specs.Prelude.{◌≡◌, pos, ◌≤ℤ◌}
use Rattle.std.specs.declared.cmp.Ordering.TheVariants.{Less}
use Rattle.ledger_types.specs.declared.entry.LedgerEntryBody.{LedgerEntryBody}
use Rattle.ledger_types.specs.declared.entry.LedgerEntryBody.TheVariants as body
use Rattle.ledger_types.specs.declared.offer.OfferEntry.{OfferEntry}
use Rattle.ledger_types.specs.KeyOrder.{asset_cmp}
use Rattle.ledger_types.specs.Prices.{IsPriced}

-- an amount of at least 0, and a price whose parts are at least 1
pub record HasTerms (o : OfferEntry) : Type 0 where
  pub amount : pos 0 ≤ℤ o.amount
  pub price : IsPriced o.price

-- an offer has those terms, a line has a balance of at least 0, and the assets of a pool are in their order
abbrev pub AreTerms : LedgerEntryBody → Type 0
AreTerms (body.Offer offer) = HasTerms offer
AreTerms (body.TrustLine line) = pos 0 ≤ℤ line.balance
AreTerms (body.LiquidityPool pool) = asset_cmp pool.params.asset_a pool.params.asset_b ≡ Less
AreTerms other = Unit {0}
