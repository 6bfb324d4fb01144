-- What is found under the keys that entries name.
use Rattle.std.specs.Prelude.{◌≢◌, ◌↔◌, ◌++◌, IsTrue, IfSome, All, None, List, []}
use Rattle.std.specs.BTreeMap as tree
use Rattle.std.specs.FinMap.{get}
use Rattle.ledger_types.specs.KeyOrder.{asset_cmp}
use Rattle.ledger_types.specs.declared.asset.Asset.{Asset}
use Rattle.ledger_types.specs.declared.entry.LedgerEntryBody.{LedgerEntryBody}
use Rattle.ledger_types.specs.declared.entry.LedgerEntryBody.TheVariants as body
use Rattle.ledger_types.specs.declared.key.LedgerKey.{LedgerKey}
use Rattle.entry_map.specs.EntryMap.{EntryMap}
use Rattle.entry_slots.specs.Lines.{line_of}
use Rattle.close_rules.specs.legal_rules.Legal.{IsAuthorized, AreLinesAuthorized}
use Rattle.close_rules.specs.legal_rules.Needs.{keys_in}
use Rattle.close_rules.specs.legal_rules.Trades.{holder}
use Rattle.image_rules.specs.declared.holdings.Holdings.{Holdings}
use Rattle.image_rules.specs.declared.holdings.SellerHoldings.{SellerHoldings}

-- whether something exists under each key, and whether the lines among it are authorised
pub record AreHeld (m : EntryMap) (keys : List LedgerKey) (found : Holdings) : Type 0 where
  pub there : IsTrue found.there ↔ All (λ k. get m k ≢ None) keys
  pub authorized : IsTrue found.authorized ↔ All (λ k. IsAuthorized (line_of (get m k))) keys

-- what is known of a seller's assets is what is found
abbrev pub AreKnown : EntryMap → SellerHoldings → Type 0
AreKnown m known = (x : Asset) → IfSome (tree.get asset_cmp known.found x) (AreHeld m (keys_in (holder known.seller x)))

-- the keys of what an offer's seller has its assets in
abbrev pub traded_keys : LedgerEntryBody → List LedgerKey
traded_keys (body.Offer offer) =
    keys_in (holder offer.seller_id offer.selling) ++ keys_in (holder offer.seller_id offer.buying)
traded_keys other = []

-- the same of what an entry trades from and into
pub record AreTradedIn (m : EntryMap) (b : LedgerEntryBody) (found : Holdings) : Type 0 where
  pub there : IsTrue found.there ↔ All (λ k. get m k ≢ None) (traded_keys b)
  pub authorized : IsTrue found.authorized ↔ AreLinesAuthorized m b
