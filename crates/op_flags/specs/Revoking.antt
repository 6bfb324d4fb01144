-- What goes with an authorisation that is taken back: the account's offers that sell or buy the asset, in rising order
-- of their ids (removeOffersByAccountAndAsset in stellar-core; CAP-0018).
use Rattle.std.specs.Prelude.{Bool, ◌||◌, List, [], ◌∷◌}
use Rattle.std.specs.List.{filter}
use Rattle.std.specs.Ordering.{is_eq}
use Rattle.ledger_types.specs.declared.ids.AccountId.{AccountId}
use Rattle.ledger_types.specs.declared.asset.Asset.{Asset}
use Rattle.ledger_types.specs.declared.offer.OfferEntry.{OfferEntry}
use Rattle.ledger_types.specs.KeyOrder.{asset_cmp}
use Rattle.entry_map.specs.EntryMap.{EntryMap}
use Rattle.offer_book.specs.Book.{offers_by}
use Rattle.trade_cross.specs.Cancelling.{map_after_cancelling}

-- an offer sells or buys an asset
abbrev pub trades_in : Asset → OfferEntry → Bool
trades_in held offer = is_eq (asset_cmp offer.selling held) || is_eq (asset_cmp offer.buying held)

-- offers that are removed one after the other
abbrev pub map_after_cancelling_all : List OfferEntry → EntryMap → EntryMap
map_after_cancelling_all [] m = m
map_after_cancelling_all (offer ∷ offers) m = map_after_cancelling_all offers (map_after_cancelling offer m)

-- the map without the offers of an account that sell or buy an asset
unfoldable pub map_without_offers : AccountId → Asset → EntryMap → EntryMap
map_without_offers seller held m = map_after_cancelling_all (filter (trades_in held) (offers_by m seller)) m
