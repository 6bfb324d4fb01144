-- That an offer which is sold while it is out of the book leaves a legal state.
use Rattle.std.specs.Prelude.{◌≡◌, ◌≢◌, ℕ, ◌≤◌, ℤ, pos, neg_ℤ, ◌+ℤ◌, ◌≤ℤ◌, true, Some, None, Ok}
use Rattle.std.specs.FinMap.{get}
use Rattle.ledger_types.specs.declared.ids.AccountId.{AccountId}
use Rattle.ledger_types.specs.declared.offer.OfferEntry.{OfferEntry}
use Rattle.ledger_types.specs.declared.key.LedgerKey.TheVariants as key
use Rattle.entry_map.specs.EntryMap.{EntryMap}
use Rattle.entry_slots.specs.EntrySponsor.{sponsor_of}
use Rattle.valid_values.specs.Assets.{is_valid_asset}
use Rattle.trade_cross.specs.legal_rules.Aggregates.{View}
use Rattle.trade_cross.specs.legal_rules.Owing.{nothing_owed, IsLegalOwing}
use Rattle.ledger_types.specs.declared.entry.LedgerEntry.{LedgerEntry}
use Rattle.ledger_types.specs.declared.entry.LedgerEntryBody.TheVariants as body
use Rattle.trade_cross.specs.legal_rules.Trades.{holder}
use Rattle.trade_cross.specs.Crossing.{offer_key}
use Rattle.op_offers.specs.Managing.{drawn}
use Rattle.op_offers.specs.Selling.{Asked, source_gives_at, source_takes_at, Sold, sold, map_without_offer}
use Rattle.trade_cross.specs.Accounts.{IsHeld}
use Rattle.trade_cross.specs.legal_rules.OneMore.{one_more}
use Rattle.trade_cross.specs.CrossingLaws.{kept_at, kept_in}

-- what the tests of the operation leave: an offer that can be kept under an id that no offer has, and a source that
-- holds both assets
pub record IsAskedRightly (next : ℕ) (asked : Asked) (m : EntryMap) : Type 0 where
  pub gives : IsHeld m (source_gives_at asked)
  pub takes : IsHeld m (source_takes_at asked)
  pub free : (seller : AccountId) → get m (key.Offer seller asked.offer.offer_id) ≡ None
  pub paid : (x : AccountId) → sponsor_of asked.entry ≡ Some x → x ≢ asked.offer.seller_id
  pub n : pos 1 ≤ℤ asked.offer.price.n
  pub d : pos 1 ≤ℤ asked.offer.price.d
  pub id_low : pos 1 ≤ℤ asked.offer.offer_id
  pub id_high : asked.offer.offer_id ≤ℤ pos next
  pub selling : is_valid_asset asked.offer.selling ≡ true
  pub buying : is_valid_asset asked.offer.buying ≡ true
  pub assets : asked.offer.selling ≢ asked.offer.buying
  pub flags : asked.offer.flags ≤ 1

-- From a state in which the offer is counted and doesn't exist, to one in which aggregates owe nothing.
abbrev pub SellingKeeps : Type 0
SellingKeeps =
    (v : View) (id_pool next base : ℕ) (sum : ℤ) (asked : Asked) (m : EntryMap) (done : Sold)
    → IsLegalOwing v id_pool (one_more asked.offer.seller_id (sponsor_of asked.entry)) sum m → id_pool ≤ next
    → IsAskedRightly next asked m → sold base asked m ≡ Ok done
    → IsLegalOwing v (drawn id_pool next done.amount) nothing_owed
    ((sum +ℤ kept_in v.asset done.crossed.atoms)
    +ℤ (kept_at v.asset (source_gives_at asked) asked.offer.selling (neg_ℤ (pos done.crossed.sheep))
    +ℤ kept_at v.asset (source_takes_at asked) asked.offer.buying (pos done.crossed.wheat))) done.entries

-- An old offer is out of the book and still counted, and its source holds both assets.
abbrev pub OldOffersOut : Type 0
OldOffersOut =
    (v : View) (id_pool : ℕ) (sum : ℤ) (old : OfferEntry) (e : LedgerEntry) (m : EntryMap)
    → IsLegalOwing v id_pool nothing_owed sum m → get m (offer_key old) ≡ Some e → e.body ≡ body.Offer old
    → IsLegalOwing v id_pool (one_more old.seller_id (sponsor_of e)) sum (map_without_offer old m)
    × IsHeld (map_without_offer old m) (holder old.seller_id old.selling)
    × IsHeld (map_without_offer old m) (holder old.seller_id old.buying)
    × ((seller : AccountId) → get (map_without_offer old m) (key.Offer seller old.offer_id) ≡ None)
