-- Indexes of offers: all offers by their positions, of a list or of a map.
use Rattle.std.specs.Prelude.{◌≡◌, ◌≢◌, ℤ, All, Bool, true, false, not, List, [], ◌∷◌, ◌++◌, map}
use Rattle.std.specs.Prelude.{Option, Some, None, IfSome, if◌then◌else◌}
use Rattle.std.specs.List.{filter, list_any}
use Rattle.std.specs.declared.cmp.Ordering.TheVariants.{Less, Greater}
use Rattle.std.specs.Ordering.{eq_by_cmp}
use Rattle.std.specs.Coded.{Coded}
use Rattle.std.specs.FinMap.{FinMap, empty, insert, remove, get, contains_key, code}
use Rattle.ledger_types.specs.declared.ids.AccountId.{AccountId}
use Rattle.ledger_types.specs.declared.key.LedgerKey.{LedgerKey}
use Rattle.ledger_types.specs.declared.key.LedgerKey.TheVariants as key
use Rattle.ledger_types.specs.declared.offer.OfferEntry.{OfferEntry}
use Rattle.ledger_types.specs.KeyOrder.{key_cmp}
use Rattle.ledger_types.specs.Keys.{key_of}
use Rattle.entry_map.specs.declared.position.BookPosition.{BookPosition}
use Rattle.entry_map.specs.declared.position.OfferTerms.{OfferTerms}
use Rattle.entry_map.specs.declared.batch.Batch.{Batch}
use Rattle.entry_map.specs.contracts.position.BookPosition as position
use Rattle.entry_map.specs.contracts.position.OfferTerms as terms
use Rattle.entry_map.specs.Order.{order}
use Rattle.entry_map.specs.EntryMap.{EntryMap, IsKeyed}
use Rattle.entry_map.specs.Undo.{Undo}
use Rattle.entry_map.specs.Book.{offer_of, offers_in, offers_of}
use Rattle.entry_map.specs.Positions.{IsNarrow, position_of, terms_of, key_at}

-- offers by their positions: under each position what of its offer it doesn't determine
abbrev pub PositionMap : Type 0
PositionMap = FinMap order OfferTerms

abbrev pub position_map_code : Coded PositionMap
position_map_code = code position.the_row.coded terms.the_row.coded

abbrev pub has : PositionMap → BookPosition → Bool
has positions p = contains_key positions p

-- ---- of a list

-- an offer has a position
abbrev pub is_at : BookPosition → OfferEntry → Bool
is_at p offer = eq_by_cmp order p (position_of offer)

-- one of some offers has a position
abbrev pub is_taken : List OfferEntry → BookPosition → Bool
is_taken offers p = list_any (is_at p) offers

-- denominators that fit 32 bits
abbrev pub AreNarrow : List OfferEntry → Type 0
AreNarrow offers = All (λ offer. IsNarrow offer.price) offers

-- an index with offers put, one after the other
unfoldable pub with_offers : PositionMap → List OfferEntry → PositionMap
with_offers positions [] = positions
with_offers positions (offer ∷ offers) = with_offers (insert positions (position_of offer) (terms_of offer)) offers

-- an index without the positions of offers
unfoldable pub without_offers : PositionMap → List OfferEntry → PositionMap
without_offers positions [] = positions
without_offers positions (offer ∷ offers) = without_offers (remove positions (position_of offer)) offers

-- the index of a list of offers: of those that have one position, the last
abbrev pub index_of : List OfferEntry → PositionMap
index_of offers = with_offers empty offers

-- an index without the position of an offer, if there is one
abbrev pub without : Option OfferEntry → PositionMap → PositionMap
without None positions = positions
without (Some offer) positions = remove positions (position_of offer)

-- ---- of a map

-- the terms of an offer, if there is one and it has this position
abbrev pub terms_at : BookPosition → Option OfferEntry → Option OfferTerms
terms_at p None = None
terms_at p (Some offer) = if is_at p offer then Some (terms_of offer) else None

-- the terms of the offer that a map has with a position
abbrev pub existing : EntryMap → BookPosition → Option OfferTerms
existing m p = terms_at p (offer_of (get m (key_at p)))

-- the index of a map: its offers by their positions; the denominators of their prices fit 32 bits
pub record IsIndexOf (m : EntryMap) (index : PositionMap) : Type 0 where
  pub keyed : IsKeyed m
  pub each : (p : BookPosition) → get index p ≡ existing m p
  pub narrow : (k : LedgerKey) → IfSome (offer_of (get m k)) (λ offer. IsNarrow offer.price)

-- so it is the index of the map's offers
abbrev pub IndexesAreOfOffers : Type 0
IndexesAreOfOffers = (m : EntryMap) (index : PositionMap) → IsIndexOf m index → index ≡ index_of (offers_of m)

-- nothing but an offer can be under a key
abbrev pub is_of_offer : LedgerKey → Bool
is_of_offer (key.Offer seller_id offer_id) = true
is_of_offer other = false

-- ---- of a map with undo

-- of each map that is kept for undoing its index, the newest at the end
abbrev pub AreIndexes : List EntryMap → List PositionMap → Type 0
AreIndexes [] indexes = indexes ≡ []
AreIndexes (m ∷ ms) indexes = (older : List PositionMap) × ((index : PositionMap) × ((indexes ≡ older ++ index ∷ [])
    × (IsIndexOf m index × AreIndexes ms older)))

pub record IsIndexed (u : Undo) (index : PositionMap) (saved : List PositionMap) : Type 0 where
  pub now : IsIndexOf u.current index
  pub earlier : AreIndexes u.saved saved

-- ---- what comes next

-- the least position of an index above another one, with its terms
pub record IsLeastPosition (positions : PositionMap) (start next : BookPosition) (terms : OfferTerms) : Type 0 where
  pub there : get positions next ≡ Some terms
  pub above : order start next ≡ Less
  pub least : (q : BookPosition) → order start q ≡ Less → has positions q ≡ true → order next q ≢ Greater

-- no position of an index is above another one
abbrev pub IsLastPosition : PositionMap → BookPosition → Type 0
IsLastPosition positions start = (q : BookPosition) → order start q ≡ Less → has positions q ≡ false

-- the same of the positions of a pair
pub record IsNextOfPair (positions : PositionMap) (start next : BookPosition) (terms : OfferTerms) : Type 0 where
  pub least : IsLeastPosition positions start next terms
  pub selling : next.selling ≡ start.selling
  pub buying : next.buying ≡ start.buying

abbrev pub IsLastOfPair : PositionMap → BookPosition → Type 0
IsLastOfPair positions start = (q : BookPosition) → q.selling ≡ start.selling → q.buying ≡ start.buying
    → order start q ≡ Less
    → has positions q ≡ false

-- the seller and the id of an offer
abbrev pub name_of : OfferEntry → AccountId × ℤ
name_of offer = (offer.seller_id, offer.offer_id)

-- ---- after a batch

abbrev pub is_among : List LedgerKey → LedgerKey → Bool
is_among keys k = list_any (eq_by_cmp key_cmp k) keys

-- the keys of entries that a batch changed or says to be gone
abbrev pub old_keys : Batch → List LedgerKey
old_keys batch = map key_of batch.live ++ batch.dead

abbrev pub is_old : Batch → OfferEntry → Bool
is_old batch offer = is_among (old_keys batch) (key_at (position_of offer))

-- `before` has the positions of those of some offers that a batch changed or says to be gone
abbrev pub AreReplaced : List OfferEntry → List OfferEntry → Batch → Type 0
AreReplaced offers before batch = (p : BookPosition) → is_taken before p ≡ is_taken (filter (is_old batch) offers) p

-- offers after a batch: those that it leaves, and those of its new and changed entries
abbrev pub offers_after : List OfferEntry → Batch → List OfferEntry
offers_after offers batch =
    filter (λ offer. not (is_old batch offer)) offers ++ (offers_in batch.init ++ offers_in batch.live)

-- `next` was made of an index by a batch, with the offers that it replaces
abbrev pub IsChangedTo : PositionMap → List OfferEntry → Batch → PositionMap → Type 0
IsChangedTo index before batch next = (offers : List OfferEntry) → index ≡ index_of offers
    → AreReplaced offers before batch → next ≡ index_of (offers_after offers batch)

-- ---- after many batches, each with the offers that it replaces

abbrev pub Steps : Type 0
Steps = List (List OfferEntry × Batch)

abbrev pub offers_after_all : List OfferEntry → Steps → List OfferEntry
offers_after_all offers [] = offers
offers_after_all offers (step ∷ steps) = offers_after_all (offers_after offers step.1) steps

abbrev pub AreAllReplaced : List OfferEntry → Steps → Type 0
AreAllReplaced offers [] = Unit {0}
AreAllReplaced offers (step ∷ steps) =
    AreReplaced offers step.0 step.1 × AreAllReplaced (offers_after offers step.1) steps

abbrev pub AreChangedTo : PositionMap → Steps → PositionMap → Type 0
AreChangedTo index [] last = last ≡ index
AreChangedTo index (step ∷ steps) last =
    (next : PositionMap) × (IsChangedTo index step.0 step.1 next × AreChangedTo next steps last)

-- After any list of batches the index of a list is that of the changed list.
abbrev pub IndexStaysRight : Type 0
IndexStaysRight = (offers : List OfferEntry) (steps : Steps) (last : PositionMap) → AreAllReplaced offers steps
    → AreChangedTo (index_of offers) steps last → last ≡ index_of (offers_after_all offers steps)
