-- The offers of an account after one of its ids.
use Rattle.std.specs.Prelude.{◌≡◌, ◌≢◌, ◌<◌, ℤ, List, [], ◌∷◌, All, map, length, Option, Some, None}
use Rattle.std.specs.List.{filter}
use Rattle.std.specs.Ordering.{is_lt}
use Rattle.std.specs.declared.cmp.Ordering.TheVariants.{Greater}
use Rattle.std.specs.FinMap.{entries, get}
use Rattle.ledger_types.specs.declared.ids.AccountId.{AccountId}
use Rattle.ledger_types.specs.declared.offer.OfferEntry.{OfferEntry}
use Rattle.ledger_types.specs.declared.entry.LedgerEntry.{LedgerEntry}
use Rattle.ledger_types.specs.declared.key.LedgerKey.{LedgerKey}
use Rattle.ledger_types.specs.declared.key.LedgerKey.TheVariants as key
use Rattle.ledger_types.specs.KeyOrder.{key_cmp}
use Rattle.ledger_types.specs.Keys.{key_of}
use Rattle.entry_map.specs.EntryMap.{EntryMap, IsKeyed}
use Rattle.entry_map.specs.Book.{offer_in, offers_in}
use Rattle.entry_map.specs.Walk.{WalkAt}
use Rattle.offer_book.specs.Book.{sold_by, offers_by}

-- what is above a key
abbrev pub above : LedgerKey → List (LedgerKey × LedgerEntry) → List (LedgerKey × LedgerEntry)
above k pairs = filter (λ pair. is_lt (key_cmp k pair.0)) pairs

-- the offers of an account among entries
abbrev pub sold_in : AccountId → List (LedgerKey × LedgerEntry) → List OfferEntry
sold_in seller pairs = sold_by seller (offers_in (map (λ pair. pair.1) pairs))

-- an entry is an offer of an account, or isn't
abbrev pub IsSoldIn : LedgerEntry → AccountId → Option OfferEntry → Type 0
IsSoldIn entry seller None = sold_by seller (offers_in (entry ∷ [])) ≡ []
IsSoldIn entry seller (Some offer) = (offer_in entry.body ≡ Some offer) × (offer.seller_id ≡ seller)

-- a walk came to one of an account's offers, or to the key ahead of them
abbrev pub IsAmong : AccountId → LedgerKey → Type 0
IsAmong seller at = (id : ℤ) × (at ≡ key.Offer seller id)

-- a key is behind all offers of an account
abbrev pub AreUpTo : AccountId → LedgerKey → Type 0
AreUpTo seller last = (id : ℤ) → key_cmp (key.Offer seller id) last ≢ Greater

-- an entry is an offer, and is there under its key
pub record IsOfferOf (m : EntryMap) (entry : LedgerEntry) : Type 0 where
  pub offer : OfferEntry
  pub is : offer_in entry.body ≡ Some offer
  pub there : get m (key_of entry) ≡ Some entry

-- an entry is the account's first offer after the key that a walk came to
pub record IsFirstSold (old : WalkAt) (now : LedgerKey) (seller : AccountId) (entry : LedgerEntry) : Type 0 where
  pub found : IsOfferOf old.entries entry
  pub at : IsAmong seller now
  pub first : sold_in seller (above old.at (entries old.entries))
      ≡ found.offer ∷ sold_in seller (above now (entries old.entries))
  pub fewer : length (above now (entries old.entries)) < length (above old.at (entries old.entries))

abbrev pub IsNextSold : (old : WalkAt) (now : LedgerKey) (seller : AccountId) → Option LedgerEntry → Type 0
IsNextSold old now seller None = IsKeyed old.entries → IsAmong seller old.at → AreUpTo seller old.last
    → sold_in seller (above old.at (entries old.entries)) ≡ []
IsNextSold old now seller (Some entry) = IsFirstSold old now seller entry

-- the entries of all offers of an account
pub record AreSold (m : EntryMap) (seller : AccountId) (sold : List LedgerEntry) : Type 0 where
  pub offers : offers_in sold ≡ offers_by m seller
  pub each : All (IsOfferOf m) sold
