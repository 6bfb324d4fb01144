-- The book of a pair after an offer that was crossed, and crossing over a book that is ranked once.
use Rattle.std.specs.Prelude.{◌≡◌, ℕ, zero, suc, List, [], ◌∷◌, Some, true, false, if◌then◌else◌}
use Rattle.op_flags.specs.ledger_types.declared.asset.Asset.{Asset}
use Rattle.op_flags.specs.ledger_types.declared.offer.OfferEntry.{OfferEntry}
use Rattle.op_flags.specs.entry_map.EntryMap.{EntryMap}
use Rattle.op_flags.specs.entry_map.Book.{head}
use Rattle.op_flags.specs.offer_book.Book.{book, best}
use Rattle.op_offers.specs.offer_exchange.declared.rounding.Rounding.{Rounding}
use Rattle.op_flags.specs.trade_cross.declared.crossed.CrossEnd.TheVariants.{Converted}
use Rattle.op_flags.specs.trade_cross.declared.trade.Trade.{Trade}
use Rattle.op_flags.specs.trade_cross.declared.turn.Turn.{Turn}
use Rattle.op_flags.specs.trade_cross.declared.turn.Turn.TheVariants.{Ends, Meets}
use Rattle.op_flags.specs.trade_cross.Crossable.{IsCrossable}
use Rattle.op_flags.specs.trade_cross.Crossing.{Left, step, is_used_up, turn_at, Crossing, ended, at_limit, joined}
use Rattle.op_flags.specs.trade_cross.Crossing.{left_after}
use Rattle.op_flags.specs.trade_cross.Crossing.{with_amount, crossed}

-- Where the best offer is crossed and goes, the book was that offer and then the book that is left.
abbrev pub CrossedOffersGo : Type 0
CrossedOffersGo =
    (base : ℕ) (rounding : Rounding) (left : Left) (m : EntryMap) (selling buying : Asset) (o : OfferEntry)
    → IsCrossable m → best m selling buying ≡ Some o → (step base rounding left o m).stays ≡ false
    → book m selling buying ≡ o ∷ book (step base rounding left o m).entries selling buying

-- ---- an offer that stays

-- what rests of an offer is still before the others
abbrev pub with_rest : OfferEntry → ℕ → List OfferEntry → List OfferEntry
with_rest o zero others = others
with_rest o (suc n) others = with_amount (suc n) o ∷ others

-- a book whose first offer has another amount, or is gone where nothing rests of it
pub record IsRestedBook (o : OfferEntry) (old new : List OfferEntry) : Type 0 where
  pub rest : ℕ
  pub others : List OfferEntry
  pub was : old ≡ o ∷ others
  pub now : new ≡ with_rest o rest others

-- Where the best offer is crossed and stays, the others of its book are left.
abbrev pub CrossedOffersRest : Type 0
CrossedOffersRest =
    (base : ℕ) (rounding : Rounding) (left : Left) (m : EntryMap) (selling buying : Asset) (o : OfferEntry)
    → IsCrossable m → best m selling buying ≡ Some o → (step base rounding left o m).stays ≡ true
    → IsRestedBook o (book m selling buying) (book (step base rounding left o m).entries selling buying)

-- ---- a book that is ranked once

-- what comes next where these offers are left
abbrev pub turn_over : Trade → Left → List OfferEntry → Turn
turn_over trade left offers = if is_used_up left then Ends Converted else turn_at trade (head offers)

abbrev pub after_head : List OfferEntry → List OfferEntry
after_head [] = []
after_head (first ∷ others) = others

-- The taker meets these offers one after the other. No book is looked up.
unfoldable pub crossed_over : ℕ → Trade → ℕ → Left → List OfferEntry → EntryMap → Crossing
crossed_over base trade zero left offers m = at_limit m (turn_over trade left offers)
crossed_over base trade (suc k) left offers m = elim (turn_over trade left offers) [
  | Ends end ↦ ended m end
  | Meets o ↦
      let x = step base trade.rounding left o m in
      joined o x.amounts (if x.stays then ended x.entries Converted
      else crossed_over base trade k (left_after left x.amounts) (after_head offers) x.entries)
]

-- Crossing, which asks for the best offer of the entries at hand each time, meets the offers of the book as it was
-- ranked at first.
abbrev pub CrossingFollowsBook : Type 0
CrossingFollowsBook =
    (base : ℕ) (trade : Trade) (crossings : ℕ) (left : Left) (m : EntryMap) → IsCrossable m
    → crossed base trade crossings left m
    ≡ crossed_over base trade crossings left (book m trade.wheat trade.sheep) m
