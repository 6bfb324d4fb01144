-- Crossing meets the offers of the book as it was ranked at first.
use Rattle.op_laws.proofs.Prelude.{◌≡◌, refl, sym, ap, ◌∙◌, ℕ, zero, suc, Bool, true, false, List, Option, Some, None}
use Rattle.op_laws.proofs.Prelude.{if◌then◌else◌, OfferEntry, EntryMap, is_same_account, book, best, Trade, Left, step}
use Rattle.op_laws.proofs.Prelude.{is_too_dear, is_used_up, turn_at, turn, Crossing, ended, at_limit, joined}
use Rattle.op_laws.proofs.Prelude.{left_after, crossed, atom_of, kept_by, best_exists, step_legal, ◌+ℤ◌, turn_over}
use Rattle.op_laws.proofs.Prelude.{after_head, crossed_over, CrossingFollowsBook}
use Rattle.op_flags.specs.trade_cross.Crossable.{IsCrossable}
use Rattle.op_flags.specs.trade_cross.declared.crossed.CrossEnd.TheVariants.{Converted, BadPrice, CrossSelf}
use Rattle.op_flags.specs.trade_cross.declared.turn.Turn.{Turn}
use Rattle.op_flags.specs.trade_cross.declared.turn.Turn.TheVariants.{Ends, Meets}
use Rattle.op_laws.proofs.CrossedBook.{crossed_offers_go}

-- ---- an offer that is met is the best one

met_apart : (t : Bool) (first o : OfferEntry) → (if t then Ends CrossSelf else Meets first) ≡ Meets o → first ≡ o
met_apart true first o is = absurd (cc)
met_apart false first o is = cc is

met_with : (trade : Trade) (t : Bool) (first o : OfferEntry)
    → (if t then Ends BadPrice else if is_same_account first.seller_id trade.taker then Ends CrossSelf
    else Meets first) ≡ Meets o → first ≡ o
met_with trade true first o is = absurd (cc)
met_with trade false first o is = met_apart (is_same_account first.seller_id trade.taker) first o is

met_at : (trade : Trade) (x : Option OfferEntry) (o : OfferEntry) → turn_at trade x ≡ Meets o → x ≡ Some o
met_at trade None o is = absurd (cc)
met_at trade (Some first) o is = ap Some (met_with trade (is_too_dear trade first trade.greatest) first o is)

met_left : (trade : Trade) (t : Bool) (x : Option OfferEntry) (o : OfferEntry)
    → (if t then Ends Converted else turn_at trade x) ≡ Meets o → x ≡ Some o
met_left trade true x o is = absurd (cc)
met_left trade false x o is = met_at trade x o is

module _ (base : ℕ) (trade : Trade) where
  best_met : (left : Left) (m : EntryMap) (o : OfferEntry) → turn trade left m ≡ Meets o
      → best m trade.wheat trade.sheep ≡ Some o
  unfolding turn
  best_met left m o is = met_left trade (is_used_up left) (best m trade.wheat trade.sheep) o is

  abbrev ranked_now : EntryMap → List OfferEntry
  ranked_now m = book m trade.wheat trade.sheep

  same_turn : (left : Left) (m : EntryMap) → turn trade left m ≡ turn_over trade left (ranked_now m)
  unfolding turn best
  same_turn left m = refl

  -- crossing k times more meets the offers of the book
  abbrev Follows : ℕ → Type 0
  Follows k = (left : Left) (m : EntryMap) → IsCrossable m
      → crossed base trade k left m ≡ crossed_over base trade k left (ranked_now m) m

  then_crossable : (left : Left) (m : EntryMap) (o : OfferEntry) → IsCrossable m
      → best m trade.wheat trade.sheep ≡ Some o → IsCrossable (step base trade.rounding left o m).entries
  then_crossable left m o k first = record {
    view = k.view;
    id_pool = k.id_pool;
    owed = k.owed;
    sum = k.sum +ℤ kept_by k.view.asset (atom_of o (step base trade.rounding left o m).amounts);
    legal = step_legal k.view k.id_pool base k.owed k.right o k.sum m k.legal
        (best_exists m k.legal.keyed trade.wheat trade.sheep o first).exists trade.rounding left;
    right = k.right;
  }

  module _ (n : ℕ) (later : Follows n) (left : Left) (m : EntryMap) (can : IsCrossable m) where
    abbrev next : OfferEntry → Left
    next o = left_after left (step base trade.rounding left o m).amounts

    abbrev new : OfferEntry → EntryMap
    new o = (step base trade.rounding left o m).entries

    by_stays : (o : OfferEntry) → best m trade.wheat trade.sheep ≡ Some o → (t : Bool)
        → (step base trade.rounding left o m).stays ≡ t
        → (if t then ended (new o) Converted else crossed base trade n (next o) (new o))
        ≡ (if t then ended (new o) Converted
        else crossed_over base trade n (next o) (after_head (ranked_now m)) (new o))
    by_stays o first true stays = refl
    by_stays o first false goes =
        later (next o) (new o) (then_crossable left m o can first)
        ∙ ap (λ l. crossed_over base trade n (next o) (after_head l) (new o))
        (sym (crossed_offers_go base trade.rounding left m trade.wheat trade.sheep o can first goes))

    by_turn : (t : Turn) → turn trade left m ≡ t → ◌≡◌ {A = Crossing} (elim t as (λ s. Crossing) [
      | Ends end ↦ ended m end
      | Meets o ↦
          let x = step base trade.rounding left o m in
          joined o x.amounts (if x.stays then ended x.entries Converted
          else crossed base trade n (left_after left x.amounts) x.entries)
    ]) (elim t as (λ s. Crossing) [
      | Ends end ↦ ended m end
      | Meets o ↦
          let x = step base trade.rounding left o m in
          joined o x.amounts (if x.stays then ended x.entries Converted
          else crossed_over base trade n (left_after left x.amounts) (after_head (ranked_now m)) x.entries)
    ])
    by_turn (Ends end) is = refl
    by_turn (Meets o) is = ap (joined o (step base trade.rounding left o m).amounts)
        (by_stays o (best_met left m o is) (step base trade.rounding left o m).stays refl)

  abbrev over : ℕ → Left → List OfferEntry → EntryMap → Turn → Crossing
  over n left offers m t = elim t as (λ s. Crossing) [
    | Ends end ↦ ended m end
    | Meets o ↦
        let x = step base trade.rounding left o m in
        joined o x.amounts (if x.stays then ended x.entries Converted
        else crossed_over base trade n (left_after left x.amounts) (after_head offers) x.entries)
  ]

  pub follows : (n : ℕ) → Follows n
  unfolding crossed crossed_over
  follows zero left m can = ap (at_limit m) (same_turn left m)
  follows (suc n) left m can =
      by_turn n (follows n) left m can (turn trade left m) refl
      ∙ ap (over n left (ranked_now m) m) (same_turn left m)

pub crossing_follows_book : CrossingFollowsBook
crossing_follows_book base trade crossings left m can = follows base trade crossings left m can
