-- A hop keeps a state legal, by the book and by the pool.
use Rattle.trade_cross.proofs.Prelude as prelude
use prelude.{◌≡◌, refl, sym, subst, ℕ, ◌+◌, ◌<◌, ◌≤◌, zero, suc, Bool, true, false, inl, inr, List, [], ◌∷◌, length}
use prelude.{arith, ints, All-nil, All-cons, ℤ, pos, ◌≤ℤ◌, unsigned_abs, if◌then◌else◌, ClaimAtom, OfferEntry, EntryMap}
use prelude.{Ctx, Rounding, Normal, StrictSend, StrictReceive, Amounts, unlimited, greatest, View, IsOwedRightly, Owed}
use prelude.{IsLegalOwing, Converted, Trade, Turn, Ends, Meets, Left, Crossing, step, turn, ended, joined, at_limit}
use prelude.{left_after, crossed, converted, atom_of, left_of, IsOfTrade, is_sheep_first, pool_of_pair, sheep_in}
use prelude.{wheat_in, pool_atom, swapped, hop, add_zero, natural_nonnegative, suc_at_most_suc, zero_at_most}
use Rattle.ledger_types.specs.declared.claim_atom.ClaimAtom.TheVariants as atom
use Rattle.trade_cross.specs.HopLaws.{crossings_in, IsBoundedOnce, IsHopTrade, DoPoolReservesFit, IsOfHop, IsHopped}
use Rattle.trade_cross.specs.HopLaws.{HopKeeps}
use Rattle.trade_cross.proofs.CrossedLegal.{crossing_keeps}
use Rattle.trade_cross.proofs.Hopped.{swap_made}
use Rattle.trade_cross.proofs.PoolsLegal.{pool_legal}
use Rattle.trade_cross.proofs.Served.{crossed_served}
use Rattle.trade_cross.proofs.PoolSwaps.{DoesSwap, IsMet, IsSwapping, IsEither, swaps, hop_is_either}

-- ---- how many offers are crossed

pub record AreFew (k : ℕ) (atoms : List ClaimAtom) : Type 0 where
  pub crossings : crossings_in atoms ≤ k
  pub length : length atoms ≤ k

none_few : (k : ℕ) → AreFew k []
none_few k = record { crossings = omega arith; length = omega arith }

module _ (base : ℕ) (trade : Trade) where
  with_first : (k : ℕ) (o : OfferEntry) (a : Amounts) (rest : List ClaimAtom) → AreFew k rest
      → AreFew (suc k) (atom_of o a ∷ rest)
  with_first k o a rest h = record {
    crossings = suc_at_most_suc (crossings_in rest) k h.crossings;
    length = suc_at_most_suc (length rest) k h.length;
  }

  limited : (m : EntryMap) (t : Turn) → AreFew 0 (at_limit m t).atoms
  limited m (Ends end) = none_few 0
  limited m (Meets o) = none_few 0

  by_stays : (k : ℕ) (o : OfferEntry) (a : Amounts) (m : EntryMap) (t : Bool) (rest : Crossing) → AreFew k rest.atoms
      → AreFew (suc k) (joined o a (if t then ended m Converted else rest)).atoms
  by_stays k o a m true rest h = with_first k o a [] (none_few k)
  by_stays k o a m false rest h = with_first k o a rest.atoms h

  by_turn : (k : ℕ) (left : Left) (m : EntryMap)
      → ((left : Left) (m : EntryMap) → AreFew k (crossed base trade k left m).atoms) → (t : Turn)
      → AreFew (suc k) (elim t as (λ s. Crossing) [
        | Ends end ↦ ended m end
        | Meets o ↦
            let x = step base trade.rounding left o m in
            joined o x.amounts (if x.stays then ended x.entries Converted
            else crossed base trade k (left_after left x.amounts) x.entries)
      ]).atoms
  by_turn k left m rest (Ends end) = none_few (suc k)
  by_turn k left m rest (Meets o) =
      let x = step base trade.rounding left o m in
      by_stays k o x.amounts x.entries x.stays (crossed base trade k (left_after left x.amounts) x.entries)
      (rest (left_after left x.amounts) x.entries)

  crossed_few : (k : ℕ) (left : Left) (m : EntryMap) → AreFew k (crossed base trade k left m).atoms
  unfolding crossed
  crossed_few zero left m = limited m (turn trade left m)
  crossed_few (suc k) left m = by_turn k left m (crossed_few k) (turn trade left m)

-- ---- numbers

one_up : (n k : ℕ) → n ≤ k → n ≤ suc k
one_up n k le = omega arith

at_unlimited : (z : ℤ) (n : ℕ) → z ≡ pos unlimited → n ≤ greatest → n ≤ unsigned_abs z
at_unlimited z n is le = omega (arith, ints)

within_sum : (x n most : ℕ) → x + n ≤ most → n ≤ most
within_sum x n most le = omega arith

at_most_from_equal : (a b : ℕ) → a ≡ b → a ≤ b
at_most_from_equal a b is = omega arith

below_all : (n : ℕ) (y : ℤ) → n < unsigned_abs y → pos 0 ≤ℤ y → y ≤ℤ pos unlimited → n ≤ greatest
below_all n y less low le = omega (arith, ints)

one_atom : (k : ℕ) → 1 ≤ suc k
one_atom k = omega arith

-- ---- the book and the pool

pub trade_is_of_hop : (trade : Trade) (x : ClaimAtom) → IsOfTrade trade x → IsOfHop trade x
trade_is_of_hop trade (atom.LiquidityPool pool sold amount_sold bought amount_bought) its = absurd its
trade_is_of_hop trade other its = its

module _ (v : View) (id_pool : ℕ) (owed : Owed) (sum : ℤ) (ctx : Ctx) (trade : Trade) (m : EntryMap)
    (asks : IsHopTrade trade) (legal : IsLegalOwing v id_pool owed sum m) (right : IsOwedRightly owed) where
  abbrev base : ℕ
  base = ctx.base_reserve

  abbrev left : Left
  left = left_of trade

  abbrev book : Crossing
  book = converted base trade m

  book_kept : IsHopped v id_pool base owed sum trade m book
  book_kept =
      let h = crossing_keeps v id_pool base owed sum trade trade.crossings left m legal right in
      let few = crossed_few base trade trade.crossings left m in
      record {
        legal = h.legal;
        sheep = h.sheep;
        wheat = λ fit. h.wheat;
        holds = h.holds;
        accounts = h.accounts;
        exist = h.exist;
        atoms = record {
          sheep = h.atoms.sheep;
          wheat = h.atoms.wheat;
          each = λ k d lt. trade_is_of_hop trade _ (h.atoms.each k d lt);
          crossings = few.crossings;
          few = one_up (length book.atoms) trade.crossings few.length;
        };
        end = crossed_served base trade trade.crossings left m;
      }

  module _ (a : Amounts) (its : IsSwapping trade m a) where
    does : DoesSwap (sheep_in trade its.pool) (wheat_in trade its.pool) a × IsMet trade.rounding left a
    does = swaps trade.rounding (sheep_in trade its.pool) (wheat_in trade its.pool) left a its.swap

    sheep_within : (r : Rounding) → IsBoundedOnce r trade → IsMet r left a → a.sheep ≤ greatest
        → a.sheep ≤ left.sheep_send
    sheep_within StrictSend once met fits = at_most_from_equal a.sheep left.sheep_send met
    sheep_within Normal once met fits = at_unlimited trade.sheep_send a.sheep once fits
    sheep_within StrictReceive once met fits = at_unlimited trade.sheep_send a.sheep once fits

    wheat_within : (r : Rounding) → IsBoundedOnce r trade → IsMet r left a → a.wheat ≤ greatest
        → a.wheat ≤ left.wheat_receive
    wheat_within StrictSend once met fits = at_unlimited trade.wheat_receive a.wheat once fits
    wheat_within Normal once met fits = at_most_from_equal a.wheat left.wheat_receive met
    wheat_within StrictReceive once met fits = at_most_from_equal a.wheat left.wheat_receive met

    fits_by : DoPoolReservesFit trade m → (t : Bool)
        → a.wheat < unsigned_abs (if t then its.pool.reserve_b else its.pool.reserve_a) → a.wheat ≤ greatest
    fits_by fit true less = below_all a.wheat its.pool.reserve_b less
        (pool_legal v id_pool owed sum m (pool_of_pair trade) its.pool legal its.exists).range.reserve_b
        (fit.b its.pool its.exists)
    fits_by fit false less = below_all a.wheat its.pool.reserve_a less
        (pool_legal v id_pool owed sum m (pool_of_pair trade) its.pool legal its.exists).range.reserve_a
        (fit.a its.pool its.exists)

    pool_kept : IsHopped v id_pool base owed sum trade m (swapped trade a m)
    pool_kept =
        let made = swap_made v id_pool base owed sum trade a m legal its in
        record {
          legal = made.legal;
          sheep = sheep_within trade.rounding asks.once does.1
              (within_sum (sheep_in trade its.pool) a.sheep greatest does.0.fits);
          wheat = λ fit. wheat_within trade.rounding asks.once does.1 (fits_by fit (is_sheep_first trade) does.0.left);
          holds = made.leaves.holds;
          accounts = made.leaves.each;
          exist = made.leaves.exist;
          atoms = record {
            sheep = add_zero (pos a.sheep);
            wheat = add_zero (pos a.wheat);
            each = All-cons (IsOfHop trade) (pool_atom trade a) []
                (refl, refl, refl, natural_nonnegative a.wheat, natural_nonnegative a.sheep) (All-nil (IsOfHop trade));
            crossings = zero_at_most trade.crossings;
            few = one_atom trade.crossings;
          };
          end = λ served. refl;
        }

  by_either : (done : Crossing) → IsEither trade m book done → IsHopped v id_pool base owed sum trade m done
  by_either done (inl is) = subst (IsHopped v id_pool base owed sum trade m) (sym is) book_kept
  by_either done (inr its) = subst (IsHopped v id_pool base owed sum trade m) (sym its.2) (pool_kept its.0 its.1)

pub hop_keeps : HopKeeps
hop_keeps v id_pool owed sum ctx trade m asks legal right =
    by_either v id_pool owed sum ctx trade m asks legal right (hop ctx trade m) (hop_is_either ctx trade m)
