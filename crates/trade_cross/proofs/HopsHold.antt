-- A hop of a path, by the book and by the pool, in a map of which an invariant holds.
use Rattle.entry_map.specs.EntryMap.{EntryMap}
use Rattle.entry_slots.specs.Pools.{pool_at}
use Rattle.ledger_types.proofs.Arithmetic.{sub_natural_at_most}
use Rattle.ledger_types.specs.declared.liquidity_pool.LiquidityPoolEntry.{LiquidityPoolEntry}
use Rattle.legal_rules.proofs.Changed.{pool_entry}
use Rattle.offer_exchange.specs.Exchange.{Amounts}
use Rattle.pool_math.specs.Pools.{greatest}
use Rattle.reserve_rules.specs.Reserve.{greatest_i64}
use Rattle.sponsor_rules.specs.declared.context.Ctx.{Ctx}
use Rattle.std.proofs.Common.{arith, inl, inr, subst, sym}
use Rattle.std.proofs.lemmas.Int.{ints}
use Rattle.std.proofs.lemmas.List.Elements.{All-cons, All-nil}
use Rattle.std.specs.Prelude.{Bool, Some, [], false, if◌then◌else◌, length, neg_ℤ, pos, true, unsigned_abs, ℕ, ℤ}
use Rattle.std.specs.Prelude.{◌+ℤ◌, ◌+◌, ◌≡◌, ◌≤ℤ◌, ◌≤◌}
use Rattle.sponsor_rules.proofs.Changes.{pool_changed}
use Rattle.sponsor_rules.proofs.Entries.{FitsBody, Invariant}
use Rattle.trade_cross.proofs.PoolSwaps.{DoesSwap, IsEither, IsSwapping, hop_is_either, swaps}
use Rattle.trade_cross.proofs.PoolsLegal.{pool_legal}
use Rattle.trade_cross.specs.Crossable.{IsCrossable}
use Rattle.trade_cross.specs.Crossing.{Crossing, converted, left_of, most_crossings}
use Rattle.trade_cross.specs.Hop.{hop, is_sheep_first, pool_atom, pool_of_pair, swapped, with_reserves, with_swap}
use Rattle.trade_cross.specs.declared.trade.Trade.{Trade}
use Rattle.trade_cross.proofs.CrossedHold.{AreCrossed, crossed_holds}
use Rattle.ledger_types.specs.declared.key.LedgerKey.TheVariants as key

-- the most atoms that a hop has: so many offers, or one pool
abbrev pub most_atoms : ℕ
most_atoms = 1001

-- ---- numbers

rises_few : (x : ℤ) (n : ℕ) → (unsigned_abs x + n) ≤ greatest → (x +ℤ pos n) ≤ℤ greatest_i64
rises_few x n le = omega (arith, ints)

one_atom : 1 ≤ most_atoms
one_atom = omega arith

few_crossed : (n k : ℕ) → n ≤ k → k ≤ most_crossings → n ≤ most_atoms
few_crossed n k le most = omega arith

module _ (g : Invariant) where
  -- the assets of a trade can be reported
  pub record AreNamed (trade : Trade) : Type 0 where
    pub sheep : g.of.Named trade.sheep
    pub wheat : g.of.Named trade.wheat

  -- ---- by the pool

  module _ (trade : Trade) (m : EntryMap) (a : Amounts) (its : IsSwapping trade m a) (holds : g.Holds m) where
    abbrev p : LiquidityPoolEntry
    p = its.pool

    its_pool_fits : g.of.Pool p
    its_pool_fits =
        let found = pool_entry m (pool_of_pair trade) p its.exists in
        subst (FitsBody g.of) found.1.is
        (g.found m (key.LiquidityPool (pool_of_pair trade)) found.0 holds found.1.there).body

    -- both reserves stay within 64 bits with a sign
    by_order : (t : Bool)
        → DoesSwap (unsigned_abs (if t then p.reserve_a else p.reserve_b))
        (unsigned_abs (if t then p.reserve_b else p.reserve_a)) a
        → g.of.Pool (if t then with_reserves (pos a.sheep) (neg_ℤ (pos a.wheat)) p
        else with_reserves (neg_ℤ (pos a.wheat)) (pos a.sheep) p)
    by_order true does =
        g.pooled _ _ _ _ p (λ asks. record {
          reserve_a = λ le. rises_few p.reserve_a a.sheep does.fits;
          reserve_b = λ le. sub_natural_at_most p.reserve_b greatest_i64 a.wheat le;
          total = λ le. le;
          counted = λ le. le;
        }) its_pool_fits
    by_order false does =
        g.pooled _ _ _ _ p (λ asks. record {
          reserve_a = λ le. sub_natural_at_most p.reserve_a greatest_i64 a.wheat le;
          reserve_b = λ le. rises_few p.reserve_b a.sheep does.fits;
          total = λ le. le;
          counted = λ le. le;
        }) its_pool_fits

    swapped_pool : g.of.Pool (with_swap trade a p)
    swapped_pool = by_order (is_sheep_first trade) (swaps trade.rounding _ _ (left_of trade) a its.swap).0

    same : (q : LiquidityPoolEntry) → pool_at m (pool_of_pair trade) ≡ Some q → p ≡ q
    same q at = let exists = its.exists in cc

    pub swapped_holds : (g.Asks → IsCrossable m) → AreNamed trade → AreCrossed g most_atoms (swapped trade a m)
    swapped_holds legal named = record {
      entries = pool_changed g m (pool_of_pair trade) (with_swap trade a)
          (λ q at fits. subst (λ x. g.of.Pool (with_swap trade a x)) (same q at) swapped_pool) holds;
      reported = All-cons g.Reported (pool_atom trade a) []
          (g.swapped p (pool_of_pair trade) trade.wheat trade.sheep (pos a.wheat) (pos a.sheep) named.wheat named.sheep
          (λ asks. let k = legal asks in
          (pool_legal k.view k.id_pool k.owed k.sum m (pool_of_pair trade) p k.legal its.exists).own) its_pool_fits)
          (All-nil g.Reported);
      few = one_atom;
    }

  -- ---- by the one or the other

  module _ (ctx : Ctx) (trade : Trade) (m : EntryMap) (legal : g.Asks → IsCrossable m) (holds : g.Holds m)
      (named : AreNamed trade) (few : trade.crossings ≤ most_crossings) where
    book_holds : AreCrossed g most_atoms (converted ctx.base_reserve trade m)
    book_holds =
        let h = crossed_holds g ctx.base_reserve trade trade.crossings (left_of trade) m legal holds in
        record {
          entries = h.entries;
          reported = h.reported;
          few = few_crossed (length (converted ctx.base_reserve trade m).atoms) trade.crossings h.few few;
        }

    by_either : (done : Crossing) → IsEither trade m (converted ctx.base_reserve trade m) done
        → AreCrossed g most_atoms done
    by_either done (inl is) = subst (AreCrossed g most_atoms) (sym is) book_holds
    by_either done (inr its) =
        subst (AreCrossed g most_atoms) (sym its.2) (swapped_holds trade m its.0 its.1 holds legal named)

    pub hop_holds : AreCrossed g most_atoms (hop ctx trade m)
    hop_holds = by_either (hop ctx trade m) (hop_is_either ctx trade m)
