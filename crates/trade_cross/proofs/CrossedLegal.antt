-- Crossing keeps a state legal.
use Rattle.trade_cross.proofs.Prelude as prelude
use prelude.{◌≡◌, refl, sym, subst, ℕ, ◌+◌, ◌-◌, ◌≤◌, zero, suc, Bool, true, false, Option, Some, None, arith, ints, ℤ}
use prelude.{pos, ◌+ℤ◌, if◌then◌else◌, OfferEntry, EntryMap, offer_at, is_same_account, best, View, Owed, IsLegalOwing}
use prelude.{CrossEnd, Converted, BadPrice, CrossSelf, TooMany, Trade, Turn, Ends, Meets, Left, is_too_dear, turn_at}
use prelude.{is_used_up, turn, Crossing, ended, at_limit, joined, left_after, Step, step, atom_of, crossed}
use prelude.{apart_accounts, Passes, IsOwedRightly, CrossingKeeps, kept_by, kept_in, more_by, more_in, AreTraded}
use prelude.{IsOfTrade, bought_in, sold_in, All-nil, All-cons, ◌≢◌, is_eq, asset_cmp, IsKeyed, Leaves, leaves_itself}
use prelude.{leaves_both, add_assoc, add_zero, natural_nonnegative, zero_at_most, same_assets, and_parts}
use Rattle.trade_cross.proofs.Passing.{passes_itself, passes_on}
use Rattle.trade_cross.proofs.StepLeft.{step_left, step_passes}
use Rattle.trade_cross.proofs.Book.{IsInBook, best_exists}
use Rattle.trade_cross.proofs.StepLegal.{step_legal, step_sheep, step_wheat}

-- ---- what an offer that is met is

-- an offer of the book that isn't the taker's
pub record IsMet (m : EntryMap) (trade : Trade) (o : OfferEntry) : Type 0 where
  pub book : IsInBook m trade.wheat trade.sheep o
  pub other : is_same_account o.seller_id trade.taker ≡ false

module _ (trade : Trade) (left : Left) (m : EntryMap) (keyed : IsKeyed m) (o : OfferEntry) where
  not_own : (t : Bool) (first : OfferEntry) → is_same_account first.seller_id trade.taker ≡ t
      → best m trade.wheat trade.sheep ≡ Some first → (if t then Ends CrossSelf else Meets first) ≡ Meets o
      → IsMet m trade o
  not_own true first own is meets = absurd (cc)
  not_own false first own is meets =
      let same : first ≡ o = cc in
      subst (IsMet m trade) same
      (record { book = best_exists m keyed trade.wheat trade.sheep first is; other = own })

  not_dear : (t : Bool) (first : OfferEntry) → best m trade.wheat trade.sheep ≡ Some first
      → (if t then Ends BadPrice else if is_same_account first.seller_id trade.taker then Ends CrossSelf
      else Meets first) ≡ Meets o → IsMet m trade o
  not_dear true first is meets = absurd (cc)
  not_dear false first is meets = not_own (is_same_account first.seller_id trade.taker) first refl is meets

  by_best : (x : Option OfferEntry) → best m trade.wheat trade.sheep ≡ x → turn_at trade x ≡ Meets o → IsMet m trade o
  by_best None is meets = absurd (cc)
  by_best (Some first) is meets = not_dear (is_too_dear trade first trade.greatest) first is meets

  by_left : (t : Bool) → (if t then Ends Converted else turn_at trade (best m trade.wheat trade.sheep)) ≡ Meets o
      → IsMet m trade o
  by_left true meets = absurd (cc)
  by_left false meets = by_best (best m trade.wheat trade.sheep) refl meets

  pub met : turn trade left m ≡ Meets o → IsMet m trade o
  unfolding turn
  met meets = by_left (is_used_up left) meets

-- ---- the recursion

summed : (a b : ℕ) (rest : ℤ) → rest ≡ pos b → (pos a +ℤ rest) ≡ pos (a + b)
summed a b rest is = omega (arith, ints)

together : (a b n : ℕ) → a ≤ n → b ≤ n - a → a + b ≤ n
together a b n le rest = omega arith

alone : (a n : ℕ) → a ≤ n → a + 0 ≤ n
alone a n le = omega arith

module _ (v : View) (id_pool base : ℕ) (owed : Owed) (right : IsOwedRightly owed) (trade : Trade) where
  -- the same, with what the accounts have more
  pub record IsDone (sum : ℤ) (left : Left) (m : EntryMap) (done : Crossing) : Type 0 where
    pub legal : IsLegalOwing v id_pool owed (sum +ℤ kept_in v.asset done.atoms) done.entries
    pub sheep : done.sheep ≤ left.sheep_send
    pub wheat : done.wheat ≤ left.wheat_receive
    pub leaves : Leaves base (more_in done.atoms) m done.entries
    pub passes : Passes base trade.taker m done.entries
    pub atoms : AreTraded trade done

  nothing_crossed : (sum : ℤ) (left : Left) (m : EntryMap) (end : CrossEnd)
      → IsLegalOwing v id_pool owed sum m → IsDone sum left m (ended m end)
  nothing_crossed sum left m end legal = record {
    legal = subst (λ s. IsLegalOwing v id_pool owed s m) (sym (add_zero sum)) legal;
    sheep = zero_at_most left.sheep_send;
    wheat = zero_at_most left.wheat_receive;
    leaves = leaves_itself base m legal.keyed;
    passes = passes_itself base trade.taker m;
    atoms = record { sheep = refl; wheat = refl; each = All-nil (IsOfTrade trade) };
  }

  limited : (sum : ℤ) (left : Left) (m : EntryMap) (t : Turn) → IsLegalOwing v id_pool owed sum m
      → IsDone sum left m (at_limit m t)
  limited sum left m (Ends end) legal = nothing_crossed sum left m end legal
  limited sum left m (Meets o) legal = nothing_crossed sum left m TooMany legal

  module _ (sum : ℤ) (left : Left) (m : EntryMap) (legal : IsLegalOwing v id_pool owed sum m) (o : OfferEntry)
      (its : IsMet m trade o) where
    abbrev exists : offer_at m o.seller_id o.offer_id ≡ Some o
    exists = its.book.exists

    abbrev x : Step
    x = step base trade.rounding left o m

    abbrev sum_then : ℤ
    sum_then = sum +ℤ kept_by v.asset (atom_of o x.amounts)

    legal_then : IsLegalOwing v id_pool owed sum_then x.entries
    legal_then = step_legal v id_pool base owed right o sum m legal exists trade.rounding left

    sheep_then : x.amounts.sheep ≤ left.sheep_send
    sheep_then = step_sheep v id_pool base owed right o sum m legal exists trade.rounding left

    wheat_then : x.amounts.wheat ≤ left.wheat_receive
    wheat_then = step_wheat v id_pool base owed right o sum m legal exists trade.rounding left

    leaves_then : Leaves base (more_by (atom_of o x.amounts)) m x.entries
    leaves_then = step_left v id_pool base owed right o sum m legal exists trade.rounding left

    passes_then : Passes base trade.taker m x.entries
    passes_then = step_passes v id_pool base owed right o sum m legal exists trade.rounding left trade.taker
        (λ same. apart_accounts o.seller_id trade.taker its.other (sym same))

    not_taker : o.seller_id ≢ trade.taker
    not_taker = apart_accounts o.seller_id trade.taker its.other

    first_atom : IsOfTrade trade (atom_of o x.amounts)
    first_atom = (
      not_taker,
      same_assets o.selling trade.wheat (and_parts (is_eq (asset_cmp o.selling trade.wheat))
          (is_eq (asset_cmp o.buying trade.sheep)) its.book.pair).0,
      same_assets o.buying trade.sheep (and_parts (is_eq (asset_cmp o.selling trade.wheat))
          (is_eq (asset_cmp o.buying trade.sheep)) its.book.pair).1,
      natural_nonnegative x.amounts.wheat,
      natural_nonnegative x.amounts.sheep,
    )

    with_rest : (rest : Crossing) → IsDone sum_then (left_after left x.amounts) x.entries rest
        → IsDone sum left m (joined o x.amounts rest)
    with_rest rest h = record {
      legal = subst (λ s. IsLegalOwing v id_pool owed s rest.entries)
          (add_assoc sum (kept_by v.asset (atom_of o x.amounts)) (kept_in v.asset rest.atoms)) h.legal;
      sheep = together x.amounts.sheep rest.sheep left.sheep_send sheep_then h.sheep;
      wheat = together x.amounts.wheat rest.wheat left.wheat_receive wheat_then h.wheat;
      leaves = leaves_both base (more_by (atom_of o x.amounts)) (more_in rest.atoms) m x.entries rest.entries
          leaves_then h.leaves;
      passes = passes_on base trade.taker m x.entries rest.entries passes_then h.passes;
      atoms = record {
        sheep = summed x.amounts.sheep rest.sheep (bought_in rest.atoms) h.atoms.sheep;
        wheat = summed x.amounts.wheat rest.wheat (sold_in rest.atoms) h.atoms.wheat;
        each = All-cons (IsOfTrade trade) (atom_of o x.amounts) rest.atoms first_atom h.atoms.each;
      };
    }

    by_stays : (t : Bool) (rest : Crossing) → IsDone sum_then (left_after left x.amounts) x.entries rest
        → IsDone sum left m (joined o x.amounts (if t then ended x.entries Converted else rest))
    by_stays true rest h = with_rest (ended x.entries Converted)
        (nothing_crossed sum_then (left_after left x.amounts) x.entries Converted legal_then)
    by_stays false rest h = with_rest rest h

  by_turn : (k : ℕ) (sum : ℤ) (left : Left) (m : EntryMap)
      → ((sum : ℤ) (left : Left) (m : EntryMap) → IsLegalOwing v id_pool owed sum m
      → IsDone sum left m (crossed base trade k left m)) → IsLegalOwing v id_pool owed sum m
      → (t : Turn) → turn trade left m ≡ t
      → IsDone sum left m (elim t as (λ s. Crossing) [
        | Ends end ↦ ended m end
        | Meets o ↦
            let x = step base trade.rounding left o m in
            joined o x.amounts (if x.stays then ended x.entries Converted
            else crossed base trade k (left_after left x.amounts) x.entries)
      ])
  by_turn k sum left m rest legal (Ends end) is = nothing_crossed sum left m end legal
  by_turn k sum left m rest legal (Meets o) is =
      let its = met trade left m legal.keyed o is in
      by_stays sum left m legal o its (step base trade.rounding left o m).stays
      (crossed base trade k (left_after left (step base trade.rounding left o m).amounts)
      (step base trade.rounding left o m).entries)
      (rest (sum_then sum left m legal o its) (left_after left (step base trade.rounding left o m).amounts)
      (step base trade.rounding left o m).entries (legal_then sum left m legal o its))

  pub crossed_legal : (k : ℕ) (sum : ℤ) (left : Left) (m : EntryMap) → IsLegalOwing v id_pool owed sum m
      → IsDone sum left m (crossed base trade k left m)
  unfolding crossed
  crossed_legal zero sum left m legal = limited sum left m (turn trade left m) legal
  crossed_legal (suc k) sum left m legal = by_turn k sum left m (crossed_legal k) legal (turn trade left m) refl

pub crossing_keeps : CrossingKeeps
crossing_keeps v id_pool base owed sum trade crossings left m legal right =
    let done = crossed_legal v id_pool base owed right trade crossings sum left m legal in
    record {
      legal = done.legal;
      sheep = done.sheep;
      wheat = done.wheat;
      holds = done.leaves.holds;
      accounts = done.leaves.each;
      exist = done.leaves.exist;
      passes = done.passes;
      atoms = done.atoms;
    }
