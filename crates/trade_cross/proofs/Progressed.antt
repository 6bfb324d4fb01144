-- What one more turn adds to a trade.
use Rattle.trade_cross.proofs.Prelude.{◌≡◌, refl, sym, ap, subst, ◌∙◌, ℕ, ◌+◌, ◌-◌, ◌≤◌, ◌<◌, zero, suc, true, false}
use Rattle.trade_cross.proofs.Prelude.{List, [], ◌∷◌, ◌++◌, Some, None, append_assoc, append-nil, arith, ints, ℤ, pos}
use Rattle.trade_cross.proofs.Prelude.{◌+ℤ◌, ◌-ℤ◌, ◌≤ℤ◌, unsigned_abs, if◌then◌else◌, ClaimAtom, OfferEntry, EntryMap}
use Rattle.trade_cross.proofs.Prelude.{offer_at, Amounts, greatest_i64, CrossEnd, Converted, TooMany, Plan, Trade, Turn}
use Rattle.trade_cross.proofs.Prelude.{Ends, Meets, IsCrossable, Left, Crossing, Step, step, turn, ended, joined}
use Rattle.trade_cross.proofs.Prelude.{at_limit, left_after, crossed, converted, atom_of, left_in, atom_of_plan, noted}
use Rattle.trade_cross.proofs.Prelude.{DoesNoteFit, IsWithin, IsCrossing, following, in_all, Advances, IsMoved}
use Rattle.trade_cross.proofs.Prelude.{add_nonnegative, natural_zero_add, nonnegative_from_natural, suc_minus_one}
use Rattle.ledger_types.specs.declared.claim_atom.ClaimAtom.TheVariants as atom
use Rattle.trade_cross.specs.declared.progress.Progress.{Progress}
use Rattle.trade_cross.proofs.CrossedLegal.{met}
use Rattle.trade_cross.proofs.StepLegal.{step_legal, step_sheep, step_wheat}

-- ---- the recursion, turn by turn

module _ (base : ℕ) (trade : Trade) (left : Left) (m : EntryMap) where
  abbrev go_on : ℕ → Turn → Crossing
  go_on k (Ends end) = ended m end
  go_on k (Meets o) =
      let x = step base trade.rounding left o m in
      joined o x.amounts (if x.stays then ended x.entries Converted
      else crossed base trade k (left_after left x.amounts) x.entries)

  pub crossed_next : (k : ℕ) → crossed base trade (suc k) left m ≡ go_on k (turn trade left m)
  unfolding crossed
  crossed_next k = by_turn (turn trade left m)
    where
      by_turn : (t : Turn) → (elim t as (λ s. Crossing) [
        | Ends end ↦ ended m end
        | Meets o ↦
            let x = step base trade.rounding left o m in
            joined o x.amounts (if x.stays then ended x.entries Converted
            else crossed base trade k (left_after left x.amounts) x.entries)
      ]) ≡ go_on k t
      by_turn (Ends end) = refl
      by_turn (Meets o) = refl

  pub crossed_ends : (k : ℕ) (end : CrossEnd) → turn trade left m ≡ Ends end → crossed base trade k left m ≡ ended m end
  unfolding crossed
  crossed_ends zero end is = ap (at_limit m) is
  crossed_ends (suc k) end is = crossed_next k ∙ ap (go_on k) is

  pub crossed_limited : (o : OfferEntry) → turn trade left m ≡ Meets o → crossed base trade 0 left m ≡ ended m TooMany
  unfolding crossed
  crossed_limited o is = ap (at_limit m) is

  pub crossed_meets : (k : ℕ) (o : OfferEntry) → turn trade left m ≡ Meets o
      → crossed base trade (suc k) left m ≡ go_on k (Meets o)
  crossed_meets k o is = crossed_next k ∙ ap (go_on k) is

-- ---- one offer more

sum_abs : (p x : ℤ) (a b : ℕ) → pos 0 ≤ℤ p → x ≡ pos a → unsigned_abs (p +ℤ x) + b ≡ unsigned_abs p + (a + b)
sum_abs p x a b low is = omega (arith, ints)

less_abs : (s x : ℤ) (a : ℕ) → pos 0 ≤ℤ s → x ≡ pos a → a ≤ unsigned_abs s → unsigned_abs (s -ℤ x) ≡ unsigned_abs s - a
less_abs s x a low is le = omega (arith, ints)

within_abs : (s x : ℤ) (a : ℕ) → pos 0 ≤ℤ s → x ≡ pos a → a ≤ unsigned_abs s → x ≤ℤ s
within_abs s x a low is le = omega (arith, ints)

left_low : (s x : ℤ) → x ≤ℤ s → pos 0 ≤ℤ (s -ℤ x)
left_low s x le = omega (arith, ints)

same_sum : (p x s t : ℤ) → (p +ℤ s) ≡ t → ((p +ℤ x) +ℤ (s -ℤ x)) ≡ t
same_sum p x s t is = omega (arith, ints)

sum_fits : (p s t g : ℤ) → (p +ℤ s) ≡ t → t ≤ℤ g → (p +ℤ s) ≤ℤ g
sum_fits p s t g is le = omega (arith, ints)

some_crossings : (c : ℕ) → 0 < c → (k : ℕ) × (c ≡ suc k)
some_crossings zero some = absurd (omega arith)
some_crossings (suc k) some = (k, refl)

one_more : (c : ℕ) → 0 < c → (c - 1) + 1 ≡ c
one_more c some = omega arith

module _ (p : Progress) (o : OfferEntry) (plan : Plan) (a : Amounts) (sheep : plan.sheep ≡ pos a.sheep)
    (wheat : plan.wheat ≡ pos a.wheat) where
  atom_is : atom_of_plan o plan ≡ atom_of o a
  atom_is = λ i. atom.OrderBook o.seller_id o.offer_id o.selling (wheat i) o.buying (sheep i)

  atoms_are : (rest : List ClaimAtom)
      → (p.atoms ++ atom_of_plan o plan ∷ []) ++ rest ≡ p.atoms ++ atom_of o a ∷ rest
  atoms_are rest = append_assoc p.atoms (atom_of_plan o plan ∷ []) rest ∙ ap (λ x. p.atoms ++ x ∷ rest) atom_is

  module _ (trade : Trade) (within : IsWithin trade p) where
    after_joined : (rest : Crossing) → following (noted p o plan) rest ≡ following p (joined o a rest)
    after_joined rest = λ i. record {
      sheep = sum_abs p.sheep plan.sheep a.sheep rest.sheep within.sheep_low sheep i;
      wheat = sum_abs p.wheat plan.wheat a.wheat rest.wheat within.wheat_low wheat i;
      atoms = atoms_are rest.atoms i;
      end = rest.end;
      entries = rest.entries;
    }

    module _ (sheep_within : a.sheep ≤ unsigned_abs p.left.sheep_send)
        (wheat_within : a.wheat ≤ unsigned_abs p.left.wheat_receive) where
      left_is : left_in (noted p o plan).left ≡ left_after (left_in p.left) a
      left_is = λ i. record {
        sheep_send = less_abs p.left.sheep_send plan.sheep a.sheep within.left.sheep_send sheep sheep_within i;
        wheat_receive = less_abs p.left.wheat_receive plan.wheat a.wheat within.left.wheat_receive wheat wheat_within i;
      }

      sheep_left : plan.sheep ≤ℤ p.left.sheep_send
      sheep_left = within_abs p.left.sheep_send plan.sheep a.sheep within.left.sheep_send sheep sheep_within

      wheat_left : plan.wheat ≤ℤ p.left.wheat_receive
      wheat_left = within_abs p.left.wheat_receive plan.wheat a.wheat within.left.wheat_receive wheat wheat_within

      note_fits : DoesNoteFit p plan
      note_fits = record {
        sheep = nonnegative_from_natural plan.sheep a.sheep sheep;
        wheat = nonnegative_from_natural plan.wheat a.wheat wheat;
        sheep_left = sheep_left;
        wheat_left = wheat_left;
        sheep_low = within.sheep_low;
        wheat_low = within.wheat_low;
        sheep_fits = sum_fits p.sheep p.left.sheep_send trade.sheep_send greatest_i64 within.sheep within.sheep_fits;
        wheat_fits = sum_fits p.wheat p.left.wheat_receive trade.wheat_receive greatest_i64 within.wheat
            within.wheat_fits;
      }

      noted_within : IsWithin trade (noted p o plan)
      noted_within = record {
        left = record {
          sheep_send = left_low p.left.sheep_send plan.sheep sheep_left;
          wheat_receive = left_low p.left.wheat_receive plan.wheat wheat_left;
        };
        sheep_low = add_nonnegative p.sheep plan.sheep within.sheep_low
            (nonnegative_from_natural plan.sheep a.sheep sheep);
        wheat_low = add_nonnegative p.wheat plan.wheat within.wheat_low
            (nonnegative_from_natural plan.wheat a.wheat wheat);
        sheep = same_sum p.sheep plan.sheep p.left.sheep_send trade.sheep_send within.sheep;
        wheat = same_sum p.wheat plan.wheat p.left.wheat_receive trade.wheat_receive within.wheat;
        sheep_fits = within.sheep_fits;
        wheat_fits = within.wheat_fits;
      }

-- ---- an offer that is met

module _ (base : ℕ) (trade : Trade) (p : Progress) (m : EntryMap) (crossable : IsCrossable m)
    (within : IsWithin trade p) (some : 0 < p.crossings) (o : OfferEntry)
    (meets : turn trade (left_in p.left) m ≡ Meets o) where
  abbrev left : Left
  left = left_in p.left

  abbrev x : Step
  x = step base trade.rounding left o m

  pub exists : offer_at m o.seller_id o.offer_id ≡ Some o
  exists = (met trade left m crossable.legal.keyed o meets).book.exists

  sheep_within : x.amounts.sheep ≤ left.sheep_send
  sheep_within = step_sheep crossable.view crossable.id_pool base crossable.owed crossable.right o crossable.sum m
      crossable.legal exists trade.rounding left

  wheat_within : x.amounts.wheat ≤ left.wheat_receive
  wheat_within = step_wheat crossable.view crossable.id_pool base crossable.owed crossable.right o crossable.sum m
      crossable.legal exists trade.rounding left

  -- crossing goes on
  pub still_crossable : IsCrossable x.entries
  still_crossable = record {
    view = crossable.view;
    id_pool = crossable.id_pool;
    owed = crossable.owed;
    sum = _;
    legal = step_legal crossable.view crossable.id_pool base crossable.owed crossable.right o crossable.sum m
        crossable.legal exists trade.rounding left;
    right = crossable.right;
  }

  module _ (plan : Plan) (moved : IsMoved plan x) where
    pub fits : DoesNoteFit p plan
    fits = note_fits p o plan x.amounts moved.sheep moved.wheat trade within sheep_within wheat_within

    pub then_within : IsWithin trade (noted p o plan)
    then_within = noted_within p o plan x.amounts moved.sheep moved.wheat trade within sheep_within wheat_within

    abbrev q : Progress
    q = noted p o plan

    abbrev rest : ℕ → Crossing
    rest k = if x.stays then ended x.entries Converted else crossed base trade k (left_after left x.amounts) x.entries

    all_is : (k : ℕ) → p.crossings ≡ suc k → in_all base trade p m ≡ following q (rest k)
    all_is k is =
        ap (λ c. following p (crossed base trade c left m)) is
        ∙ ap (following p) (crossed_meets base trade left m k o meets)
        ∙ sym (after_joined p o plan x.amounts moved.sheep moved.wheat trade within (rest k))

    pub ends_converted : x.stays ≡ true → Advances base trade (Some Converted) p m q x.entries
    ends_converted stays =
        let k = some_crossings p.crossings some in
        sym (all_is k.0 k.1 ∙ ap (λ t. following q (if t then ended x.entries Converted
        else crossed base trade k.0 (left_after left x.amounts) x.entries)) stays)

    pub goes_on : x.stays ≡ false → Advances base trade None p m q x.entries
    goes_on goes =
        let k = some_crossings p.crossings some in (
          (λ i. following q (crossed base trade (suc_minus_one p.crossings k.0 k.1 i)
              (left_is p o plan x.amounts moved.sheep
              moved.wheat trade within sheep_within wheat_within i) x.entries))
              ∙ sym (all_is k.0 k.1 ∙ ap (λ t. following q (if t then ended x.entries Converted
              else crossed base trade k.0 (left_after left x.amounts) x.entries)) goes),
          one_more p.crossings some,
        )

    -- the same of what calls left
    module _ (after : Progress) (n : EntryMap) (after_is : after ≡ q) (n_is : n ≡ x.entries) where
      pub converted_then : x.stays ≡ true → Advances base trade (Some Converted) p m after n
      converted_then stays = subst (λ (k : EntryMap). Advances base trade (Some Converted) p m after k) (sym n_is)
          (subst (λ (r : Progress). Advances base trade (Some Converted) p m r x.entries) (sym after_is)
          (ends_converted stays))

      pub going_on_then : x.stays ≡ false → Advances base trade None p m after n
      going_on_then goes = subst (λ (k : EntryMap). Advances base trade None p m after k) (sym n_is)
          (subst (λ (r : Progress). Advances base trade None p m r x.entries) (sym after_is) (goes_on goes))

-- ---- an end

pub ends : (base : ℕ) (trade : Trade) (p : Progress) (m : EntryMap) (end : CrossEnd)
    → turn trade (left_in p.left) m ≡ Ends end → Advances base trade (Some end) p m p m
ends base trade p m end is = ap (following p) (sym (crossed_ends base trade (left_in p.left) m p.crossings end is))

pub limited : (base : ℕ) (trade : Trade) (p : Progress) (m : EntryMap) (o : OfferEntry)
    → turn trade (left_in p.left) m ≡ Meets o → p.crossings ≡ 0 → Advances base trade (Some TooMany) p m p m
limited base trade p m o is none =
    ap (following p) (sym (ap (λ c. crossed base trade c (left_in p.left) m) none
    ∙ crossed_limited base trade (left_in p.left) m o is))

-- ---- the entire trade

abbrev pub start : Trade → Progress
start trade =
    record {
      left = record { sheep_send = trade.sheep_send; wheat_receive = trade.wheat_receive };
      crossings = trade.crossings;
      sheep = pos 0;
      wheat = pos 0;
      atoms = [];
    }

-- nothing was crossed before
pub start_is : (base : ℕ) (trade : Trade) (m : EntryMap) → converted base trade m ≡ in_all base trade (start trade) m
start_is base trade m =
    let done = converted base trade m in
    λ i. record {
      sheep = sym (natural_zero_add done.sheep) i;
      wheat = sym (natural_zero_add done.wheat) i;
      atoms = done.atoms;
      end = done.end;
      entries = done.entries;
    }

abs_add_zero : (z : ℤ) → pos 0 ≤ℤ z → z ≡ pos (unsigned_abs z + 0)
abs_add_zero z low = omega (arith, ints)

module _ (trade : Trade) (done : Crossing) (q : Progress) (n : EntryMap) (end : CrossEnd) (within : IsWithin trade q)
    (is : done ≡ following q (ended n end)) where
  pub finished : IsCrossing (record { sheep = q.sheep; wheat = q.wheat; atoms = q.atoms; end = end }) done
  finished = record {
    sheep = abs_add_zero q.sheep within.sheep_low ∙ sym (ap (λ (c : Crossing). pos c.sheep) is);
    wheat = abs_add_zero q.wheat within.wheat_low ∙ sym (ap (λ (c : Crossing). pos c.wheat) is);
    atoms = sym (append-nil q.atoms) ∙ sym (ap (λ (c : Crossing). c.atoms) is);
    end = sym (ap (λ (c : Crossing). c.end) is);
  }

  pub finished_entries : n ≡ done.entries
  finished_entries = sym (ap (λ (c : Crossing). c.entries) is)
