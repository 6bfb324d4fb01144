-- What one crossed offer leaves of the accounts.
use Rattle.trade_cross.proofs.Prelude as prelude
use prelude.{◌≡◌, ◌≢◌, refl, sym, subst, ℕ, ◌-◌, ◌≤◌, zero, suc, Bool, true, false, Some, arith, ints, ℤ, pos, neg_ℤ}
use prelude.{◌+ℤ◌, unsigned_abs, AccountId, OfferEntry, EntryMap, offer_at, with_offer, Rounding, Bounds, Amounts}
use prelude.{wheat_stays, exchanged, map_after_removing, bound_of, binding, acquiring, releasing, View, Owed}
use prelude.{IsLegalOwing, most_given, most_taken, paying, atom_of, Left, seller_gives_at, seller_takes_at, amount_at}
use prelude.{meeting, map_after_trade, with_amount, offer_key, map_after_rest, step_by, step, IsOwedRightly, Passes}
use prelude.{more_by, IsKeyed, Increase, none_more, both_more, more_at, Leaves, leaves_both, leaves_as, keeps_both}
use Rattle.trade_cross.proofs.Left.{giving_left, taking_left, releasing_left, selling_left, buying_left}
use Rattle.trade_cross.proofs.Left.{had_one, removing_left, changing_left}
use Rattle.trade_cross.proofs.Passing.{passes_on, paying_passes, binding_passes, offer_passes, removing_passes}
use Rattle.trade_cross.proofs.Passing.{holder_own}
use Rattle.trade_cross.proofs.StepLegal.{IsOpen, its_entry, there, settled_then, owed_then}
use Rattle.trade_cross.proofs.StepLegal.{legal_now, sells, sells_fit, legal_bound, buys}
use Rattle.trade_cross.proofs.StepLegal.{gives, legal_given, takes, trade_open, lets, legal_unsold}
use Rattle.trade_cross.proofs.StepLegal.{release_open, enough, in_bounds, d}

module _ (v : View) (id_pool base : ℕ) (owed : Owed) (right : IsOwedRightly owed) (o : OfferEntry) where
  module _ (sum : ℤ) (m : EntryMap) (open_ : IsOpen v id_pool owed sum m o) where
    gone_left : Leaves base none_more m (map_after_removing (offer_key o) m)
    gone_left = removing_left v id_pool base (owed_then v id_pool base owed right o) sum m open_.legal
        (settled_then v id_pool base owed right o) o (its_entry v id_pool base owed right o sum m open_).0
        (there v id_pool base owed right o sum m open_)

    gone_passes : (x : AccountId) → x ≢ o.seller_id → Passes base x m (map_after_removing (offer_key o) m)
    gone_passes x apart = removing_passes base x m open_.legal.keyed o
        (its_entry v id_pool base owed right o sum m open_).0 (there v id_pool base owed right o sum m open_)
        (had_one v id_pool base (owed_then v id_pool base owed right o) sum m open_.legal
        (settled_then v id_pool base owed right o) o (its_entry v id_pool base owed right o sum m open_).0
        (there v id_pool base owed right o sum m open_)) apart

    module _ (j amount : ℕ) (is : amount_at base m o amount ≡ suc j) where
      abbrev after : EntryMap
      after = with_offer m o.seller_id o.offer_id (λ was. with_amount (suc j) o)

      abbrev bound : EntryMap
      bound = binding (seller_gives_at o) (pos (bound_of (with_amount (suc j) o)).wheat) (pos 0) after

      after_keyed : IsKeyed after
      after_keyed = (legal_now v id_pool base owed right o sum m open_ j amount is).keyed

      bound_keyed : IsKeyed bound
      bound_keyed = (legal_bound v id_pool base owed right o sum m open_ j amount is).keyed

      rests_left : Leaves base none_more m (acquiring (with_amount (suc j) o) after)
      rests_left = keeps_both base m after _ (changing_left base m o (with_amount (suc j) o) open_.exists refl refl
          after_keyed)
          (keeps_both base after bound _
          (selling_left base after after_keyed (seller_gives_at o) (bound_of (with_amount (suc j) o)).wheat
          (sells v id_pool base owed right o sum m open_ j amount is)
          (sells_fit v id_pool base owed right o sum m open_ j amount is))
          (buying_left base bound bound_keyed (seller_takes_at o) (pos (bound_of (with_amount (suc j) o)).sheep)
          (buys v id_pool base owed right o sum m open_ j amount is)))

      rests_pass : (x : AccountId) → x ≢ o.seller_id → Passes base x m (acquiring (with_amount (suc j) o) after)
      rests_pass x apart = passes_on base x m after _ (offer_passes base x m o (with_amount (suc j) o) open_.exists refl
          refl)
          (passes_on base x after bound _
          (binding_passes base x o.seller_id apart after after_keyed (seller_gives_at o) _ (pos 0)
          (holder_own o.seller_id o.selling) (sells v id_pool base owed right o sum m open_ j amount is))
          (binding_passes base x o.seller_id apart bound bound_keyed (seller_takes_at o) (pos 0) _
          (holder_own o.seller_id o.buying) (buys v id_pool base owed right o sum m open_ j amount is)))

    rest_left_by : (amount rest : ℕ) → amount_at base m o amount ≡ rest
        → Leaves base none_more m (map_after_rest o rest m)
    rest_left_by amount zero is = gone_left
    rest_left_by amount (suc j) is = rests_left j amount is

    rest_left : (b : Bounds) (a : Amounts) (stays : Bool) → Leaves base none_more m (step_by base o b a stays m).entries
    rest_left b a true = rest_left_by (b.wheat_send - a.wheat) (amount_at base m o (b.wheat_send - a.wheat)) refl
    rest_left b a false = gone_left

    rest_passes_by : (x : AccountId) → x ≢ o.seller_id → (amount rest : ℕ) → amount_at base m o amount ≡ rest
        → Passes base x m (map_after_rest o rest m)
    rest_passes_by x apart amount zero is = gone_passes x apart
    rest_passes_by x apart amount (suc j) is = rests_pass j amount is x apart

    rest_passes : (x : AccountId) → x ≢ o.seller_id → (b : Bounds) (a : Amounts) (stays : Bool)
        → Passes base x m (step_by base o b a stays m).entries
    rest_passes x apart b a true =
        rest_passes_by x apart (b.wheat_send - a.wheat) (amount_at base m o (b.wheat_send - a.wheat)) refl
    rest_passes x apart b a false = gone_passes x apart

  -- ---- the trade

  module _ (sum : ℤ) (m : EntryMap) (open_ : IsOpen v id_pool owed sum m o) (a : Amounts)
      (has : a.wheat ≤ most_given base m (seller_gives_at o)) (fits : a.sheep ≤ most_taken m (seller_takes_at o)) where
    abbrev between : EntryMap
    between = paying (seller_gives_at o) (neg_ℤ (pos a.wheat)) m

    between_keyed : IsKeyed between
    between_keyed = (legal_given v id_pool base owed right o sum m open_ a has fits).keyed

    trade_left : Leaves base (both_more (more_at (seller_gives_at o) o.selling (neg_ℤ (pos a.wheat)))
        (more_at (seller_takes_at o) o.buying (pos a.sheep))) m (map_after_trade o a m)
    trade_left = leaves_both base (more_at (seller_gives_at o) o.selling (neg_ℤ (pos a.wheat)))
        (more_at (seller_takes_at o) o.buying (pos a.sheep)) m between (map_after_trade o a m)
        (giving_left base m open_.legal.keyed a.wheat o.seller_id o.selling
        (gives v id_pool base owed right o sum m open_ a has fits) has)
        (taking_left base between between_keyed a.sheep o.seller_id o.buying
        (takes v id_pool base owed right o sum m open_ a has fits))

    trade_passes : (x : AccountId) → x ≢ o.seller_id → Passes base x m (map_after_trade o a m)
    trade_passes x apart = passes_on base x m between (map_after_trade o a m)
        (paying_passes base x o.seller_id apart m open_.legal.keyed (seller_gives_at o) (neg_ℤ (pos a.wheat))
        (holder_own o.seller_id o.selling) (gives v id_pool base owed right o sum m open_ a has fits))
        (paying_passes base x o.seller_id apart between between_keyed (seller_takes_at o) (pos a.sheep)
        (holder_own o.seller_id o.buying) (takes v id_pool base owed right o sum m open_ a has fits))

  -- ---- what is released, and the step

  module _ (sum : ℤ) (m : EntryMap) (legal : IsLegalOwing v id_pool owed sum m)
      (exists : offer_at m o.seller_id o.offer_id ≡ Some o) where
    abbrev less : EntryMap
    less = binding (seller_gives_at o) (neg_ℤ (pos (bound_of o).wheat)) (pos 0) m

    less_keyed : IsKeyed less
    less_keyed = (legal_unsold v id_pool base owed right o sum m legal exists).keyed

    pub release_left : Leaves base none_more m (releasing o m)
    release_left = keeps_both base m less (releasing o m)
        (releasing_left base m legal.keyed (seller_gives_at o) (bound_of o).wheat
        (lets v id_pool base owed right o sum m legal exists).0)
        (buying_left base less less_keyed (seller_takes_at o) (neg_ℤ (pos (bound_of o).sheep))
        (lets v id_pool base owed right o sum m legal exists).1)

    release_passes : (x : AccountId) → x ≢ o.seller_id → Passes base x m (releasing o m)
    release_passes x apart = passes_on base x m less (releasing o m)
        (binding_passes base x o.seller_id apart m legal.keyed (seller_gives_at o) _ (pos 0)
        (holder_own o.seller_id o.selling) (lets v id_pool base owed right o sum m legal exists).0)
        (binding_passes base x o.seller_id apart less less_keyed (seller_takes_at o) (pos 0) _
        (holder_own o.seller_id o.buying) (lets v id_pool base owed right o sum m legal exists).1)

    in_the_middle : (d : ℤ) → ((pos 0 +ℤ d) +ℤ pos 0) ≡ d
    in_the_middle d = omega (arith, ints)

    module _ (rounding : Rounding) (left : Left) where
      abbrev r : EntryMap
      r = releasing o m

      abbrev open_ : IsOpen v id_pool owed sum r o
      open_ = release_open v id_pool base owed right o sum m legal exists

      abbrev b : Bounds
      b = meeting base r o left

      abbrev a : Amounts
      a = exchanged rounding (unsigned_abs o.price.n) (unsigned_abs o.price.d) b

      abbrev has : a.wheat ≤ most_given base r (seller_gives_at o)
      has = enough v id_pool base owed right o sum m legal exists rounding left

      abbrev fits : a.sheep ≤ most_taken r (seller_takes_at o)
      fits = (in_bounds v id_pool base owed right o sum m legal exists rounding left).sheep_receive

      abbrev traded_map : EntryMap
      traded_map = map_after_trade o a r

      abbrev more : Increase
      more = both_more (more_at (seller_gives_at o) o.selling (neg_ℤ (pos a.wheat)))
          (more_at (seller_takes_at o) o.buying (pos a.sheep))

      left_by : (t : Bool) → Leaves base more m (step_by base o b a t traded_map).entries
      left_by t = leaves_as base (both_more (both_more none_more more) none_more) more m
          (step_by base o b a t traded_map).entries
          (leaves_both base (both_more none_more more) none_more m traded_map (step_by base o b a t traded_map).entries
          (leaves_both base none_more more m r traded_map release_left (trade_left sum r open_ a has fits))
          (rest_left _ traded_map (trade_open v id_pool base owed right o sum r open_ a has fits) b a t))
          (λ k x. in_the_middle (more k x))

      passes_by : (x : AccountId) → x ≢ o.seller_id → (t : Bool)
          → Passes base x m (step_by base o b a t traded_map).entries
      passes_by x apart t = passes_on base x m r _ (release_passes x apart)
          (passes_on base x r traded_map _ (trade_passes sum r open_ a has fits x apart)
          (rest_passes _ traded_map (trade_open v id_pool base owed right o sum r open_ a has fits) x apart b a t))

      amounts_by : (t : Bool) → (step_by base o b a t traded_map).amounts ≡ a
      amounts_by true = refl
      amounts_by false = refl

      -- what the step moves is what the atom says
      pub step_left : Leaves base (more_by (atom_of o (step base rounding left o m).amounts)) m
          (step base rounding left o m).entries
      unfolding step
      step_left =
          let t = wheat_stays (unsigned_abs o.price.n) (unsigned_abs o.price.d) b in
          subst (λ (x : Amounts). Leaves base (more_by (atom_of o x)) m (step_by base o b a t traded_map).entries)
          (sym (amounts_by t)) (left_by t)

      pub step_passes : (x : AccountId) → x ≢ o.seller_id → Passes base x m (step base rounding left o m).entries
      unfolding step
      step_passes x apart = passes_by x apart (wheat_stays (unsigned_abs o.price.n) (unsigned_abs o.price.d) b)
