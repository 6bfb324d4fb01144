-- One offer that is crossed, by what its owner can give and take before its liabilities are released.
use Rattle.trade_cross.proofs.Prelude as prelude
use prelude.{◌≡◌, refl, sym, ap, subst, ◌∙◌, ℕ, ◌-◌, ◌≤◌, zero, suc, inl, inr, Bool, true, false, Option, Some, None}
use prelude.{arith, ints, get, ℤ, pos, neg_ℤ, ◌+ℤ◌, ◌-ℤ◌, ◌≤ℤ◌, unsigned_abs, if◌then◌else◌, AccountId, Liabilities}
use prelude.{AccountEntry, OfferEntry, LedgerEntry, LedgerKey, EntryMap, account_of, account_at, account_liabilities}
use prelude.{line_of, line_at, offer_at, with_offer, map_after_removing, Rounding, Amounts, Bounds, exchanged}
use prelude.{wheat_stays, available, min_balance, greatest_i64, risen, releasing, binding, View, bound_of}
use prelude.{IsOwedRightly, Owed, IsLegalOwing, IsOfferInRange, account_legal, minimum_not_below, stored, line_legal}
use prelude.{IsHeld, Left, seller_gives_at, seller_takes_at, amount_at, meeting, map_after_trade, kept_by, atom_of}
use prelude.{with_amount, offer_key, map_after_rest, step_by, step, at_least_nothing, account_gives, most_given}
use prelude.{most_taken, changing, changed_account, DoesChangeFit, giving_change, taking_change, map_after_once}
use prelude.{one_not_at_most_zero}
use Rattle.ledger_types.specs.declared.key.LedgerKey.TheVariants as key
use Rattle.trade_cross.proofs.Altering.{AreApart, opt_elsewhere}
use Rattle.trade_cross.proofs.Binding.{bindable_held}
use Rattle.trade_cross.proofs.Changing.{bound_entry, bound_keeps, bound_altered}
use Rattle.trade_cross.proofs.Extended.{IsExtended, sells_extended, buys_extended}
use Rattle.trade_cross.proofs.Fits.{AreAllInRange, first_fits, second_fits}
use Rattle.trade_cross.proofs.HoldersApart.{holders_apart, not_an_offer}
use Rattle.trade_cross.proofs.Once.{gone_is, rest_is, once_exists}
use Rattle.trade_cross.proofs.Passing.{holder_own}
use Rattle.trade_cross.proofs.Paying.{within}
use Rattle.trade_cross.proofs.SeenSides.{giver_then}
use Rattle.trade_cross.proofs.StepLegal.{IsOpen, its_range, covered_then, trade_open, release_open, lets}
use Rattle.trade_cross.proofs.StepLegal.{offer_rests, sells_fit, account_keeps, line_keeps, same_given, enough}
use Rattle.trade_cross.proofs.StepLegal.{in_bounds}

-- what is legal is in its ranges
pub all_in_range : (v : View) (id_pool : ℕ) (owed : Owed) (sum : ℤ) (m : EntryMap) → IsLegalOwing v id_pool owed sum m
    → AreAllInRange m
all_in_range v id_pool owed sum m legal = record {
  accounts = λ id a exists. (account_legal v id_pool owed sum m id a legal exists).range.range;
  lines = λ id x t exists.
      let its = line_legal v id_pool owed sum m id x t legal exists in (its.range.range, its.range.greatest);
}

same_range : (m n : EntryMap) → m ≡ n → AreAllInRange m → AreAllInRange n
same_range m n is range = subst AreAllInRange is range

falls : (n : ℕ) → pos 1 ≤ℤ (pos 0 -ℤ pos n) → ⊥
falls n more = omega (arith, ints)

sold_within : (b p x s : ℤ) (was now : ℕ) (g : ℤ) → pos 0 ≤ℤ p → (b +ℤ x) ≤ℤ g → pos 0 ≤ℤ x
    → pos now ≤ℤ (b -ℤ p -ℤ (s +ℤ (pos 0 -ℤ pos was))) → (s +ℤ (pos now -ℤ pos was)) ≤ℤ g
sold_within b p x s was now g low fits also le = omega (arith, ints)

none_sold : (was now : ℕ) → now ≡ 0 → pos 1 ≤ℤ (pos now -ℤ pos was) → ⊥
none_sold was now none more = omega (arith, ints)

module _ (v : View) (id_pool base : ℕ) (owed : Owed) (right : IsOwedRightly owed) (o : OfferEntry) (sum : ℤ)
    (m : EntryMap) (legal : IsLegalOwing v id_pool owed sum m) (exists : offer_at m o.seller_id o.offer_id ≡ Some o)
  where
    abbrev w : Option LedgerKey
    w = seller_gives_at o

    abbrev s : Option LedgerKey
    s = seller_takes_at o

    abbrev r : EntryMap
    r = releasing o m

    open_r : IsOpen v id_pool owed sum r o
    open_r = release_open v id_pool base owed right o sum m legal exists

    pub range : IsOfferInRange id_pool o
    range = its_range v id_pool base owed right o sum r open_r

    pub apart : AreApart w s
    apart = holders_apart o.seller_id o.selling o.buying range.assets

    abbrev less_wheat : ℤ
    less_wheat = neg_ℤ (pos (bound_of o).wheat)

    abbrev less_sheep : ℤ
    less_sheep = neg_ℤ (pos (bound_of o).sheep)

    pub gives_held : IsHeld m w
    gives_held = bindable_held m w less_wheat (pos 0) (lets v id_pool base owed right o sum m legal exists).0

    abbrev unsold : EntryMap
    unsold = binding w less_wheat (pos 0) m

    unsold_same : (x : LedgerKey) → s ≡ Some x → get unsold x ≡ get m x
    unsold_same x is =
        ap (λ n. get n x) (bound_altered m legal.keyed o.seller_id w
        (holder_own o.seller_id o.selling) less_wheat (pos 0))
        ∙ opt_elsewhere m legal.keyed w (bound_entry less_wheat (pos 0)) (bound_keeps less_wheat (pos 0)) x
        (λ same. apart x same is)

    held_by : (k : Option LedgerKey) → s ≡ k → IsHeld unsold k → IsHeld m k
    unfolding account_at line_at
    held_by None is held = tt
    held_by (Some (key.Account id)) is held = (held.0, ap account_of (sym (unsold_same (key.Account id) is)) ∙ held.1)
    held_by (Some (key.TrustLine id x)) is held =
        (held.0, ap line_of (sym (unsold_same (key.TrustLine id x) is)) ∙ held.1, held.2)
    held_by (Some other) is held = absurd held

    pub takes_held : IsHeld m s
    takes_held = held_by s refl
        (bindable_held unsold s (pos 0) less_sheep (lets v id_pool base owed right o sum m legal exists).1)

    sells : (x : LedgerKey) → w ≡ Some x → (e : LedgerEntry) → get m x ≡ Some e → IsExtended e.body
    sells = sells_extended m (bound_of o).wheat range.wheat w (lets v id_pool base owed right o sum m legal exists).0

    buys : (x : LedgerKey) → s ≡ Some x → (e : LedgerEntry) → get m x ≡ Some e → IsExtended e.body
    buys x is e there = buys_extended unsold (bound_of o).sheep range.sheep s
        (lets v id_pool base owed right o sum m legal exists).1 x is e (unsold_same x is ∙ there)

    -- ---- the trade

    module _ (a : Amounts) (has : a.wheat ≤ most_given base r w) (fits : a.sheep ≤ most_taken r s) where
      abbrev t : EntryMap
      t = map_after_trade o a r

      open_t : IsOpen v id_pool owed (sum +ℤ kept_by v.asset (atom_of o a)) t o
      open_t = trade_open v id_pool base owed right o sum r open_r a has fits

      abbrev once : ℕ → EntryMap
      once rest = changing s (taking_change o a rest) (changing w (giving_change o a rest) m)

      module _ (amount : ℕ) where
        rest_by : (rest : ℕ) → amount_at base t o amount ≡ rest → map_after_rest o rest t ≡ map_after_once o a rest m
        rest_by zero is = ap (map_after_removing (offer_key o)) (gone_is m legal.keyed o apart a)
        rest_by (suc j) is = rest_is m legal.keyed o apart a j open_t.exists sells buys
            (not_an_offer o.seller_id o.selling o) (not_an_offer o.seller_id o.buying o)

      gone_range : AreAllInRange (once 0)
      gone_range = same_range t (once 0) (gone_is m legal.keyed o apart a) (all_in_range v id_pool _ _ t open_t.legal)

      module _ (amount j : ℕ) (is : amount_at base t o amount ≡ suc j) where
        abbrev new : OfferEntry
        new = with_amount (suc j) o

        abbrev after : EntryMap
        after = with_offer (once (suc j)) o.seller_id o.offer_id (λ was. new)

        after_range : AreAllInRange after
        after_range = same_range _ after (rest_is m legal.keyed o apart a j open_t.exists sells buys
            (not_an_offer o.seller_id o.selling o) (not_an_offer o.seller_id o.buying o))
            (all_in_range v id_pool owed _ _ (offer_rests v id_pool base owed right o _ t open_t j amount is))

        still : offer_at (once (suc j)) o.seller_id o.offer_id ≡ Some o
        still = once_exists m legal.keyed o apart a j open_t.exists sells buys
            (not_an_offer o.seller_id o.selling o) (not_an_offer o.seller_id o.buying o)

        once_range : AreAllInRange (once (suc j))
        once_range = record {
          accounts = λ id x there.
              after_range.accounts id x (account_keeps (once (suc j)) o new still refl refl id ∙ there);
          lines = λ id y x there.
              after_range.lines id y x (line_keeps (once (suc j)) o new still refl refl id y ∙ there);
        }

        -- so much more can be sold
        sells_within : (id : AccountId) (x : AccountEntry) → w ≡ Some (key.Account id) → account_at m id ≡ Some x
            → pos 1 ≤ℤ (giving_change o a (suc j)).selling
            → ((account_liabilities x).selling +ℤ (giving_change o a (suc j)).selling) ≤ℤ greatest_i64
        sells_within id x at there more =
            let then_x = changed_account (giving_change o a 0) x in
            let then_at = giver_then base m legal.keyed o apart a id x at there in
            let its = (account_legal v id_pool _ _ t id then_x open_t.legal then_at).range.range in
            let least = minimum_not_below v id_pool _ _ t id then_x base open_t.legal
            (covered_then v id_pool base owed right o (key.Account id)) then_at in
            let enough : (bound_of new).wheat ≤ at_least_nothing (available then_x base) =
            subst (λ q. (bound_of new).wheat ≤ account_gives base q) then_at
            (subst (λ k. (bound_of new).wheat ≤ most_given base t k) at
            (subst (λ n. (bound_of new).wheat ≤ n) (same_given t o new open_t.exists refl refl base w)
            (sells_fit v id_pool base owed right o _ t open_t j amount is))) in
            elim (within (available then_x base) (bound_of new).wheat enough) [
              | inl none ↦ absurd (none_sold (bound_of o).wheat (bound_of new).wheat none more)
              | inr le ↦ sold_within then_x.balance (min_balance then_x base) (account_liabilities then_x).buying
                  (account_liabilities x).selling (bound_of o).wheat (bound_of new).wheat greatest_i64 least its.fits
                  its.buying (subst (λ (l : Liabilities). pos (bound_of new).wheat ≤ℤ
                  (then_x.balance -ℤ min_balance then_x base -ℤ l.selling))
                  (stored (risen (pos 0 -ℤ pos (bound_of o).wheat) (pos 0) (account_liabilities x)) x.ext) le)
            ]

      -- ---- the sums of both changes fit

      fits_by : (amount rest : ℕ) (stays : Bool) → (if stays then amount_at base t o amount else 0) ≡ rest
          → DoesChangeFit m w (giving_change o a rest)
          × DoesChangeFit (changing w (giving_change o a rest) m) s (taking_change o a rest)
      fits_by amount zero stays is = (
        first_fits m legal.keyed o.seller_id w s (holder_own o.seller_id o.selling)
            (holder_own o.seller_id o.buying) apart
            (giving_change o a 0) (taking_change o a 0) gone_range
            (λ id x at there more. absurd (falls (bound_of o).wheat more)),
        second_fits m legal.keyed o.seller_id w s (holder_own o.seller_id o.selling)
            (holder_own o.seller_id o.buying) apart
            (giving_change o a 0) (taking_change o a 0) gone_range
            (λ id x at there more. absurd (one_not_at_most_zero more)),
      )
      fits_by amount (suc j) false is = absurd (cc)
      fits_by amount (suc j) true is = (
        first_fits m legal.keyed o.seller_id w s (holder_own o.seller_id o.selling)
            (holder_own o.seller_id o.buying) apart
            (giving_change o a (suc j)) (taking_change o a (suc j)) (once_range amount j is) (sells_within amount j is),
        second_fits m legal.keyed o.seller_id w s (holder_own o.seller_id o.selling)
            (holder_own o.seller_id o.buying) apart
            (giving_change o a (suc j)) (taking_change o a (suc j)) (once_range amount j is)
            (λ id x at there more. absurd (one_not_at_most_zero more)),
      )

    -- ---- the step

    module _ (rounding : Rounding) (left : Left) where
      abbrev b : Bounds
      b = meeting base r o left

      abbrev pub a : Amounts
      a = exchanged rounding (unsigned_abs o.price.n) (unsigned_abs o.price.d) b

      abbrev pub stays : Bool
      stays = wheat_stays (unsigned_abs o.price.n) (unsigned_abs o.price.d) b

      pub has : a.wheat ≤ most_given base r w
      has = enough v id_pool base owed right o sum m legal exists rounding left

      pub takes : a.sheep ≤ most_taken r s
      takes = (in_bounds v id_pool base owed right o sum m legal exists rounding left).sheep_receive

      abbrev pub amount : ℕ
      amount = b.wheat_send - a.wheat

      abbrev pub rest : ℕ
      rest = if stays then amount_at base (map_after_trade o a r) o amount else 0

      step_by_stays : (x : Bool) → (step_by base o b a x (map_after_trade o a r)).entries
          ≡ map_after_once o a (if x then amount_at base (map_after_trade o a r) o amount else 0) m
      step_by_stays true = rest_by a has takes amount (amount_at base (map_after_trade o a r) o amount) refl
      step_by_stays false = ap (map_after_removing (offer_key o)) (gone_is m legal.keyed o apart a)

      pub step_is : (step base rounding left o m).entries ≡ map_after_once o a rest m
      unfolding step
      step_is = step_by_stays stays

      pub changes_fit : DoesChangeFit m w (giving_change o a rest)
          × DoesChangeFit (changing w (giving_change o a rest) m) s (taking_change o a rest)
      changes_fit = fits_by a has takes amount rest stays refl
