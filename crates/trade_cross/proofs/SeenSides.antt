-- What an offer's owner can give and take, as it is seen before the offer's liabilities are released, and after the
-- trade.
use Rattle.trade_cross.proofs.Prelude as prelude
use prelude.{◌≡◌, refl, sym, ap, subst, ◌∙◌, ℕ, ◌-◌, ◌≤◌, Option, Some, None, arith, ints, ℤ, pos, neg_ℤ, ◌+ℤ◌, ◌-ℤ◌}
use prelude.{AccountId, TrustLineAsset, Liabilities, AccountEntry, TrustLineEntry, OfferEntry, LedgerKey, EntryMap}
use prelude.{account_at, account_liabilities, facts_in, line_at, line_liabilities, Amounts, available, min_balance}
use prelude.{room, line_available, line_room, greatest_i64, risen, releasing, bound_account, bound_line, IsKeyed}
use prelude.{bound_of, paid, stored, line_stored, Change, IsHeld, seller_gives_at, seller_takes_at, map_after_trade}
use prelude.{giving_change, taking_change, at_least_nothing, most_given, most_taken, account_gives, account_takes}
use prelude.{line_gives, line_takes, changed_account, changed_line, facts_give_with, facts_take_with, line_gives_with}
use prelude.{line_takes_with, given_with, taken_with, still_most}
use Rattle.ledger_types.specs.declared.key.LedgerKey.TheVariants as key
use Rattle.trade_cross.proofs.Altering.{AreApart}
use Rattle.trade_cross.proofs.Changing.{bound_keeps, changed_keeps}
use Rattle.trade_cross.proofs.Left.{bound_available}
use Rattle.trade_cross.proofs.Once.{releasing_is, gone_altered}
use Rattle.trade_cross.proofs.Seen.{account_first, line_first, account_second, line_second}

-- ---- numbers

room_given_back : (b p s : ℤ) (n : ℕ) → ((b -ℤ p -ℤ s) +ℤ pos n) ≡ (b -ℤ p -ℤ (s +ℤ neg_ℤ (pos n)))
room_given_back b p s n = omega (arith, ints)

line_sold_back : (b s : ℤ) (n : ℕ) → ((b -ℤ s) +ℤ pos n) ≡ (b -ℤ (s +ℤ neg_ℤ (pos n)))
line_sold_back b s n = omega (arith, ints)

-- less a number that is there
pub less_there : (x y : ℤ) (n : ℕ) → n ≤ at_least_nothing x → y ≡ (x -ℤ pos n)
    → at_least_nothing y ≡ at_least_nothing x - n
less_there (pos k) (pos j) n le is = omega (arith, ints)
less_there (pos k) other n le is = absurd (omega (arith, ints))
less_there other (pos j) n le is = absurd (omega (arith, ints))
less_there other further n le is = omega arith

given_less : (b p s : ℤ) (sold n : ℕ) → ((b +ℤ neg_ℤ (pos n)) -ℤ p -ℤ (s +ℤ (pos 0 -ℤ pos sold)))
    ≡ ((b -ℤ p -ℤ (s +ℤ neg_ℤ (pos sold))) -ℤ pos n)
given_less b p s sold n = omega (arith, ints)

line_given_less : (b s : ℤ) (sold n : ℕ) → ((b +ℤ neg_ℤ (pos n)) -ℤ (s +ℤ (pos 0 -ℤ pos sold)))
    ≡ ((b -ℤ (s +ℤ neg_ℤ (pos sold))) -ℤ pos n)
line_given_less b s sold n = omega (arith, ints)

taken_less : (g b x : ℤ) (bought n : ℕ) → (g -ℤ (b +ℤ pos n) -ℤ (x +ℤ (pos 0 -ℤ pos bought)))
    ≡ ((g -ℤ b -ℤ (x +ℤ neg_ℤ (pos bought))) -ℤ pos n)
taken_less g b x bought n = omega (arith, ints)

-- ---- an offer's two sides

module _ (base : ℕ) (m : EntryMap) (keyed : IsKeyed m) (o : OfferEntry)
    (apart : AreApart (seller_gives_at o) (seller_takes_at o)) where
  abbrev w : Option LedgerKey
  w = seller_gives_at o

  abbrev s : Option LedgerKey
  s = seller_takes_at o

  abbrev wheat : ℕ
  wheat = (bound_of o).wheat

  abbrev sheep : ℕ
  sheep = (bound_of o).sheep

  abbrev r : EntryMap
  r = releasing o m

  abbrev none_moved : Amounts
  none_moved = record { wheat = 0; sheep = 0 }

  giver_released : (id : AccountId) (a : AccountEntry) → w ≡ Some (key.Account id) → account_at m id ≡ Some a
      → account_at r id ≡ Some (bound_account (neg_ℤ (pos wheat)) (pos 0) a)
  giver_released id a is exists = ap (λ n. account_at n id) (releasing_is m keyed o apart none_moved)
      ∙ account_first m keyed w s apart (bound_account (neg_ℤ (pos wheat)) (pos 0))
      (bound_account (pos 0) (neg_ℤ (pos sheep))) (bound_line (neg_ℤ (pos wheat)) (pos 0))
      (bound_line (pos 0) (neg_ℤ (pos sheep))) (bound_keeps (neg_ℤ (pos wheat)) (pos 0))
      (bound_keeps (pos 0) (neg_ℤ (pos sheep))) id a is exists

  giver_line_released : (id : AccountId) (x : TrustLineAsset) (t : TrustLineEntry) → w ≡ Some (key.TrustLine id x)
      → line_at m id x ≡ Some t → line_at r id x ≡ Some (bound_line (neg_ℤ (pos wheat)) (pos 0) t)
  giver_line_released id x t is exists = ap (λ n. line_at n id x) (releasing_is m keyed o apart none_moved)
      ∙ line_first m keyed w s apart (bound_account (neg_ℤ (pos wheat)) (pos 0))
      (bound_account (pos 0) (neg_ℤ (pos sheep))) (bound_line (neg_ℤ (pos wheat)) (pos 0))
      (bound_line (pos 0) (neg_ℤ (pos sheep))) (bound_keeps (neg_ℤ (pos wheat)) (pos 0))
      (bound_keeps (pos 0) (neg_ℤ (pos sheep))) id x t is exists

  taker_released : (id : AccountId) (a : AccountEntry) → s ≡ Some (key.Account id) → account_at m id ≡ Some a
      → account_at r id ≡ Some (bound_account (pos 0) (neg_ℤ (pos sheep)) a)
  taker_released id a is exists = ap (λ n. account_at n id) (releasing_is m keyed o apart none_moved)
      ∙ account_second m keyed w s apart (bound_account (neg_ℤ (pos wheat)) (pos 0))
      (bound_account (pos 0) (neg_ℤ (pos sheep))) (bound_line (neg_ℤ (pos wheat)) (pos 0))
      (bound_line (pos 0) (neg_ℤ (pos sheep))) (bound_keeps (neg_ℤ (pos wheat)) (pos 0))
      (bound_keeps (pos 0) (neg_ℤ (pos sheep))) id a is exists

  taker_line_released : (id : AccountId) (x : TrustLineAsset) (t : TrustLineEntry) → s ≡ Some (key.TrustLine id x)
      → line_at m id x ≡ Some t → line_at r id x ≡ Some (bound_line (pos 0) (neg_ℤ (pos sheep)) t)
  taker_line_released id x t is exists = ap (λ n. line_at n id x) (releasing_is m keyed o apart none_moved)
      ∙ line_second m keyed w s apart (bound_account (neg_ℤ (pos wheat)) (pos 0))
      (bound_account (pos 0) (neg_ℤ (pos sheep))) (bound_line (neg_ℤ (pos wheat)) (pos 0))
      (bound_line (pos 0) (neg_ℤ (pos sheep))) (bound_keeps (neg_ℤ (pos wheat)) (pos 0))
      (bound_keeps (pos 0) (neg_ℤ (pos sheep))) id x t is exists

  -- ---- once liabilities are released

  given_by : (k : Option LedgerKey) → w ≡ k → IsHeld m k → given_with base (pos wheat) m k ≡ most_given base r k
  given_by None is held = refl
  given_by (Some (key.Account id)) is held =
      ap (λ x. facts_give_with base (pos wheat) (facts_in x)) held.1
      ∙ ap at_least_nothing
      (room_given_back held.0.balance (min_balance held.0 base) (account_liabilities held.0).selling wheat
      ∙ sym (bound_available base (neg_ℤ (pos wheat)) (pos 0) held.0))
      ∙ sym (ap (account_gives base) (giver_released id held.0 is held.1))
  given_by (Some (key.TrustLine id x)) is held =
      ap (line_gives_with (pos wheat)) held.1
      ∙ ap at_least_nothing (line_sold_back held.0.balance (line_liabilities held.0).selling wheat
      ∙ sym (ap (λ (l : Liabilities). held.0.balance -ℤ l.selling)
      (line_stored (risen (neg_ℤ (pos wheat)) (pos 0) (line_liabilities held.0)) held.0.ext)))
      ∙ sym (ap line_gives (giver_line_released id x held.0 is held.1))
  given_by (Some other) is held = absurd held

  pub given_same : IsHeld m w → given_with base (pos wheat) m w ≡ most_given base r w
  given_same = given_by w refl

  taken_by : (k : Option LedgerKey) → s ≡ k → IsHeld m k → taken_with (pos sheep) m k ≡ most_taken r k
  taken_by None is held = refl
  taken_by (Some (key.Account id)) is held =
      ap (λ x. facts_take_with (pos sheep) (facts_in x)) held.1
      ∙ ap at_least_nothing (room_given_back greatest_i64 held.0.balance (account_liabilities held.0).buying sheep
      ∙ sym (ap (λ (l : Liabilities). greatest_i64 -ℤ held.0.balance -ℤ l.buying)
      (stored (risen (pos 0) (neg_ℤ (pos sheep)) (account_liabilities held.0)) held.0.ext)))
      ∙ sym (ap account_takes (taker_released id held.0 is held.1))
  taken_by (Some (key.TrustLine id x)) is held =
      ap (line_takes_with (pos sheep)) held.1
      ∙ ap at_least_nothing (room_given_back held.0.limit held.0.balance (line_liabilities held.0).buying sheep
      ∙ sym (ap (λ (l : Liabilities). held.0.limit -ℤ held.0.balance -ℤ l.buying)
      (line_stored (risen (pos 0) (neg_ℤ (pos sheep)) (line_liabilities held.0)) held.0.ext)))
      ∙ sym (ap line_takes (taker_line_released id x held.0 is held.1))
  taken_by (Some other) is held = absurd held

  pub taken_same : IsHeld m s → taken_with (pos sheep) m s ≡ most_taken r s
  taken_same = taken_by s refl

  -- ---- after the trade

  module _ (a : Amounts) where
    abbrev t : EntryMap
    t = map_after_trade o a r

    abbrev gives_change : Change
    gives_change = giving_change o a 0

    abbrev takes_change : Change
    takes_change = taking_change o a 0

    pub giver_then : (id : AccountId) (x : AccountEntry) → w ≡ Some (key.Account id) → account_at m id ≡ Some x
        → account_at t id ≡ Some (changed_account gives_change x)
    giver_then id x is exists = ap (λ n. account_at n id) (gone_altered m keyed o apart a)
        ∙ account_first m keyed w s apart (changed_account gives_change) (changed_account takes_change)
        (changed_line gives_change) (changed_line takes_change) (changed_keeps gives_change)
        (changed_keeps takes_change)
        id x is exists

    pub giver_line_then : (id : AccountId) (y : TrustLineAsset) (x : TrustLineEntry) → w ≡ Some (key.TrustLine id y)
        → line_at m id y ≡ Some x → line_at t id y ≡ Some (changed_line gives_change x)
    giver_line_then id y x is exists = ap (λ n. line_at n id y) (gone_altered m keyed o apart a)
        ∙ line_first m keyed w s apart (changed_account gives_change) (changed_account takes_change)
        (changed_line gives_change) (changed_line takes_change) (changed_keeps gives_change)
        (changed_keeps takes_change)
        id y x is exists

    pub taker_then : (id : AccountId) (x : AccountEntry) → s ≡ Some (key.Account id) → account_at m id ≡ Some x
        → account_at t id ≡ Some (changed_account takes_change x)
    taker_then id x is exists = ap (λ n. account_at n id) (gone_altered m keyed o apart a)
        ∙ account_second m keyed w s apart (changed_account gives_change) (changed_account takes_change)
        (changed_line gives_change) (changed_line takes_change) (changed_keeps gives_change)
        (changed_keeps takes_change)
        id x is exists

    pub taker_line_then : (id : AccountId) (y : TrustLineAsset) (x : TrustLineEntry) → s ≡ Some (key.TrustLine id y)
        → line_at m id y ≡ Some x → line_at t id y ≡ Some (changed_line takes_change x)
    taker_line_then id y x is exists = ap (λ n. line_at n id y) (gone_altered m keyed o apart a)
        ∙ line_second m keyed w s apart (changed_account gives_change) (changed_account takes_change)
        (changed_line gives_change) (changed_line takes_change) (changed_keeps gives_change)
        (changed_keeps takes_change)
        id y x is exists

    given_then_by : (k : Option LedgerKey) → w ≡ k → IsHeld m k → a.wheat ≤ most_given base r k
        → most_given base t k ≡ still_most k (most_given base r k) a.wheat
    given_then_by None is held le = refl
    given_then_by (Some (key.Account id)) is held le =
        let x = held.0 in
        let before = giver_released id x is held.1 in
        let now = bound_account (neg_ℤ (pos wheat)) (pos 0) x in
        ap (account_gives base) (giver_then id x is held.1)
        ∙ less_there (available now base) (available (changed_account gives_change x) base) a.wheat
        (subst (λ q. a.wheat ≤ account_gives base q) before le)
        (bound_available base (pos 0 -ℤ pos wheat) (pos 0) (paid (neg_ℤ (pos a.wheat)) x)
        ∙ given_less x.balance (min_balance x base) (account_liabilities x).selling wheat a.wheat
        ∙ ap (λ n. n -ℤ pos a.wheat) (sym (bound_available base (neg_ℤ (pos wheat)) (pos 0) x)))
        ∙ ap (λ n. n - a.wheat) (sym (ap (account_gives base) before))
    given_then_by (Some (key.TrustLine id y)) is held le =
        let x = held.0 in
        let before = giver_line_released id y x is held.1 in
        let now = bound_line (neg_ℤ (pos wheat)) (pos 0) x in
        ap line_gives (giver_line_then id y x is held.1)
        ∙ less_there (line_available now) (line_available (changed_line gives_change x)) a.wheat
        (subst (λ q. a.wheat ≤ line_gives q) before le)
        (ap (λ (l : Liabilities). (x.balance +ℤ neg_ℤ (pos a.wheat)) -ℤ l.selling)
        (line_stored (risen (pos 0 -ℤ pos wheat) (pos 0) (line_liabilities x)) x.ext)
        ∙ line_given_less x.balance (line_liabilities x).selling wheat a.wheat
        ∙ ap (λ (l : Liabilities). (x.balance -ℤ l.selling) -ℤ pos a.wheat)
        (sym (line_stored (risen (neg_ℤ (pos wheat)) (pos 0) (line_liabilities x)) x.ext)))
        ∙ ap (λ n. n - a.wheat) (sym (ap line_gives before))
    given_then_by (Some other) is held le = absurd held

    pub given_then : IsHeld m w → a.wheat ≤ most_given base r w
        → most_given base t w ≡ still_most w (most_given base r w) a.wheat
    given_then = given_then_by w refl

    taken_then_by : (k : Option LedgerKey) → s ≡ k → IsHeld m k → a.sheep ≤ most_taken r k
        → most_taken t k ≡ still_most k (most_taken r k) a.sheep
    taken_then_by None is held le = refl
    taken_then_by (Some (key.Account id)) is held le =
        let x = held.0 in
        let before = taker_released id x is held.1 in
        let now = bound_account (pos 0) (neg_ℤ (pos sheep)) x in
        ap account_takes (taker_then id x is held.1)
        ∙ less_there (room now) (room (changed_account takes_change x)) a.sheep
        (subst (λ q. a.sheep ≤ account_takes q) before le)
        (ap (λ (l : Liabilities). greatest_i64 -ℤ (x.balance +ℤ pos a.sheep) -ℤ l.buying)
        (stored (risen (pos 0) (pos 0 -ℤ pos sheep) (account_liabilities x)) x.ext)
        ∙ taken_less greatest_i64 x.balance (account_liabilities x).buying sheep a.sheep
        ∙ ap (λ (l : Liabilities). (greatest_i64 -ℤ x.balance -ℤ l.buying) -ℤ pos a.sheep)
        (sym (stored (risen (pos 0) (neg_ℤ (pos sheep)) (account_liabilities x)) x.ext)))
        ∙ ap (λ n. n - a.sheep) (sym (ap account_takes before))
    taken_then_by (Some (key.TrustLine id y)) is held le =
        let x = held.0 in
        let before = taker_line_released id y x is held.1 in
        let now = bound_line (pos 0) (neg_ℤ (pos sheep)) x in
        ap line_takes (taker_line_then id y x is held.1)
        ∙ less_there (line_room now) (line_room (changed_line takes_change x)) a.sheep
        (subst (λ q. a.sheep ≤ line_takes q) before le)
        (ap (λ (l : Liabilities). x.limit -ℤ (x.balance +ℤ pos a.sheep) -ℤ l.buying)
        (line_stored (risen (pos 0) (pos 0 -ℤ pos sheep) (line_liabilities x)) x.ext)
        ∙ taken_less x.limit x.balance (line_liabilities x).buying sheep a.sheep
        ∙ ap (λ (l : Liabilities). (x.limit -ℤ x.balance -ℤ l.buying) -ℤ pos a.sheep)
        (sym (line_stored (risen (pos 0) (neg_ℤ (pos sheep)) (line_liabilities x)) x.ext)))
        ∙ ap (λ n. n - a.sheep) (sym (ap line_takes before))
    taken_then_by (Some other) is held le = absurd held

    pub taken_then : IsHeld m s → a.sheep ≤ most_taken r s
        → most_taken t s ≡ still_most s (most_taken r s) a.sheep
    taken_then = taken_then_by s refl
