-- Amounts of a pool's two assets that an account gives for shares of it, or takes for them.
use Rattle.op_laws.proofs.Prelude as prelude
use prelude.{◌≡◌, inl, inr, refl, sym, ap, subst, ◌∙◌, ℕ, ◌≤◌, Bool, true, false, Option, Some, None, arith, ints, ℤ}
use prelude.{pos, neg_ℤ, ◌+ℤ◌, ◌≤ℤ◌, if◌then◌else◌, get, Less, AccountId, Hash, Asset, TrustLineAsset, TrustLineEntry}
use prelude.{LiquidityPoolEntry, LedgerKey, asset_cmp, EntryMap, account_at, HasAccount, line_liabilities, line_of}
use prelude.{line_at, pool_at, total, available, line_available, line_room, unlimited, is_same_account, Uses, View}
use prelude.{stated_at, is_key, Increase, both_more, more_at, under_key, view, nothing_owed, IsLegalOwing}
use prelude.{AreEntriesLegal, needed_line, of_asset, held_of, holder, Leaves, leaves_both, leaves_as, line_legal}
use prelude.{kept_at, at_least_nothing, is_short_of, account_has, line_has, has_at, account_gives, line_gives}
use prelude.{most_given, line_takes, most_taken, paying, CanPay, paying_legal, within, can_give, can_take}
use prelude.{map_with_shares, CanShare, both_of, sharing_legal, sharing_left, line_exists_so, pool_legal, OfAccount}
use prelude.{OfPool, IsMoved, unless_issuer, ShiftsLegal, at_most_add_natural, at_most_rest, fits_after_no_natural}
use prelude.{fits_after_sub_natural, fits_within_room, if_add, int_lt_false, natural_nonnegative}
use Rattle.std.proofs.lemmas.Bool.{ltb-false}
use Rattle.std.specs.Prelude.{nat_lt}
use Rattle.op_flags.specs.ledger_types.declared.asset.Asset.TheVariants as asset
use Rattle.op_flags.specs.ledger_types.declared.asset.TrustLineAsset.TheVariants as line
use Rattle.op_flags.specs.ledger_types.declared.key.LedgerKey.TheVariants as key
use Rattle.op_flags.specs.entry_slots.Accounts.{account_of}
use Rattle.op_flags.proofs.trade_cross_proofs.Left.{giving_left, taking_left}
use Rattle.op_pool.proofs.Fitting.{beside, second_beside}
use Rattle.op_laws.proofs.Described.{more_for, pool_more}
use Rattle.op_laws.proofs.TradeMoves.{holder_kept, holder_more}

-- ---- what an account has of an asset

-- an account or a line exists under the key; none is needed where nothing is named
abbrev pub Exists : EntryMap → Option LedgerKey → Type 0
Exists m None = Unit {0}
Exists m (Some (key.Account id)) = HasAccount m id
Exists m (Some (key.TrustLine id x)) = (t : TrustLineEntry) × (line_at m id x ≡ Some t)
Exists m (Some other) = ⊥

module _ (m : EntryMap) (id : AccountId) where
  -- the line under a key, where one is named, is used
  abbrev IsUsed : Option LedgerKey → Type 0
  IsUsed o = (q : LedgerKey) → o ≡ Some q → pos 1 ≤ℤ stated_at Uses (get m q)

  line_or_none : (b : Bool) (x : TrustLineAsset) → IsUsed (if b then None else Some (key.TrustLine id x))
      → Exists m (if b then None else Some (key.TrustLine id x))
  line_or_none true x used = tt
  line_or_none false x used = line_exists_so m id x (used (key.TrustLine id x) refl)

  -- an account has a pool's asset in what exists, if it has shares of the pool
  pub holder_exists : HasAccount m id → (held : Asset) → IsUsed (needed_line id held) → Exists m (holder id held)
  holder_exists exists asset.Native used = exists
  holder_exists exists (asset.Alphanum4 code issuer) used =
      line_or_none (is_same_account issuer id) (line.Alphanum4 code issuer) used
  holder_exists exists (asset.Alphanum12 code issuer) used =
      line_or_none (is_same_account issuer id) (line.Alphanum12 code issuer) used

-- ---- what can be given and taken

reaches : (x : ℤ) (n : ℕ) → pos n ≤ℤ x → n ≤ at_least_nothing x
reaches (pos k) n le = omega (arith, ints)
reaches other n le = absurd (omega (arith, ints))

module _ (v : View) (id_pool base : ℕ) (sum : ℤ) (m : EntryMap) (legal : IsLegalOwing v id_pool nothing_owed sum m)
    (n : ℕ) where
  -- what isn't short can be given
  pub gives_so : (k : Option LedgerKey) → Exists m k → n ≤ unlimited → is_short_of (pos n) (has_at base m k) ≡ false
      → (CanPay m k (neg_ℤ (pos n))) × (n ≤ most_given base m k)
  gives_so None there few enough = (tt, few)
  gives_so (Some (key.Account id)) there few enough =
      let has = reaches (available there.0 base) n (int_lt_false (available there.0 base) (pos n)
      (sym (ap (λ o. is_short_of (pos n) (account_has base o)) there.1) ∙ enough)) in
      let le = subst (λ o. n ≤ account_gives base o) (sym there.1) has in (
        can_give v id_pool base nothing_owed sum m legal n (λ k. natural_nonnegative 0)
            (Some (key.Account id)) there le,
        le,
      )
  gives_so (Some (key.TrustLine id x)) there few enough =
      let t = there.0 in
      let range = (line_legal v id_pool nothing_owed sum m id x t legal there.1).range.range in
      let has = int_lt_false (line_available t) (pos n)
      (sym (ap (λ o. is_short_of (pos n) (line_has o)) there.1) ∙ enough) in (
        (
          t,
          there.1,
          at_most_rest t.balance (line_liabilities t).selling n has,
          fits_after_sub_natural t.balance (line_liabilities t).buying t.limit n range.fits,
        ),
        subst (λ o. n ≤ line_gives o) (sym there.1) (reaches (line_available t) n has),
      )
  gives_so (Some other) there few enough = absurd there

  -- what there is room for can be taken
  pub takes_so : (k : Option LedgerKey) → Exists m k → nat_lt (most_taken m k) n ≡ false → CanPay m k (pos n)
  takes_so None there room = tt
  takes_so (Some (key.Account id)) there room =
      can_take v id_pool base nothing_owed sum m legal n (Some (key.Account id)) there
      (ltb-false (most_taken m (Some (key.Account id))) n room)
  takes_so (Some (key.TrustLine id x)) there room =
      let t = there.0 in
      let range = (line_legal v id_pool nothing_owed sum m id x t legal there.1).range.range in
      let le = ltb-false (at_least_nothing (line_room t)) n
      (sym (ap (λ o. nat_lt (line_takes o) n) there.1) ∙ room) in (
        t,
        there.1,
        at_most_add_natural t.balance (line_liabilities t).selling n range.covered,
        elim (within (line_room t) n le) [
          | inl none ↦ fits_after_no_natural t.balance (line_liabilities t).buying t.limit n range.fits none
          | inr fits ↦ fits_within_room t.balance (line_liabilities t).buying t.limit n fits
        ],
      )
  takes_so (Some other) there room = absurd there

-- ---- what stays as it was

can_pay_still : (m new : EntryMap) (k : Option LedgerKey) (n : ℤ)
    → ((q : LedgerKey) → k ≡ Some q → get new q ≡ get m q) → CanPay m k n → CanPay new k n
unfolding account_at line_at
can_pay_still m new None n same can = tt
can_pay_still m new (Some (key.Account id)) n same can =
    (can.0, ap account_of (same (key.Account id) refl) ∙ can.1, can.2, can.3)
can_pay_still m new (Some (key.TrustLine id x)) n same can =
    (can.0, ap line_of (same (key.TrustLine id x) refl) ∙ can.1, can.2, can.3)
can_pay_still m new (Some other) n same can = absurd can

given_still : (base : ℕ) (m new : EntryMap) (k : Option LedgerKey)
    → ((q : LedgerKey) → k ≡ Some q → get new q ≡ get m q) → most_given base m k ≡ most_given base new k
unfolding account_at line_at
given_still base m new None same = refl
given_still base m new (Some (key.Account id)) same =
    sym (ap (λ o. account_gives base (account_of o)) (same (key.Account id) refl))
given_still base m new (Some (key.TrustLine id x)) same =
    sym (ap (λ o. line_gives (line_of o)) (same (key.TrustLine id x) refl))
given_still base m new (Some other) same = refl

enough_still : (base n : ℕ) (m new : EntryMap) (k : Option LedgerKey)
    → ((q : LedgerKey) → k ≡ Some q → get new q ≡ get m q) → n ≤ most_given base m k → n ≤ most_given base new k
enough_still base n m new k same le = subst (λ most. n ≤ most) (given_still base m new k same) le

-- ---- both amounts

all_sums : (s u a b : ℤ) → (((s +ℤ u) +ℤ a) +ℤ b) ≡ (s +ℤ ((u +ℤ a) +ℤ b))
all_sums s u a b = omega (arith, ints)

-- two numbers of a pool and two of an account, by their assets
pub pool_before : (x y a b : ℤ) → (((x +ℤ y) +ℤ a) +ℤ b) ≡ ((x +ℤ a) +ℤ (y +ℤ b))
pool_before x y a b = omega (arith, ints)

pub account_before : (x y a b : ℤ) → (((x +ℤ y) +ℤ a) +ℤ b) ≡ ((a +ℤ x) +ℤ (b +ℤ y))
account_before x y a b = omega (arith, ints)

-- by how much the supply of each asset shifts, where a pool has x and y more of its assets, and an account g and h
abbrev pub shift_of : LiquidityPoolEntry → AccountId → (x y g h : ℤ) → Asset → ℤ
shift_of p id x y g h z =
    (both_of p x y z +ℤ unless_issuer z p.params.asset_a id g) +ℤ unless_issuer z p.params.asset_b id h

-- how much more of each asset their entries hold
abbrev pub more_of : LiquidityPoolEntry → AccountId → Hash → (x y g h : ℤ) → Increase
more_of p id pool x y g h k z =
    ((more_for p.params.asset_a (OfPool pool) x k z +ℤ more_for p.params.asset_b (OfPool pool) y k z)
    +ℤ more_for p.params.asset_a (OfAccount id) g k z) +ℤ more_for p.params.asset_b (OfAccount id) h k z

module _ (id_pool base : ℕ) (m : EntryMap) (legal : AreEntriesLegal id_pool m) (id : AccountId) (pool : Hash)
    (t : TrustLineEntry) (p : LiquidityPoolEntry) (has : line_at m id (line.PoolShare pool) ≡ Some t)
    (exists : pool_at m pool ≡ Some p) (x y shares : ℤ) (can : CanShare t p x y shares) where
  abbrev a : Asset
  a = p.params.asset_a

  abbrev b : Asset
  b = p.params.asset_b

  abbrev in_pool : Increase
  in_pool = under_key (key.LiquidityPool pool) (both_of p x y)

  abbrev shared : EntryMap
  shared = map_with_shares id pool x y shares m

  left : Leaves base in_pool m shared
  left = sharing_left base m legal.keyed id pool t p has exists x y shares

  below : asset_cmp a b ≡ Less
  below = (pool_legal (view m) id_pool nothing_owed (total (held_of asset.Native) m) m pool p legal exists).range.assets

  module _ (g h : ℤ) (can_a : CanPay m (holder id a) g) (can_b : CanPay m (holder id b) h) where
    abbrev first_paid : EntryMap
    first_paid = paying (holder id a) g shared

    abbrev both_paid : EntryMap
    both_paid = paying (holder id b) h first_paid

    first_still : (q : LedgerKey) → holder id a ≡ Some q → get shared q ≡ get m q
    first_still q is = beside m legal.keyed id pool p.params below x y shares g h a q is

    second_still : (q : LedgerKey) → holder id b ≡ Some q → get first_paid q ≡ get m q
    second_still q is = second_beside m legal.keyed id pool p.params below x y shares g h q is

    can_first : CanPay shared (holder id a) g
    can_first = can_pay_still m shared (holder id a) g first_still can_a

    can_second : CanPay first_paid (holder id b) h
    can_second = can_pay_still m first_paid (holder id b) h second_still can_b

    all_shift : ShiftsLegal id_pool (shift_of p id x y g h) m both_paid
    all_shift v sum was =
        let z = v.asset in
        let one = sharing_legal v id_pool sum m id pool t p x y shares was has exists can in
        let two = paying_legal v id_pool nothing_owed (sum +ℤ both_of p x y z) shared one id a g can_first in
        let three = paying_legal v id_pool nothing_owed
        ((sum +ℤ both_of p x y z) +ℤ kept_at z (holder id a) a g) first_paid two id b h can_second in
        subst (λ n. IsLegalOwing v id_pool nothing_owed n both_paid)
        ((λ i. ((sum +ℤ both_of p x y z) +ℤ holder_kept z a id g i) +ℤ holder_kept z b id h i)
        ∙ all_sums sum (both_of p x y z) (unless_issuer z a id g) (unless_issuer z b id h)) three

    -- what each entry holds more, by its holder
    by_holder : (k : LedgerKey) (z : Asset)
        → both_more (both_more in_pool (more_at (holder id a) a g)) (more_at (holder id b) b h) k z
        ≡ more_of p id pool x y g h k z
    by_holder k z =
        ap (λ n. (n +ℤ more_at (holder id a) a g k z) +ℤ more_at (holder id b) b h k z)
        (if_add (is_key k (key.LiquidityPool pool)) (of_asset z a x) (of_asset z b y))
        ∙ (λ i. ((pool_more a pool x k z i +ℤ pool_more b pool y k z i) +ℤ holder_more a id g k z i)
        +ℤ holder_more b id h k z i)

    all_moved : Leaves base (more_at (holder id a) a g) shared first_paid
        → Leaves base (more_at (holder id b) b h) first_paid both_paid
        → IsMoved id_pool base (shift_of p id x y g h) (more_of p id pool x y g h) m both_paid
    all_moved first second =
        let more_a = more_at (holder id a) a g in
        let more_b = more_at (holder id b) b h in
        record {
          shifts = all_shift;
          left = leaves_as base (both_more (both_more in_pool more_a) more_b) (more_of p id pool x y g h) m both_paid
              (leaves_both base (both_more in_pool more_a) more_b m first_paid both_paid
              (leaves_both base in_pool more_a m shared first_paid left first) second) by_holder;
        }

  module _ (n l : ℕ) where
    abbrev less_a : ℤ
    less_a = neg_ℤ (pos n)

    abbrev less_b : ℤ
    less_b = neg_ℤ (pos l)

    -- the account gives both amounts
    pub both_given : (CanPay m (holder id a) less_a) × (n ≤ most_given base m (holder id a))
        → (CanPay m (holder id b) less_b) × (l ≤ most_given base m (holder id b))
        → IsMoved id_pool base (shift_of p id x y less_a less_b) (more_of p id pool x y less_a less_b) m
        (paying (holder id b) less_b (paying (holder id a) less_a (map_with_shares id pool x y shares m)))
    both_given first second =
        let now = first_paid less_a less_b first.0 second.0 in
        let one = giving_left base shared left.keyed n id a (can_first less_a less_b first.0 second.0)
        (enough_still base n m shared (holder id a) (first_still less_a less_b first.0 second.0) first.1) in
        all_moved less_a less_b first.0 second.0 one
        (giving_left base now one.keyed l id b (can_second less_a less_b first.0 second.0)
        (enough_still base l m now (holder id b) (second_still less_a less_b first.0 second.0) second.1))

    -- the account takes both amounts
    pub both_taken : CanPay m (holder id a) (pos n) → CanPay m (holder id b) (pos l)
        → IsMoved id_pool base (shift_of p id x y (pos n) (pos l)) (more_of p id pool x y (pos n) (pos l)) m
        (paying (holder id b) (pos l) (paying (holder id a) (pos n) (map_with_shares id pool x y shares m)))
    both_taken first second =
        let now = first_paid (pos n) (pos l) first second in
        let one = taking_left base shared left.keyed n id a (can_first (pos n) (pos l) first second) in
        all_moved (pos n) (pos l) first second one
        (taking_left base now one.keyed l id b (can_second (pos n) (pos l) first second))
