-- What a revocation of shares of pools moves, and that each holder has it.
use Rattle.op_laws.proofs.Prelude as prelude
use prelude.{◌≡◌, inl, inr, refl, sym, subst, ◌∙◌, ℕ, Bool, true, false, List, [], ◌∷◌, ◌++◌, Option, Some, None}
use prelude.{Result, Ok, arith, ints, is_eq, ℤ, pos, neg_ℤ, ◌+ℤ◌, AccountId, Hash, Asset, TrustLineEntry}
use prelude.{LiquidityPoolEntry, LedgerKey, asset_cmp, OperationResult, is_valid_asset, EntryMap, HasAccount, line_at}
use prelude.{pool_at, total, Ctx, is_key, Increase, none_more, both_more, under_key, view, AreEntriesLegal, of_asset}
use prelude.{held, Leaves, leaves_itself, leaves_both, leaves_as, view_of, owing_of, part_of, with_change}
use prelude.{map_after_withdrawing, gone_legal, both_of, sharing_legal, sharing_left, line_paid, is_issued_by, Holder}
use prelude.{Move, OfAccount, OfBalance, OfPool, Revoked, Given, revoked_id, move_to, left, payer_of_share, given_of}
use prelude.{map_without_shares, share_revoked_by, share_revoked_of, share_revoked, all_revoked, pools_revoked}
use prelude.{shares_revoked, went_after, gained, issued, is_issuer, location_of, add_neg_self, add_zero, zero_add}
use Rattle.std.proofs.Common.{if◌then◌else◌}
use Rattle.op_flags.specs.ledger_types.declared.asset.TrustLineAsset.TheVariants as line
use Rattle.op_flags.specs.ledger_types.declared.key.LedgerKey.TheVariants as key
use Rattle.op_flags.specs.RevokedShares.{and_then}
use Rattle.op_flags.proofs.Shares.{can_give_all}
use Rattle.op_flags.proofs.SharesRevoked.{payer_there, first_valid, second_valid, withdrawn_legal, line_empty}
use Rattle.op_flags.proofs.SharesRevoked.{pool_left_there, gone_entries, then_gone, still_exists, IsLeft, IsPut}
use Rattle.op_flags.proofs.SharesRevoked.{left_so, put_legal, put_left, left_good, both_so}
use Rattle.op_laws.proofs.AsideMoves.{pool_issues_none, balance_issues_none}
use Rattle.op_laws.proofs.Issued.{issued_after}
use Rattle.op_laws.proofs.IssuedMoves.{same_issuer, issued_so, issued_by_move}
use Rattle.op_laws.proofs.Described.{Describes, describes_both, more_for, moved, move_describes, account_location}
use Rattle.op_laws.proofs.Described.{balance_location}
use Rattle.op_laws.proofs.Described.{pool_location, pool_more, balance_more, more_at, none_at, redeemed_more}
use Rattle.op_laws.proofs.Parts.{IsPart, no_part, both_parts}

-- ---- what becomes of an amount that a pool gives

-- What the pool gives is stated together with what becomes of it.
pub record IsGiven (base : ℕ) (held_asset : Asset) (pool : Hash) (n : ℕ) (old new : EntryMap) (moves : List Move)
    : Type 0 where
  pub more : Increase
  pub put : Asset → ℤ
  pub left : Leaves base more old new
  pub supply : (x : Asset) → total (held x) new ≡ (total (held x) old +ℤ put x)
  pub describes : Describes
      (both_more more (under_key (key.LiquidityPool pool) (λ x. of_asset x held_asset (neg_ℤ (pos n)))))
      moves
  pub issues : (x : Asset) → (of_asset x held_asset (neg_ℤ (pos n)) +ℤ put x) ≡ issued x moves

none_of_it : (b : Bool) (n : ℕ) → n ≡ 0 → (if b then neg_ℤ (pos n) else pos 0) ≡ pos 0
none_of_it true n none = omega (arith, ints)
none_of_it false n none = refl

none_given : (s b : Bool) (n : ℕ) → n ≡ 0
    → (pos 0 +ℤ (if s then (if b then neg_ℤ (pos n) else pos 0) else pos 0)) ≡ pos 0
none_given true true n none = omega (arith, ints)
none_given true false n none = refl
none_given false b n none = refl

and_nothing : (x : ℤ) → x ≡ pos 0 → (x +ℤ pos 0) ≡ pos 0
and_nothing x none = omega (arith, ints)

-- what goes from who doesn't issue it to who does, and to who doesn't
redeemed_of : (b : Bool) (n : ℤ)
    → ((if b then neg_ℤ n else pos 0) +ℤ pos 0) ≡ (if b then issued_so false true n else pos 0)
redeemed_of true n = omega (arith, ints)
redeemed_of false n = refl

between_of : (b : Bool) (n : ℤ)
    → ((if b then neg_ℤ n else pos 0) +ℤ (if b then n else pos 0)) ≡ (if b then issued_so false false n else pos 0)
between_of true n = omega (arith, ints)
between_of false n = refl

-- moves say what they do, whatever form that has
more_as : (d e : Increase) → ((k : LedgerKey) (x : Asset) → d k x ≡ e k x) → (x : Asset) (o : Option LedgerKey)
    → more_at d x o ≡ more_at e x o
more_as d e same x None = refl
more_as d e same x (Some k) = same k x

describes_as : (d e : Increase) (moves : List Move) → ((k : LedgerKey) (x : Asset) → d k x ≡ e k x) → Describes e moves
    → Describes d moves
describes_as d e moves same describes x holder other =
    more_as d e same x (location_of x holder) ∙ describes x holder other

module _ (id_pool : ℕ) (ctx : Ctx) (given : Given) (m : EntryMap) (legal : AreEntriesLegal id_pool m) where
  abbrev base : ℕ
  base = ctx.base_reserve

  abbrev n : ℤ
  n = pos given.amount

  abbrev from : Holder
  from = OfPool given.pool

  abbrev gives : Increase
  gives = under_key (key.LiquidityPool given.pool) (λ x. of_asset x given.asset (neg_ℤ n))

  abbrev IsSo : EntryMap → List Move → Type 0
  IsSo new moves = IsGiven base given.asset given.pool given.amount m new moves

  gives_is : (k : LedgerKey) (x : Asset) → gives k x ≡ more_for given.asset from (neg_ℤ n) k x
  gives_is k x = pool_more given.asset given.pool (neg_ℤ n) k x

  describes_none : given.amount ≡ 0 → Describes (both_more none_more gives) []
  unfolding gained
  describes_none none x holder other =
      more_as (both_more none_more gives) none_more
      (λ k y. none_given (is_key k (key.LiquidityPool given.pool)) (is_eq (asset_cmp y given.asset)) given.amount none)
      x (location_of x holder)
      ∙ none_at x (location_of x holder)

  issues_none : given.amount ≡ 0 → (x : Asset) → (of_asset x given.asset (neg_ℤ n) +ℤ pos 0) ≡ issued x []
  unfolding issued
  issues_none none x = and_nothing (of_asset x given.asset (neg_ℤ n))
      (none_of_it (is_eq (asset_cmp x given.asset)) given.amount none)

  nothing_so : given.amount ≡ 0 → IsSo m []
  nothing_so none = record {
    more = none_more;
    put = λ x. pos 0;
    left = leaves_itself base m legal.keyed;
    supply = λ x. sym (add_zero (total (held x) m));
    describes = describes_none none;
    issues = issues_none none;
  }

  kept_so : is_issued_by given.asset given.trustor ≡ true → IsSo m (move_to given (OfAccount given.trustor) ∷ [])
  kept_so own =
      let to = OfAccount given.trustor in
      let issuer : true ≡ is_issuer given.asset to = sym own ∙ same_issuer given.asset given.trustor in
      record {
        more = none_more;
        put = λ x. pos 0;
        left = leaves_itself base m legal.keyed;
        supply = λ x. sym (add_zero (total (held x) m));
        describes = describes_as (both_more none_more gives) (moved given.asset from to n) (move_to given to ∷ [])
            (λ k x. zero_add (gives k x) ∙ gives_is k x ∙ redeemed_more given.asset from to n (sym issuer) k x)
            (move_describes given.asset from to n (pool_location given.asset given.pool)
            (account_location given.asset given.trustor));
        issues = λ x. redeemed_of (is_eq (asset_cmp x given.asset)) n
            ∙ (λ i. of_asset x given.asset (issued_so (pool_issues_none given.asset given.pool i) (issuer i) n))
            ∙ issued_by_move x given.asset from to n;
      }

  module _ (r : Revoked) (exists : HasAccount m given.payer)
      (valid : is_issued_by given.asset given.trustor ≡ false → is_valid_asset given.asset ≡ true) where
    put_so : IsPut ctx given m r → IsSo r.entries (move_to given (OfBalance (revoked_id ctx given)) ∷ [])
    put_so put =
        let id = revoked_id ctx given in
        let to = OfBalance id in
        record {
          more = under_key (key.ClaimableBalance id) (λ x. of_asset x given.asset n);
          put = λ x. of_asset x given.asset n;
          left = put_left id_pool ctx given m r exists valid put legal.keyed;
          supply = λ x. (put_legal id_pool ctx given m r exists valid put (view_of x m) (total (held x) m)
              (owing_of x id_pool m legal)).supply;
          describes = describes_as
              (both_more (under_key (key.ClaimableBalance id) (λ x. of_asset x given.asset n)) gives)
              (moved given.asset from to n) (move_to given to ∷ [])
              (λ k x i. balance_more given.asset id n k x i +ℤ gives_is k x i)
              (move_describes given.asset from to n (pool_location given.asset given.pool)
              (balance_location given.asset id));
          issues = λ x. between_of (is_eq (asset_cmp x given.asset)) n
              ∙ (λ i. of_asset x given.asset (issued_so (pool_issues_none given.asset given.pool i)
              (balance_issues_none given.asset id i) n))
              ∙ issued_by_move x given.asset from to n;
        }

    as_it_is : (entries : EntryMap) (moves : List Move) → IsSo entries moves → r.entries ≡ entries → r.moves ≡ moves
        → IsSo r.entries r.moves
    as_it_is entries moves so left described =
        subst (λ (e : EntryMap). IsSo e r.moves) (sym left) (subst (IsSo entries) (sym described) so)

    pub given_so : IsLeft ctx given m r → IsSo r.entries r.moves
    given_so (inl none) = as_it_is m [] (nothing_so none.none) none.entries none.moved
    given_so (inr (inl kept)) =
        as_it_is m (move_to given (OfAccount given.trustor) ∷ []) (kept_so kept.own) kept.entries kept.moved
    given_so (inr (inr put)) =
        as_it_is r.entries (move_to given (OfBalance (revoked_id ctx given)) ∷ []) (put_so put) refl put.moved

-- ---- one line of shares

-- what the pool loses is what it gives of both assets
in_all : (s : Bool) (f g a b : ℤ)
    → ((((if s then a +ℤ b else pos 0) +ℤ pos 0) +ℤ f) +ℤ g)
    ≡ ((f +ℤ (if s then a else pos 0)) +ℤ (g +ℤ (if s then b else pos 0)))
in_all true f g a b = omega (arith, ints)
in_all false f g a b = omega (arith, ints)

supply_of : (all taken gone first second a b f g x y both : ℤ) → taken ≡ (all +ℤ (a +ℤ b)) → gone ≡ taken
    → first ≡ (gone +ℤ f) → second ≡ (first +ℤ g) → (a +ℤ f) ≡ x → (b +ℤ g) ≡ y → both ≡ (x +ℤ y)
    → second ≡ (all +ℤ both)
supply_of all taken gone first second a b f g x y both w e p q is also sum = omega (arith, ints)

module _ (ctx : Ctx) (low : OperationResult) (m : EntryMap) (legal : AreEntriesLegal ctx.id_pool m) (id : AccountId)
    (pool : Hash) where
  module _ (t : TrustLineEntry) (p : LiquidityPoolEntry) (has : line_at m id (line.PoolShare pool) ≡ Some t)
      (exists : pool_at m pool ≡ Some p) (r : Revoked)
      (is : share_revoked_by ctx low id pool p t m ≡ Ok r) where
    abbrev id_pool : ℕ
    id_pool = ctx.id_pool

    abbrev reserve : ℕ
    reserve = ctx.base_reserve

    abbrev payer : AccountId
    payer = payer_of_share id pool m

    abbrev given_a : Given
    given_a = given_of id pool payer p.params.asset_a (part_of p t.balance).a

    abbrev given_b : Given
    given_b = given_of id pool payer p.params.asset_b (part_of p t.balance).b

    abbrev a : ℤ
    a = neg_ℤ (pos (part_of p t.balance).a)

    abbrev b : ℤ
    b = neg_ℤ (pos (part_of p t.balance).b)

    abbrev withdrawn : EntryMap
    withdrawn = map_after_withdrawing id pool t.balance (part_of p t.balance) m

    abbrev emptied : EntryMap
    emptied = map_without_shares id pool p t (part_of p t.balance) m

    both : (first : Revoked) × (second : Revoked) × (left ctx low given_a emptied ≡ Ok first)
        × (left ctx low given_b first.entries ≡ Ok second)
        × (r ≡ record { entries = second.entries; moves = first.moves ++ second.moves })
    both = both_so ctx low m legal id pool t p has exists r is

    abbrev one : Revoked
    one = both.0

    abbrev two : Revoked
    two = both.1

    payer_had : HasAccount emptied payer
    payer_had = still_exists id_pool m legal id pool t p has exists payer
        (payer_there (view m) id_pool _ m legal id pool t has)

    emptied_legal : AreEntriesLegal id_pool emptied
    emptied_legal = gone_entries id_pool m legal id pool t p has exists

    valid_a : is_issued_by p.params.asset_a id ≡ false → is_valid_asset p.params.asset_a ≡ true
    valid_a = first_valid (view m) id_pool _ m legal id pool t p has exists

    valid_b : is_issued_by p.params.asset_b id ≡ false → is_valid_asset p.params.asset_b ≡ true
    valid_b = second_valid (view m) id_pool _ m legal id pool t p has exists

    is_a : IsLeft ctx given_a emptied one
    is_a = left_so ctx low given_a emptied one both.2

    is_b : IsLeft ctx given_b one.entries two
    is_b = left_so ctx low given_b one.entries two both.3

    good_one : AreEntriesLegal id_pool one.entries
        × ((x : AccountId) → HasAccount emptied x → HasAccount one.entries x)
    good_one = left_good id_pool ctx given_a emptied one payer_had valid_a emptied_legal is_a

    good_two : AreEntriesLegal id_pool two.entries
        × ((x : AccountId) → HasAccount one.entries x → HasAccount two.entries x)
    good_two = left_good id_pool ctx given_b one.entries two (good_one.1 payer payer_had) valid_b good_one.0 is_b

    first : IsGiven reserve p.params.asset_a pool (part_of p t.balance).a emptied one.entries one.moves
    first = given_so id_pool ctx given_a emptied emptied_legal one payer_had valid_a is_a

    second : IsGiven reserve p.params.asset_b pool (part_of p t.balance).b one.entries two.entries two.moves
    second = given_so id_pool ctx given_b one.entries good_one.0 two (good_one.1 payer payer_had) valid_b is_b

    abbrev at_pool : LedgerKey
    at_pool = key.LiquidityPool pool

    abbrev lost : Increase
    lost = under_key at_pool (both_of p a b)

    abbrev gave_a : Increase
    gave_a = under_key at_pool (λ x. of_asset x p.params.asset_a a)

    abbrev gave_b : Increase
    gave_b = under_key at_pool (λ x. of_asset x p.params.asset_b b)

    all_left : Leaves reserve (both_more (both_more first.more gave_a) (both_more second.more gave_b)) m two.entries
    all_left = leaves_as reserve (both_more (both_more (both_more lost none_more) first.more) second.more)
        (both_more (both_more first.more gave_a) (both_more second.more gave_b)) m two.entries
        (leaves_both reserve (both_more (both_more lost none_more) first.more) second.more m one.entries two.entries
        (leaves_both reserve (both_more lost none_more) first.more m emptied one.entries
        (leaves_both reserve lost none_more m withdrawn emptied
        (sharing_left reserve m legal.keyed id pool t p has exists a b (neg_ℤ t.balance))
        (then_gone id_pool m legal id pool t p has exists reserve)) first.left) second.left)
        (λ k x. in_all (is_key k at_pool) (first.more k x) (second.more k x) (of_asset x p.params.asset_a a)
        (of_asset x p.params.asset_b b))

    taken : (x : Asset) → total (held x) withdrawn ≡ (total (held x) m +ℤ both_of p a b x)
    taken x = (sharing_legal (view_of x m) id_pool (total (held x) m) m id pool t p a b (neg_ℤ t.balance)
        (owing_of x id_pool m legal) has exists (can_give_all id_pool m legal id pool t p has exists)).supply

    gone : (x : Asset) → total (held x) emptied ≡ total (held x) withdrawn
    gone x =
        (gone_legal (view_of x withdrawn) id_pool (total (held x) withdrawn) id pool (line_paid (neg_ℤ t.balance) t)
        (with_change a b (neg_ℤ t.balance) p) withdrawn
        (owing_of x id_pool withdrawn (withdrawn_legal id_pool m legal id pool t p has exists))
        (line_empty id_pool m legal id pool t p has exists) (add_neg_self t.balance)
        (pool_left_there id_pool m legal id pool t p has exists)).supply

    by_both : IsPart id_pool reserve m two.entries (one.moves ++ two.moves)
    by_both = record {
      more = both_more (both_more first.more gave_a) (both_more second.more gave_b);
      legal = good_two.0;
      left = all_left;
      describes = describes_both (both_more first.more gave_a)
          (both_more second.more gave_b) one.moves two.moves first.describes
          second.describes;
      supply = λ x. supply_of (total (held x) m) (total (held x) withdrawn) (total (held x) emptied)
          (total (held x) one.entries) (total (held x) two.entries) (of_asset x p.params.asset_a a)
          (of_asset x p.params.asset_b b) (first.put x) (second.put x) (issued x one.moves) (issued x two.moves)
          (issued x (one.moves ++ two.moves)) (taken x) (gone x) (first.supply x) (second.supply x) (first.issues x)
          (second.issues x) (issued_after x one.moves two.moves);
    }

    line_part : IsPart id_pool reserve m r.entries r.moves
    line_part = subst (λ (x : Revoked). IsPart id_pool reserve m x.entries x.moves) (sym both.4) by_both

  abbrev unchanged : Result Revoked OperationResult
  unchanged = Ok (record { entries = m; moves = [] })

  unchanged_part : (r : Revoked) → unchanged ≡ Ok r
      → IsPart ctx.id_pool ctx.base_reserve m r.entries r.moves
  unchanged_part r is =
      let same : record { entries = m; moves = [] } ≡ r = cc in
      subst (λ (x : Revoked). IsPart ctx.id_pool ctx.base_reserve m x.entries x.moves) same
      (no_part ctx.id_pool ctx.base_reserve m legal)

  share_by : (o : Option TrustLineEntry) (q : Option LiquidityPoolEntry) → line_at m id (line.PoolShare pool) ≡ o
      → pool_at m pool ≡ q → (r : Revoked) → share_revoked_of ctx low id pool m o q ≡ Ok r
      → IsPart ctx.id_pool ctx.base_reserve m r.entries r.moves
  share_by (Some t) (Some p) has exists r is = line_part t p has exists r is
  share_by (Some t) None has exists r is = unchanged_part r is
  share_by None q has exists r is = unchanged_part r is

  share_part : (r : Revoked) → share_revoked ctx low id pool m ≡ Ok r
      → IsPart ctx.id_pool ctx.base_reserve m r.entries r.moves
  share_part r is = share_by (line_at m id (line.PoolShare pool)) (pool_at m pool) refl refl r is

-- ---- all of them

pub all_parts : (ctx : Ctx) (low : OperationResult) (id : AccountId) (pools : List Hash) (m : EntryMap)
    → AreEntriesLegal ctx.id_pool m → (r : Revoked) → all_revoked ctx low id pools m ≡ Ok r
    → IsPart ctx.id_pool ctx.base_reserve m r.entries r.moves
all_parts ctx low id [] m legal r is = unchanged_part ctx low m legal id (record { 0 = [] }) r is
all_parts ctx low id (pool ∷ pools) m legal r is =
    let one = went_after (share_revoked ctx low id pool m)
    (λ first. and_then first (all_revoked ctx low id pools first.entries)) r is in
    let two = went_after (all_revoked ctx low id pools one.0.entries)
    (λ second. Ok (record { entries = second.entries; moves = one.0.moves ++ second.moves })) r one.2 in
    let first = share_part ctx low m legal id pool one.0 one.1 in
    let second = all_parts ctx low id pools one.0.entries first.legal two.0 two.1 in
    let done = two.2 in
    let same : record { entries = two.0.entries; moves = one.0.moves ++ two.0.moves } ≡ r = cc in
    subst (λ (x : Revoked). IsPart ctx.id_pool ctx.base_reserve m x.entries x.moves) same
    (both_parts ctx.id_pool ctx.base_reserve m one.0.entries two.0.entries one.0.moves two.0.moves first second)

pub shares_part : (ctx : Ctx) (low : OperationResult) (id : AccountId) (held_asset : Asset) (m : EntryMap)
    → AreEntriesLegal ctx.id_pool m → (r : Revoked) → shares_revoked ctx low id held_asset m ≡ Ok r
    → IsPart ctx.id_pool ctx.base_reserve m r.entries r.moves
unfolding shares_revoked
shares_part ctx low id held_asset m legal r is =
    all_parts ctx low id (pools_revoked id held_asset m) m legal r is
