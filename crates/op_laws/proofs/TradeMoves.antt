-- What the moves of trades say of each holder, and what they issue.
use Rattle.op_laws.proofs.Prelude.{◌≡◌, refl, sym, ap, ◌∙◌, Bool, true, false, All, List, [], ◌∷◌, ◌++◌, Option, Some}
use Rattle.op_laws.proofs.Prelude.{None, arith, ints, All-head, All-tail, ℤ, pos, neg_ℤ, ◌+ℤ◌, if◌then◌else◌, is_eq}
use Rattle.op_laws.proofs.Prelude.{AccountId, Hash, Asset, ClaimAtom, LedgerKey, asset_cmp, is_same_account, is_key}
use Rattle.op_laws.proofs.Prelude.{under_key, both_more, more_where, of_asset, holder, moves_of, trade_moves, Holder}
use Rattle.op_laws.proofs.Prelude.{OfAccount, OfPool, Move, Trade, Crossing, kept_at, kept_in, more_in, sold_in}
use Rattle.op_laws.proofs.Prelude.{bought_in, IsOfTrade, AreTraded, IsOfHop, is_issuer, location_of, issued}
use Rattle.op_laws.proofs.Prelude.{unless_issuer, if_add, zero_from_own_double, trade_is_of_hop}
use Rattle.op_flags.specs.ledger_types.declared.asset.Asset.TheVariants as asset
use Rattle.op_flags.specs.ledger_types.declared.asset.TrustLineAsset.TheVariants as line
use Rattle.op_flags.specs.ledger_types.declared.claim_atom.ClaimAtom.TheVariants as atom
use Rattle.op_flags.specs.ledger_types.declared.key.LedgerKey.TheVariants as key
use Rattle.op_laws.proofs.IssuedMoves.{same_issuer}
use Rattle.op_laws.proofs.MoveSums.{Measure, summed, held_by, more_by, moved_more, sum_issued}
use Rattle.op_laws.proofs.Described.{Describes, describes_nothing, describes_both, at_index, more_for, moved}
use Rattle.op_laws.proofs.Described.{move_describes, account_more}
use Rattle.op_laws.proofs.Described.{HasLocation, account_location, pool_location, pool_more}

-- ---- a measure of amounts

-- An amount counts as its parts do.
abbrev pub IsLinear : Measure → Type 0
IsLinear by = (held : Asset) (h : Holder) (a b : ℤ) → by held h (a +ℤ b) ≡ (by held h a +ℤ by held h b)

-- what the sellers and the pools add
abbrev pub others : Measure → List ClaimAtom → ℤ
others by [] = pos 0
others by (atom.OrderBook seller id sold n bought k ∷ atoms) =
    (by sold (OfAccount seller) (neg_ℤ n) +ℤ by bought (OfAccount seller) k) +ℤ others by atoms
others by (atom.LiquidityPool pool sold n bought k ∷ atoms) =
    (by sold (OfPool pool) (neg_ℤ n) +ℤ by bought (OfPool pool) k) +ℤ others by atoms
others by (other ∷ atoms) = pos 0 +ℤ others by atoms

none_sold : (u v : ℤ) → u ≡ pos 0 → v ≡ pos 0 → pos 0 ≡ (pos 0 +ℤ (u +ℤ v))
none_sold u v nothing none = omega (arith, ints)

neg_sum : (k n : ℤ) → neg_ℤ (k +ℤ n) ≡ (neg_ℤ k +ℤ neg_ℤ n)
neg_sum k n = omega (arith, ints)

sold_also : (a b c d r s u v w y : ℤ) → r ≡ (s +ℤ (u +ℤ v)) → w ≡ (d +ℤ u) → y ≡ (a +ℤ v)
    → ((a +ℤ b) +ℤ ((c +ℤ d) +ℤ r)) ≡ (((b +ℤ c) +ℤ s) +ℤ (w +ℤ y))
sold_also a b c d r s u v w y rest sent got = omega (arith, ints)

module _ (by : Measure) (linear : IsLinear by) (trade : Trade) (taker : Holder) where
  none_by : (held : Asset) → by held taker (pos 0) ≡ pos 0
  none_by held = zero_from_own_double (by held taker (pos 0)) (linear held taker (pos 0) (pos 0))

  -- one trade more
  traded_also : (h : Holder) (sold bought : Asset) (n k : ℤ) (atoms : List ClaimAtom) → sold ≡ trade.wheat
      → bought ≡ trade.sheep
      → summed by (moves_of taker atoms) ≡ (others by atoms
      +ℤ (by trade.sheep taker (neg_ℤ (bought_in atoms)) +ℤ by trade.wheat taker (sold_in atoms)))
      → ((by sold taker n +ℤ by sold h (neg_ℤ n)) +ℤ ((by bought h k +ℤ by bought taker (neg_ℤ k))
      +ℤ summed by (moves_of taker atoms)))
      ≡ (((by sold h (neg_ℤ n) +ℤ by bought h k) +ℤ others by atoms)
      +ℤ (by trade.sheep taker (neg_ℤ (k +ℤ bought_in atoms)) +ℤ by trade.wheat taker (n +ℤ sold_in atoms)))
  traded_also h sold bought n k atoms is_wheat is_sheep rest =
      sold_also (by sold taker n) (by sold h (neg_ℤ n)) (by bought h k) (by bought taker (neg_ℤ k))
      (summed by (moves_of taker atoms)) (others by atoms) (by trade.sheep taker (neg_ℤ (bought_in atoms)))
      (by trade.wheat taker (sold_in atoms)) (by trade.sheep taker (neg_ℤ (k +ℤ bought_in atoms)))
      (by trade.wheat taker (n +ℤ sold_in atoms)) rest
      (ap (by trade.sheep taker) (neg_sum k (bought_in atoms))
      ∙ linear trade.sheep taker (neg_ℤ k) (neg_ℤ (bought_in atoms))
      ∙ ap (λ held. by held taker (neg_ℤ k) +ℤ by trade.sheep taker (neg_ℤ (bought_in atoms))) (sym is_sheep))
      (linear trade.wheat taker n (sold_in atoms)
      ∙ ap (λ held. by held taker n +ℤ by trade.wheat taker (sold_in atoms)) (sym is_wheat))

  -- what the others add, and what the taker adds, which sends all that was bought and gets all that was sold
  pub sum_of_atoms : (atoms : List ClaimAtom) → All (IsOfHop trade) atoms
      → summed by (moves_of taker atoms) ≡ (others by atoms
      +ℤ (by trade.sheep taker (neg_ℤ (bought_in atoms)) +ℤ by trade.wheat taker (sold_in atoms)))
  sum_of_atoms [] all = none_sold (by trade.sheep taker (pos 0)) (by trade.wheat taker (pos 0)) (none_by trade.sheep)
      (none_by trade.wheat)
  sum_of_atoms (atom.OrderBook seller id sold n bought k ∷ atoms) all =
      let one = All-head (IsOfHop trade) (atom.OrderBook seller id sold n bought k) atoms all in
      traded_also (OfAccount seller) sold bought n k atoms one.1 one.2 (sum_of_atoms atoms
      (All-tail (IsOfHop trade) (atom.OrderBook seller id sold n bought k) atoms all))
  sum_of_atoms (atom.LiquidityPool pool sold n bought k ∷ atoms) all =
      let one = All-head (IsOfHop trade) (atom.LiquidityPool pool sold n bought k) atoms all in
      traded_also (OfPool pool) sold bought n k atoms one.1 one.2 (sum_of_atoms atoms
      (All-tail (IsOfHop trade) (atom.LiquidityPool pool sold n bought k) atoms all))
  sum_of_atoms (other ∷ atoms) all = absurd (All-head (IsOfHop trade) other atoms all)

-- ---- measures

sum_unless : (t : Bool) (a b c : ℤ) → c ≡ (a +ℤ b)
    → (if t then pos 0 else c) ≡ ((if t then pos 0 else a) +ℤ (if t then pos 0 else b))
sum_unless true a b c is = refl
sum_unless false a b c is = is

pub held_linear : (x : Asset) → IsLinear (held_by x)
held_linear x held h a b =
    sum_unless (is_issuer held h) (of_asset x held a) (of_asset x held b) (of_asset x held (a +ℤ b))
    (if_add (is_eq (asset_cmp x held)) a b)

sum_at : (o : Option LedgerKey) (held : Asset) (a b : ℤ) (k : LedgerKey) (x : Asset)
    → at_index o (λ y. of_asset y held (a +ℤ b)) k x
    ≡ (at_index o (λ y. of_asset y held a) k x +ℤ at_index o (λ y. of_asset y held b) k x)
sum_at None held a b k x = refl
sum_at (Some at) held a b k x =
    ap (λ n. if is_key k at then n else pos 0) (if_add (is_eq (asset_cmp x held)) a b)
    ∙ if_add (is_key k at) (of_asset x held a) (of_asset x held b)

pub more_linear : (k : LedgerKey) (x : Asset) → IsLinear (more_by k x)
more_linear k x held h a b =
    sum_unless (is_issuer held h) (at_index (location_of held h) (λ y. of_asset y held a) k x)
    (at_index (location_of held h) (λ y. of_asset y held b) k x)
    (at_index (location_of held h) (λ y. of_asset y held (a +ℤ b)) k x)
    (sum_at (location_of held h) held a b k x)

-- ---- where accounts have assets

kept_unless : (b : Bool) (x held : Asset) (at : LedgerKey) (n : ℤ)
    → kept_at x (if b then None else Some at) held n ≡ (if b then pos 0 else of_asset x held n)
kept_unless true x held at n = refl
kept_unless false x held at n = refl

pub holder_kept : (x held : Asset) (id : AccountId) (n : ℤ)
    → kept_at x (holder id held) held n ≡ unless_issuer x held id n
holder_kept x asset.Native id n = refl
holder_kept x (asset.Alphanum4 code issuer) id n = kept_unless (is_same_account issuer id) x
    (asset.Alphanum4 code issuer) (key.TrustLine id (line.Alphanum4 code issuer)) n
holder_kept x (asset.Alphanum12 code issuer) id n = kept_unless (is_same_account issuer id) x
    (asset.Alphanum12 code issuer) (key.TrustLine id (line.Alphanum12 code issuer)) n

more_unless : (b : Bool) (held : Asset) (at : LedgerKey) (n : ℤ) (k : LedgerKey) (x : Asset)
    → more_where (if b then None else Some at) held n k x
    ≡ (if b then pos 0 else under_key at (λ y. of_asset y held n) k x)
more_unless true held at n k x = refl
more_unless false held at n k x = refl

pub holder_more : (held : Asset) (id : AccountId) (n : ℤ) (k : LedgerKey) (x : Asset)
    → more_where (holder id held) held n k x ≡ more_for held (OfAccount id) n k x
holder_more asset.Native id n k x = refl
holder_more (asset.Alphanum4 code issuer) id n k x =
    more_unless (is_same_account issuer id) (asset.Alphanum4 code issuer)
    (key.TrustLine id (line.Alphanum4 code issuer)) n k x ∙ account_more (asset.Alphanum4 code issuer) refl id n k x
holder_more (asset.Alphanum12 code issuer) id n k x =
    more_unless (is_same_account issuer id) (asset.Alphanum12 code issuer)
    (key.TrustLine id (line.Alphanum12 code issuer)) n k x ∙ account_more (asset.Alphanum12 code issuer) refl id n k x

pub account_held : (x held : Asset) (id : AccountId) (n : ℤ)
    → unless_issuer x held id n ≡ held_by x held (OfAccount id) n
account_held x held id n = ap (λ b. if b then pos 0 else of_asset x held n) (same_issuer held id)

pool_held : (x held : Asset) (id : Hash) (n : ℤ) → of_asset x held n ≡ held_by x held (OfPool id) n
pool_held x asset.Native id n = refl
pool_held x (asset.Alphanum4 code issuer) id n = refl
pool_held x (asset.Alphanum12 code issuer) id n = refl

pub others_kept : (x : Asset) (atoms : List ClaimAtom) → kept_in x atoms ≡ others (held_by x) atoms
others_kept x [] = refl
others_kept x (atom.OrderBook seller id sold n bought k ∷ atoms) =
    λ i. ((holder_kept x sold seller (neg_ℤ n) ∙ account_held x sold seller (neg_ℤ n)) i
    +ℤ (holder_kept x bought seller k ∙ account_held x bought seller k) i) +ℤ others_kept x atoms i
others_kept x (atom.LiquidityPool pool sold n bought k ∷ atoms) =
    λ i. (pool_held x sold pool (neg_ℤ n) i +ℤ pool_held x bought pool k i) +ℤ others_kept x atoms i
others_kept x (other ∷ atoms) = ap (λ n. pos 0 +ℤ n) (others_kept x atoms)

pub others_more : (k : LedgerKey) (x : Asset) (atoms : List ClaimAtom) → more_in atoms k x ≡ others (more_by k x) atoms
others_more k x [] = refl
others_more k x (atom.OrderBook seller id sold n bought j ∷ atoms) =
    λ i. (holder_more sold seller (neg_ℤ n) k x i +ℤ holder_more bought seller j k x i) +ℤ others_more k x atoms i
others_more k x (atom.LiquidityPool pool sold n bought j ∷ atoms) =
    λ i. (pool_more sold pool (neg_ℤ n) k x i +ℤ pool_more bought pool j k x i) +ℤ others_more k x atoms i
others_more k x (other ∷ atoms) = ap (λ n. pos 0 +ℤ n) (others_more k x atoms)

-- ---- what is said of an account that takes

trade_describes : (taker other : Holder) (sold bought : Asset) (n k : ℤ) (moves : List Move) → HasLocation sold taker
    → HasLocation sold other → HasLocation bought taker → HasLocation bought other → Describes (moved_more moves) moves
    → Describes (moved_more (trade_moves taker other sold n bought k ++ moves))
    (trade_moves taker other sold n bought k ++ moves)
trade_describes taker other sold bought n k moves here there back forth rest =
    let gives : Move = record { from = other; to = taker; asset = sold; amount = n } in
    let takes : Move = record { from = taker; to = other; asset = bought; amount = k } in
    describes_both (moved sold other taker n) (both_more (moved bought taker other k) (moved_more moves)) (gives ∷ [])
    (takes ∷ moves) (move_describes sold other taker n there here)
    (describes_both (moved bought taker other k) (moved_more moves) (takes ∷ []) moves
    (move_describes bought taker other k back forth) rest)

-- The moves say of each holder what its entry holds more.
pub moves_describe : (source : AccountId) (atoms : List ClaimAtom)
    → Describes (moved_more (moves_of (OfAccount source) atoms)) (moves_of (OfAccount source) atoms)
moves_describe source [] = describes_nothing
moves_describe source (atom.OrderBook seller id sold n bought k ∷ atoms) =
    trade_describes (OfAccount source) (OfAccount seller) sold bought n k (moves_of (OfAccount source) atoms)
    (account_location sold source) (account_location sold seller) (account_location bought source)
    (account_location bought seller)
    (moves_describe source atoms)
moves_describe source (atom.LiquidityPool pool sold n bought k ∷ atoms) =
    trade_describes (OfAccount source) (OfPool pool) sold bought n k (moves_of (OfAccount source) atoms)
    (account_location sold source) (pool_location sold pool) (account_location bought source)
    (pool_location bought pool)
    (moves_describe source atoms)
moves_describe source (atom.V0 seller id sold n bought k ∷ atoms) = moves_describe source atoms

all_of_hop : (trade : Trade) (atoms : List ClaimAtom) → All (IsOfTrade trade) atoms → All (IsOfHop trade) atoms
all_of_hop trade atoms all = λ k d lt. trade_is_of_hop trade _ (all k d lt)

-- the same by what the trade yields
sum_of : (by : Measure) → IsLinear by → (trade : Trade) (source : AccountId) (done : Crossing) → AreTraded trade done
    → summed by (moves_of (OfAccount source) done.atoms) ≡ (others by done.atoms
    +ℤ (by trade.sheep (OfAccount source) (neg_ℤ (pos done.sheep))
    +ℤ by trade.wheat (OfAccount source) (pos done.wheat)))
sum_of by linear trade source done traded =
    sum_of_atoms by linear trade (OfAccount source) done.atoms (all_of_hop trade done.atoms traded.each)
    ∙ (λ i. others by done.atoms
    +ℤ (by trade.sheep (OfAccount source) (neg_ℤ (traded.sheep i))
    +ℤ by trade.wheat (OfAccount source) (traded.wheat i)))

-- What sellers hold more, and what the source holds more, is what the moves say.
pub more_by_moves : (trade : Trade) (source : AccountId) (done : Crossing) → AreTraded trade done
    → (k : LedgerKey) (x : Asset)
    → both_more (more_in done.atoms)
    (both_more (more_where (holder source trade.sheep) trade.sheep (neg_ℤ (pos done.sheep)))
    (more_where (holder source trade.wheat) trade.wheat (pos done.wheat))) k x
    ≡ moved_more (moves_of (OfAccount source) done.atoms) k x
more_by_moves trade source done traded k x =
    (λ i. others_more k x done.atoms i
    +ℤ (holder_more trade.sheep source (neg_ℤ (pos done.sheep)) k x i
    +ℤ holder_more trade.wheat source (pos done.wheat) k x i))
    ∙ sym (sum_of (more_by k x) (more_linear k x) trade source done traded)

-- What is held more in all is what the moves issue.
pub moved_supply : (trade : Trade) (source : AccountId) (done : Crossing) → AreTraded trade done → (x : Asset)
    → (kept_in x done.atoms
    +ℤ (kept_at x (holder source trade.sheep) trade.sheep (neg_ℤ (pos done.sheep))
    +ℤ kept_at x (holder source trade.wheat) trade.wheat (pos done.wheat)))
    ≡ issued x (moves_of (OfAccount source) done.atoms)
moved_supply trade source done traded x =
    (λ i. others_kept x done.atoms i
    +ℤ ((holder_kept x trade.sheep source (neg_ℤ (pos done.sheep))
    ∙ account_held x trade.sheep source (neg_ℤ (pos done.sheep))) i
    +ℤ (holder_kept x trade.wheat source (pos done.wheat) ∙ account_held x trade.wheat source (pos done.wheat)) i))
    ∙ sym (sum_of (held_by x) (held_linear x) trade source done traded)
    ∙ sum_issued x (moves_of (OfAccount source) done.atoms)
