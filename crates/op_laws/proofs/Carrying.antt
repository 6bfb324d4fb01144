-- What an amount that goes along a path leaves, and what its trades move.
use Rattle.op_laws.proofs.Prelude as prelude
use prelude.{◌≡◌, refl, sym, ap, ◌∙◌, ℕ, Bool, true, false, List, [], ◌∷◌, ◌++◌, ◌&&◌, arith, ints, ℤ, pos, neg_ℤ, ◌+ℤ◌}
use prelude.{◌-ℤ◌, if◌then◌else◌, is_eq, Asset, ClaimAtom, LedgerKey, asset_cmp, EntryMap, IsKeyed, both_more, of_asset}
use prelude.{Leaves, leaves_itself, leaves_as, leaves_both, moves_of, atom_moves, Holder, Transit, Move, Trade}
use prelude.{Crossing, kept_in, kept_by, more_in, atom_more, AreHopped, ShiftsLegal, shifts_as, shifts_both}
use prelude.{shifts_nothing, is_holder, is_of_asset, gained, add_assoc, add_two_zeros, if_add, zero_add}
use Rattle.op_flags.specs.ledger_types.declared.asset.Asset.TheVariants as asset
use Rattle.op_flags.specs.ledger_types.declared.claim_atom.ClaimAtom.TheVariants as atom
use Rattle.op_laws.proofs.MoveSums.{Measure, summed, summed_after, held_by, more_by}
use Rattle.op_laws.proofs.TradeMoves.{IsLinear, others, sum_of_atoms, held_linear, more_linear, others_kept}
use Rattle.op_laws.proofs.TradeMoves.{others_more}

-- ---- lists of atoms

pub kept_after : (x : Asset) (atoms later : List ClaimAtom)
    → kept_in x (atoms ++ later) ≡ (kept_in x atoms +ℤ kept_in x later)
kept_after x [] later = sym (zero_add (kept_in x later))
kept_after x (first ∷ atoms) later =
    ap (λ n. kept_by x first +ℤ n) (kept_after x atoms later)
    ∙ sym (add_assoc (kept_by x first) (kept_in x atoms) (kept_in x later))

pub more_after : (k : LedgerKey) (x : Asset) (atoms later : List ClaimAtom)
    → more_in (atoms ++ later) k x ≡ (more_in atoms k x +ℤ more_in later k x)
more_after k x [] later = sym (zero_add (more_in later k x))
more_after k x (first ∷ atoms) later =
    ap (λ n. atom_more first k x +ℤ n) (more_after k x atoms later)
    ∙ sym (add_assoc (atom_more first k x) (more_in atoms k x) (more_in later k x))

append_assoc : (a b c : List Move) → ((a ++ b) ++ c) ≡ (a ++ (b ++ c))
append_assoc [] b c = refl
append_assoc (move ∷ a) b c = ap (λ (l : List Move). move ∷ l) (append_assoc a b c)

pub moves_after : (taker : Holder) (atoms later : List ClaimAtom)
    → moves_of taker (atoms ++ later) ≡ moves_of taker atoms ++ moves_of taker later
moves_after taker [] later = refl
moves_after taker (first ∷ atoms) later =
    ap (λ (l : List Move). atom_moves taker first ++ l) (moves_after taker atoms later)
    ∙ sym (append_assoc (atom_moves taker first) (moves_of taker atoms) (moves_of taker later))

pub summed_later : (by : Measure) (taker : Holder) (atoms later : List ClaimAtom)
    → summed by (moves_of taker (atoms ++ later))
    ≡ (summed by (moves_of taker atoms) +ℤ summed by (moves_of taker later))
summed_later by taker atoms later =
    ap (summed by) (moves_after taker atoms later) ∙ summed_after by (moves_of taker atoms) (moves_of taker later)

-- ---- the transit

-- what is on its way
abbrev pub way_by : Asset → Measure
way_by x held holder n = if is_holder Transit holder then of_asset x held n else pos 0

pub of_neg : (x held : Asset) (n : ℤ) → of_asset x held (neg_ℤ n) ≡ neg_ℤ (of_asset x held n)
of_neg x held n = by (is_eq (asset_cmp x held))
  where
    by : (b : Bool) → (if b then neg_ℤ n else pos 0) ≡ neg_ℤ (if b then n else pos 0)
    by true = refl
    by false = refl

way_in : (b t f : Bool) (n : ℤ)
    → ((if t then (if b then n else pos 0) else pos 0) +ℤ (if f then (if b then neg_ℤ n else pos 0) else pos 0))
    ≡ ((if b && t then n else pos 0) -ℤ (if b && f then n else pos 0))
way_in true true true n = omega (arith, ints)
way_in true true false n = omega (arith, ints)
way_in true false true n = omega (arith, ints)
way_in true false false n = refl
way_in false true true n = refl
way_in false true false n = refl
way_in false false true n = refl
way_in false false false n = refl

-- What the transit gains is what is on its way.
pub gained_on_way : (x : Asset) (moves : List Move) → gained x Transit moves ≡ summed (way_by x) moves
unfolding gained
gained_on_way x [] = refl
gained_on_way x (move ∷ moves) =
    λ i. (sym (way_in (is_of_asset x move) (is_holder Transit move.to) (is_holder Transit move.from) move.amount)) i
    +ℤ gained_on_way x moves i

pub way_linear : (x : Asset) → IsLinear (way_by x)
way_linear x held h a b =
    ap (λ n. if is_holder Transit h then n else pos 0) (if_add (is_eq (asset_cmp x held)) a b)
    ∙ if_add (is_holder Transit h) (of_asset x held a) (of_asset x held b)

no_others : (x : Asset) (atoms : List ClaimAtom) → others (way_by x) atoms ≡ pos 0
no_others x [] = refl
no_others x (atom.OrderBook seller id sold n bought k ∷ atoms) = ap (λ m. (pos 0 +ℤ pos 0) +ℤ m) (no_others x atoms)
no_others x (atom.LiquidityPool pool sold n bought k ∷ atoms) = ap (λ m. (pos 0 +ℤ pos 0) +ℤ m) (no_others x atoms)
no_others x (other ∷ atoms) = ap (λ m. pos 0 +ℤ m) (no_others x atoms)

pub held_on_way : (x held : Asset) (n : ℤ) → held_by x held Transit n ≡ of_asset x held n
held_on_way x asset.Native n = refl
held_on_way x (asset.Alphanum4 code issuer) n = refl
held_on_way x (asset.Alphanum12 code issuer) n = refl

pub more_on_way : (k : LedgerKey) (x held : Asset) (n : ℤ) → more_by k x held Transit n ≡ pos 0
more_on_way k x asset.Native n = refl
more_on_way k x (asset.Alphanum4 code issuer) n = refl
more_on_way k x (asset.Alphanum12 code issuer) n = refl

-- ---- from one asset to another

-- so much of an asset less, and so much of another one more
abbrev pub turned : Asset → Asset → (a : ℕ) → Asset → (b : ℕ) → ℤ
turned x p a q b = of_asset x q (pos b) -ℤ of_asset x p (pos a)

-- An amount of an asset becomes an amount of another one by trades, which leave entries so, in whatever order.
pub record IsCarried (id_pool base : ℕ) (p : Asset) (a : ℕ) (q : Asset) (b : ℕ) (old new : EntryMap)
    (atoms : List ClaimAtom) : Type 0 where
  pub shifts : ShiftsLegal id_pool (λ x. kept_in x atoms) old new
  pub left : Leaves base (more_in atoms) old new
  -- what is on its way
  pub way : (x : Asset) → summed (way_by x) (moves_of Transit atoms) ≡ turned x p a q b
  -- what is held in all but the transit, and what each entry holds
  pub kept : (x : Asset) → summed (held_by x) (moves_of Transit atoms) ≡ (kept_in x atoms +ℤ turned x p a q b)
  pub more : (k : LedgerKey) (x : Asset) → summed (more_by k x) (moves_of Transit atoms) ≡ more_in atoms k x

-- nothing is traded
gone_again : (n : ℤ) → pos 0 ≡ (n -ℤ n)
gone_again n = omega (arith, ints)

pub nothing_carried : (id_pool base : ℕ) (p : Asset) (a : ℕ) (m : EntryMap) → IsKeyed m
    → IsCarried id_pool base p a p a m m []
nothing_carried id_pool base p a m keyed = record {
  shifts = shifts_nothing id_pool m;
  left = leaves_itself base m keyed;
  way = λ x. gone_again (of_asset x p (pos a));
  kept = λ x. gone_again (of_asset x p (pos a)) ∙ sym (zero_add (turned x p a p a));
  more = λ k x. refl;
}

turned_twice : (u v w : ℤ) → ((v -ℤ u) +ℤ (w -ℤ v)) ≡ (w -ℤ u)
turned_twice u v w = omega (arith, ints)

kept_twice : (k l u v w : ℤ) → ((k +ℤ (v -ℤ u)) +ℤ (l +ℤ (w -ℤ v))) ≡ ((k +ℤ l) +ℤ (w -ℤ u))
kept_twice k l u v w = omega (arith, ints)

other_way : (k l : ℤ) → (l +ℤ k) ≡ (k +ℤ l)
other_way k l = omega (arith, ints)

module _ (id_pool base : ℕ) (p : Asset) (a : ℕ) (q : Asset) (b : ℕ) (r : Asset) (c : ℕ) (old now new : EntryMap)
    (first later : List ClaimAtom) where
  way_both : ((x : Asset) → summed (way_by x) (moves_of Transit first) ≡ turned x p a q b)
      → ((x : Asset) → summed (way_by x) (moves_of Transit later) ≡ turned x q b r c)
      → (x : Asset) → summed (way_by x) (moves_of Transit (first ++ later)) ≡ turned x p a r c
  way_both one two x =
      summed_later (way_by x) Transit first later ∙ (λ i. one x i +ℤ two x i)
      ∙ turned_twice (of_asset x p (pos a)) (of_asset x q (pos b)) (of_asset x r (pos c))

  kept_both : ((x : Asset) → summed (held_by x) (moves_of Transit first) ≡ (kept_in x first +ℤ turned x p a q b))
      → ((x : Asset) → summed (held_by x) (moves_of Transit later) ≡ (kept_in x later +ℤ turned x q b r c))
      → (x : Asset) → summed (held_by x) (moves_of Transit (first ++ later))
      ≡ (kept_in x (first ++ later) +ℤ turned x p a r c)
  kept_both one two x =
      summed_later (held_by x) Transit first later ∙ (λ i. one x i +ℤ two x i)
      ∙ kept_twice (kept_in x first) (kept_in x later) (of_asset x p (pos a)) (of_asset x q (pos b))
      (of_asset x r (pos c))
      ∙ ap (λ n. n +ℤ turned x p a r c) (sym (kept_after x first later))

  more_both : ((k : LedgerKey) (x : Asset) → summed (more_by k x) (moves_of Transit first) ≡ more_in first k x)
      → ((k : LedgerKey) (x : Asset) → summed (more_by k x) (moves_of Transit later) ≡ more_in later k x)
      → (k : LedgerKey) (x : Asset) → summed (more_by k x) (moves_of Transit (first ++ later))
      ≡ more_in (first ++ later) k x
  more_both one two k x =
      summed_later (more_by k x) Transit first later ∙ (λ i. one k x i +ℤ two k x i)
      ∙ sym (more_after k x first later)

  -- the first trades are made first
  pub carried_on : IsCarried id_pool base p a q b old now first → IsCarried id_pool base q b r c now new later
      → IsCarried id_pool base p a r c old new (first ++ later)
  carried_on one two = record {
    shifts = shifts_as id_pool (λ x. kept_in x first +ℤ kept_in x later) (λ x. kept_in x (first ++ later)) old new
        (λ x. sym (kept_after x first later))
        (shifts_both id_pool (λ x. kept_in x first) (λ x. kept_in x later) old now new one.shifts two.shifts);
    left = leaves_as base (both_more (more_in first) (more_in later)) (more_in (first ++ later)) old new
        (leaves_both base (more_in first) (more_in later) old now new one.left two.left)
        (λ k x. sym (more_after k x first later));
    way = way_both one.way two.way;
    kept = kept_both one.kept two.kept;
    more = more_both one.more two.more;
  }

  -- the later trades are made first
  pub carried_back : IsCarried id_pool base q b r c old now later → IsCarried id_pool base p a q b now new first
      → IsCarried id_pool base p a r c old new (first ++ later)
  carried_back two one = record {
    shifts = shifts_as id_pool (λ x. kept_in x later +ℤ kept_in x first) (λ x. kept_in x (first ++ later)) old new
        (λ x. other_way (kept_in x first) (kept_in x later) ∙ sym (kept_after x first later))
        (shifts_both id_pool (λ x. kept_in x later) (λ x. kept_in x first) old now new two.shifts one.shifts);
    left = leaves_as base (both_more (more_in later) (more_in first)) (more_in (first ++ later)) old new
        (leaves_both base (more_in later) (more_in first) old now new two.left one.left)
        (λ k x. other_way (more_in first k x) (more_in later k x) ∙ sym (more_after k x first later));
    way = way_both one.way two.way;
    kept = kept_both one.kept two.kept;
    more = more_both one.more two.more;
  }

-- ---- one hop

ends_turned : (o s w : ℤ) → (o +ℤ (neg_ℤ s +ℤ w)) ≡ (o +ℤ (w -ℤ s))
ends_turned o s w = omega (arith, ints)

-- what the atoms of a hop move
module _ (trade : Trade) (done : Crossing) (hopped : AreHopped trade done) where
  sum_of_hop : (by : Measure) → IsLinear by
      → summed by (moves_of Transit done.atoms) ≡ (others by done.atoms
      +ℤ (by trade.sheep Transit (neg_ℤ (pos done.sheep)) +ℤ by trade.wheat Transit (pos done.wheat)))
  sum_of_hop by linear =
      sum_of_atoms by linear trade Transit done.atoms hopped.each
      ∙ (λ i. others by done.atoms
      +ℤ (by trade.sheep Transit (neg_ℤ (hopped.sheep i)) +ℤ by trade.wheat Transit (hopped.wheat i)))

  pub hop_way : (x : Asset)
      → summed (way_by x) (moves_of Transit done.atoms) ≡ turned x trade.sheep done.sheep trade.wheat done.wheat
  hop_way x =
      sum_of_hop (way_by x) (way_linear x)
      ∙ (λ i. no_others x done.atoms i
      +ℤ (of_neg x trade.sheep (pos done.sheep) i +ℤ of_asset x trade.wheat (pos done.wheat)))
      ∙ ends_turned (pos 0) (of_asset x trade.sheep (pos done.sheep)) (of_asset x trade.wheat (pos done.wheat))
      ∙ zero_add (turned x trade.sheep done.sheep trade.wheat done.wheat)

  pub hop_kept : (x : Asset) → summed (held_by x) (moves_of Transit done.atoms)
      ≡ (kept_in x done.atoms +ℤ turned x trade.sheep done.sheep trade.wheat done.wheat)
  hop_kept x =
      sum_of_hop (held_by x) (held_linear x)
      ∙ (λ i. sym (others_kept x done.atoms) i
      +ℤ ((held_on_way x trade.sheep (neg_ℤ (pos done.sheep)) ∙ of_neg x trade.sheep (pos done.sheep)) i
      +ℤ held_on_way x trade.wheat (pos done.wheat) i))
      ∙ ends_turned (kept_in x done.atoms) (of_asset x trade.sheep (pos done.sheep))
      (of_asset x trade.wheat (pos done.wheat))

  pub hop_more : (k : LedgerKey) (x : Asset)
      → summed (more_by k x) (moves_of Transit done.atoms) ≡ more_in done.atoms k x
  hop_more k x =
      sum_of_hop (more_by k x) (more_linear k x)
      ∙ (λ i. sym (others_more k x done.atoms) i
      +ℤ (more_on_way k x trade.sheep (neg_ℤ (pos done.sheep)) i
      +ℤ more_on_way k x trade.wheat (pos done.wheat) i))
      ∙ add_two_zeros (more_in done.atoms k x)
