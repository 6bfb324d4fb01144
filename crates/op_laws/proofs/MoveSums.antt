-- Sums over the ends of moves: what is held more in all, and what each entry holds more.
use Rattle.op_laws.proofs.Prelude.{◌≡◌, refl, sym, ap, ◌∙◌, Bool, true, false, List, [], ◌∷◌, ◌++◌, All, Option, Some}
use Rattle.op_laws.proofs.Prelude.{None, arith, ints, All-head, All-tail, ℤ, pos, neg_ℤ, ◌+ℤ◌, ◌-ℤ◌, if◌then◌else◌}
use Rattle.op_laws.proofs.Prelude.{is_eq, Asset, LedgerKey, asset_cmp, Increase, both_more, of_asset, Holder, OfAccount}
use Rattle.op_laws.proofs.Prelude.{OfBalance, OfPool, FeePool, Transit, Move, is_issuer, is_holder, is_of_asset}
use Rattle.op_laws.proofs.Prelude.{location_of, issued, issued_in, gained, gained_in, add_assoc, add_zero, zero_add}
use Rattle.std.specs.Prelude.{◌&&◌}
use Rattle.op_flags.specs.ledger_types.declared.asset.Asset.TheVariants as asset
use Rattle.op_laws.proofs.IssuedMoves.{issued_so, issued_by_move}
use Rattle.op_laws.proofs.Described.{Describes, HasLocation, more_at, more_both, more_for, end_describes}

-- ---- measures

-- what a holder that has so much more of an asset adds to a sum
abbrev pub Measure : Type 0
Measure = Asset → Holder → ℤ → ℤ

-- what a move adds, to which an amount comes and from which it goes
abbrev pub summed_in : Measure → Move → ℤ
summed_in by move = by move.asset move.to move.amount +ℤ by move.asset move.from (neg_ℤ move.amount)

abbrev pub summed : Measure → List Move → ℤ
summed by [] = pos 0
summed by (move ∷ moves) = summed_in by move +ℤ summed by moves

pub summed_after : (by : Measure) (moves more : List Move)
    → summed by (moves ++ more) ≡ (summed by moves +ℤ summed by more)
summed_after by [] more = sym (zero_add (summed by more))
summed_after by (move ∷ moves) more =
    ap (λ n. summed_in by move +ℤ n) (summed_after by moves more)
    ∙ sym (add_assoc (summed_in by move) (summed by moves) (summed by more))

-- ---- what is held in all

-- An issuer's part doesn't count.
abbrev pub held_by : Asset → Measure
held_by x held holder n = if is_issuer held holder then pos 0 else of_asset x held n

pub move_issues : (b f t : Bool) (n : ℤ)
    → ((if t then pos 0 else (if b then n else pos 0)) +ℤ (if f then pos 0 else (if b then neg_ℤ n else pos 0)))
    ≡ (if b then issued_so f t n else pos 0)
move_issues true true true n = omega (arith, ints)
move_issues true true false n = omega (arith, ints)
move_issues true false true n = omega (arith, ints)
move_issues true false false n = omega (arith, ints)
move_issues false true true n = refl
move_issues false true false n = refl
move_issues false false true n = refl
move_issues false false false n = refl

issues_in : (x : Asset) (move : Move) → summed_in (held_by x) move ≡ issued_in x move
unfolding issued
issues_in x move =
    move_issues (is_eq (asset_cmp x move.asset)) (is_issuer move.asset move.from) (is_issuer move.asset move.to)
    move.amount
    ∙ issued_by_move x move.asset move.from move.to move.amount
    ∙ add_zero (issued_in x move)

-- What is held more in all is what the moves issue.
pub sum_issued : (x : Asset) (moves : List Move) → summed (held_by x) moves ≡ issued x moves
unfolding issued
sum_issued x [] = refl
sum_issued x (move ∷ moves) = λ i. issues_in x move i +ℤ sum_issued x moves i

-- ---- what each entry holds

-- what the entry under a key holds more of an asset
abbrev pub more_by : LedgerKey → Asset → Measure
more_by k x held holder n = more_for held holder n k x

-- what entries hold more by moves
abbrev pub moved_more : List Move → Increase
moved_more moves k x = summed (more_by k x) moves

-- a holder whose entry keeps what it has, or the transit
abbrev pub IsKept : Asset → Holder → Type 0
IsKept held Transit = Unit {0}
IsKept held holder = HasLocation held holder

abbrev pub AreEndsKept : Move → Type 0
AreEndsKept move = IsKept move.asset move.to × IsKept move.asset move.from

-- what moves say of all holders but the transit
abbrev pub DescribesOthers : Increase → List Move → Type 0
DescribesOthers more moves = (x : Asset) (holder : Holder) → is_issuer x holder ≡ false
    → is_holder holder Transit ≡ false
    → more_at more x (location_of x holder) ≡ gained x holder moves

none_of : (b : Bool) (n : ℤ) → (if b && false then n else pos 0) ≡ pos 0
none_of true n = refl
none_of false n = refl

nothing_there : (o : Option LedgerKey) (x held : Asset) (n : ℤ) → more_at (more_for held Transit n) x o ≡ pos 0
nothing_there None x held n = refl
nothing_there (Some k) x asset.Native n = refl
nothing_there (Some k) x (asset.Alphanum4 code issuer) n = refl
nothing_there (Some k) x (asset.Alphanum12 code issuer) n = refl

kept_describes : (x held : Asset) (q h : Holder) → IsKept held h → (n : ℤ) → is_issuer x q ≡ false
    → is_holder q Transit ≡ false
    → more_at (more_for held h n) x (location_of x q) ≡ (if is_eq (asset_cmp x held) && is_holder q h then n else pos 0)
kept_describes x held q (OfAccount id) kept n other apart = end_describes x held q (OfAccount id) kept n other
kept_describes x held q (OfBalance id) kept n other apart = end_describes x held q (OfBalance id) kept n other
kept_describes x held q (OfPool id) kept n other apart = end_describes x held q (OfPool id) kept n other
kept_describes x held q FeePool kept n other apart = end_describes x held q FeePool kept n other
kept_describes x held q Transit kept n other apart =
    nothing_there (location_of x q) x held n
    ∙ sym (none_of (is_eq (asset_cmp x held)) n)
    ∙ ap (λ b. if is_eq (asset_cmp x held) && b then n else pos 0) (sym apart)

got_and_given : (t f : Bool) (n : ℤ) → ((if t then n else pos 0) +ℤ (if f then neg_ℤ n else pos 0))
    ≡ ((if t then n else pos 0) -ℤ (if f then n else pos 0))
got_and_given true true n = omega (arith, ints)
got_and_given true false n = omega (arith, ints)
got_and_given false true n = omega (arith, ints)
got_and_given false false n = refl

nothing_at : (x : Asset) (o : Option LedgerKey) → more_at (moved_more []) x o ≡ pos 0
nothing_at x None = refl
nothing_at x (Some k) = refl

pub moves_describe_others : (moves : List Move) → All AreEndsKept moves → DescribesOthers (moved_more moves) moves
unfolding gained
moves_describe_others [] all x q other apart = nothing_at x (location_of x q)
moves_describe_others (move ∷ moves) all x q other apart =
    let kept = All-head AreEndsKept move moves all in
    let got = more_for move.asset move.to move.amount in
    let sent = more_for move.asset move.from (neg_ℤ move.amount) in
    let o = location_of x q in
    let same = is_of_asset x move in
    let one : more_at (both_more got sent) x o ≡ gained_in x q move =
    more_both got sent x o
    ∙ (λ i. kept_describes x move.asset q move.to kept.0 move.amount other apart i
    +ℤ kept_describes x move.asset q move.from kept.1 (neg_ℤ move.amount) other apart i)
    ∙ got_and_given (same && is_holder q move.to) (same && is_holder q move.from) move.amount in
    more_both (both_more got sent) (moved_more moves) x o
    ∙ (λ i. one i +ℤ moves_describe_others moves (All-tail AreEndsKept move moves all) x q other apart i)

no_index : (x : Asset) → location_of x Transit ≡ None
no_index asset.Native = refl
no_index (asset.Alphanum4 code issuer) = refl
no_index (asset.Alphanum12 code issuer) = refl

-- Where nothing stays on its way, the moves say all.
pub describes_all : (more : Increase) (moves : List Move) → DescribesOthers more moves
    → ((x : Asset) → gained x Transit moves ≡ pos 0) → Describes more moves
describes_all more moves others way x (OfAccount id) other = others x (OfAccount id) other refl
describes_all more moves others way x (OfBalance id) other = others x (OfBalance id) other refl
describes_all more moves others way x (OfPool id) other = others x (OfPool id) other refl
describes_all more moves others way x FeePool other = others x FeePool other refl
describes_all more moves others way x Transit other = ap (more_at more x) (no_index x) ∙ sym (way x)
