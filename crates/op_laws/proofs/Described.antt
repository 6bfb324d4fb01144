-- What moves say of each holder, by what the entries hold.
use Rattle.op_laws.proofs.Prelude.{◌≡◌, refl, sym, ap, subst, ◌∙◌, ℕ, Bool, true, false, ◌&&◌, List, [], ◌∷◌, ◌++◌}
use Rattle.op_laws.proofs.Prelude.{Option, Some, None, arith, ints, bytes_eq-Decides, ℤ, pos, neg_ℤ, ◌+ℤ◌, ◌-ℤ◌}
use Rattle.op_laws.proofs.Prelude.{if◌then◌else◌, is_eq, AccountId, ClaimableBalanceId, Hash, Asset, LedgerKey}
use Rattle.op_laws.proofs.Prelude.{asset_cmp, EntryMap, same_itself, is_same_account, same_account, is_itself, is_key}
use Rattle.op_laws.proofs.Prelude.{held, of_asset, is_native, is_issued_by, line_asset_of, Holder, OfAccount, OfBalance}
use Rattle.op_laws.proofs.Prelude.{OfPool, FeePool, Transit, Move, is_holder, is_issuer, gained_in, gained, holding}
use Rattle.op_laws.proofs.Prelude.{held_at, location_of, AreDescribed, Increase, none_more, both_more, under_key}
use Rattle.op_laws.proofs.Prelude.{HoldsMore, holds_itself, add_assoc, if_zero, zero_add, same_assets, same_keys}
use Rattle.op_flags.specs.ledger_types.declared.asset.Asset.TheVariants as asset
use Rattle.op_flags.specs.ledger_types.declared.key.LedgerKey.TheVariants as key
use Rattle.op_laws.proofs.IssuedMoves.{same_issuer}

-- ---- what is said

abbrev pub more_at : Increase → Asset → Option LedgerKey → ℤ
more_at more x None = pos 0
more_at more x (Some k) = more k x

-- Each holder, but an asset's issuer, gets so much more by the moves as its entry holds more.
abbrev pub Describes : Increase → List Move → Type 0
Describes more moves = (x : Asset) (holder : Holder) → is_issuer x holder ≡ false
    → more_at more x (location_of x holder) ≡ gained x holder moves

pub described_at : (more : Increase) (old new : EntryMap) → HoldsMore more old new → (x : Asset) (o : Option LedgerKey)
    → held_at x new o ≡ (held_at x old o +ℤ more_at more x o)
described_at more old new holds x None = refl
described_at more old new holds x (Some k) = holds k x

pub described_by : (more : Increase) (old new : EntryMap) (moves : List Move) → HoldsMore more old new
    → Describes more moves
    → AreDescribed old new moves
described_by more old new moves holds describes x holder other =
    described_at more old new holds x (location_of x holder)
    ∙ ap (λ n. holding x holder old +ℤ n) (describes x holder other)

pub none_at : (x : Asset) (o : Option LedgerKey) → more_at none_more x o ≡ pos 0
none_at x None = refl
none_at x (Some k) = refl

pub describes_nothing : Describes none_more []
unfolding gained
describes_nothing x holder other = none_at x (location_of x holder)

pub described_itself : (m : EntryMap) → AreDescribed m m []
described_itself m = described_by none_more m m [] (holds_itself m) describes_nothing

-- ---- moves after moves

pub gained_after : (x : Asset) (holder : Holder) (moves more : List Move)
    → gained x holder (moves ++ more) ≡ (gained x holder moves +ℤ gained x holder more)
unfolding gained
gained_after x holder [] more = sym (zero_add (gained x holder more))
gained_after x holder (move ∷ moves) more =
    ap (λ n. gained_in x holder move +ℤ n) (gained_after x holder moves more)
    ∙ sym (add_assoc (gained_in x holder move) (gained x holder moves) (gained x holder more))

-- what is gained at first and then
pub gained_twice : (x : Asset) (holder : Holder) (moves more : List Move) (a b c : ℤ)
    → b ≡ (a +ℤ gained x holder moves) → c ≡ (b +ℤ gained x holder more) → c ≡ (a +ℤ gained x holder (moves ++ more))
gained_twice x holder moves more a b c first next =
    next ∙ ap (λ n. n +ℤ gained x holder more) first
    ∙ add_assoc a (gained x holder moves) (gained x holder more)
    ∙ ap (λ n. a +ℤ n) (sym (gained_after x holder moves more))

pub described_twice : (a b c : EntryMap) (moves more : List Move) → AreDescribed a b moves → AreDescribed b c more
    → AreDescribed a c (moves ++ more)
described_twice a b c moves more first next x holder other =
    gained_twice x holder moves more (holding x holder a) (holding x holder b) (holding x holder c)
    (first x holder other) (next x holder other)

-- ---- one end of a move

-- n of an asset more, where its holder keeps it
abbrev pub at_index : Option LedgerKey → (Asset → ℤ) → Increase
at_index None amounts k x = pos 0
at_index (Some at) amounts k x = under_key at amounts k x

abbrev pub more_for : Asset → Holder → ℤ → Increase
more_for held holder n k x =
    if is_issuer held holder then pos 0 else at_index (location_of held holder) (λ y. of_asset y held n) k x

-- a holder of whom entries keep what it has of an asset
abbrev pub HasLocation : Asset → Holder → Type 0
HasLocation held holder = (at : LedgerKey) × (location_of held holder ≡ Some at)

pub account_location : (held : Asset) (id : AccountId) → HasLocation held (OfAccount id)
account_location asset.Native id = (key.Account id, refl)
account_location (asset.Alphanum4 code issuer) id =
    (key.TrustLine id (line_asset_of (asset.Alphanum4 code issuer)), refl)
account_location (asset.Alphanum12 code issuer) id =
    (key.TrustLine id (line_asset_of (asset.Alphanum12 code issuer)), refl)

pub balance_location : (held : Asset) (id : ClaimableBalanceId) → HasLocation held (OfBalance id)
balance_location asset.Native id = (key.ClaimableBalance id, refl)
balance_location (asset.Alphanum4 code issuer) id = (key.ClaimableBalance id, refl)
balance_location (asset.Alphanum12 code issuer) id = (key.ClaimableBalance id, refl)

pub pool_location : (held : Asset) (id : Hash) → HasLocation held (OfPool id)
pool_location asset.Native id = (key.LiquidityPool id, refl)
pool_location (asset.Alphanum4 code issuer) id = (key.LiquidityPool id, refl)
pool_location (asset.Alphanum12 code issuer) id = (key.LiquidityPool id, refl)

-- the same holder
same_holder : (q h : Holder) → is_holder q h ≡ true → h ≡ q
same_holder (OfAccount id) (OfAccount other) is = ap OfAccount (same_account other id is)
same_holder (OfBalance id) (OfBalance other) is =
    ap (λ (x : List ℕ). OfBalance (record { 0 = record { 0 = x } })) ((bytes_eq-Decides other.0.0 id.0.0).0 is)
same_holder (OfPool id) (OfPool other) is =
    ap (λ (x : List ℕ). OfPool (record { 0 = x })) ((bytes_eq-Decides other.0 id.0).0 is)
same_holder FeePool FeePool is = refl
same_holder Transit Transit is = refl
same_holder q h is = absurd (cc)

account_itself : (id other : AccountId) → id ≡ other → is_holder (OfAccount id) (OfAccount other) ≡ true
account_itself id other same = ap (is_same_account other) same ∙ is_itself other

-- no two holders share an entry
one_holder : (x : Asset) (q h : Holder) (k : LedgerKey) → location_of x q ≡ Some k → location_of x h ≡ Some k
    → is_holder q h ≡ true
one_holder asset.Native (OfAccount id) (OfAccount other) k here there =
    let same : id ≡ other = cc in account_itself id other same
one_holder (asset.Alphanum4 code issuer) (OfAccount id) (OfAccount other) k here there =
    let same : id ≡ other = cc in account_itself id other same
one_holder (asset.Alphanum12 code issuer) (OfAccount id) (OfAccount other) k here there =
    let same : id ≡ other = cc in account_itself id other same
one_holder x (OfBalance id) (OfBalance other) k here there =
    let same : other ≡ id = cc in (bytes_eq-Decides other.0.0 id.0.0).1 (ap (λ (b : ClaimableBalanceId). b.0.0) same)
one_holder x (OfPool id) (OfPool other) k here there =
    let same : other ≡ id = cc in (bytes_eq-Decides other.0 id.0).1 (ap (λ (b : Hash). b.0) same)
one_holder x q h k here there = absurd (cc)

-- ---- what an end of a move says

none_unless : (t : Bool) (n : ℤ) → n ≡ pos 0 → (if t then pos 0 else n) ≡ pos 0
none_unless true n none = refl
none_unless false n none = none

none_at_location : (o : Option LedgerKey) (amounts : Asset → ℤ) (k : LedgerKey) (x : Asset) → amounts x ≡ pos 0
    → at_index o amounts k x ≡ pos 0
none_at_location None amounts k x none = refl
none_at_location (Some at) amounts k x none = if_zero (is_key k at) (amounts x) none

-- of another asset
other_asset : (x held : Asset) (h : Holder) (n : ℤ) → is_eq (asset_cmp x held) ≡ false → (o : Option LedgerKey)
    → more_at (more_for held h n) x o ≡ pos 0
other_asset x held h n apart None = refl
other_asset x held h n apart (Some k) =
    none_unless (is_issuer held h) (at_index (location_of held h) (λ y. of_asset y held n) k x)
    (none_at_location (location_of held h) (λ y. of_asset y held n) k x (ap (λ t. if t then n else pos 0) apart))

module _ (x : Asset) (own : is_eq (asset_cmp x x) ≡ true) (q h : Holder) (at : LedgerKey)
    (there : location_of x h ≡ Some at) (n : ℤ) (other : is_issuer x q ≡ false) where
  abbrev amounts : Asset → ℤ
  amounts y = of_asset y x n

  -- what its holder's entry holds more
  its_own : is_issuer x h ≡ false → more_at (more_for x h n) x (location_of x h) ≡ n
  its_own free =
      ap (more_at (more_for x h n) x) there
      ∙ ap (λ t. if t then pos 0 else at_index (location_of x h) amounts at x) free
      ∙ ap (λ o. at_index o amounts at x) there
      ∙ ap (λ t. if t then of_asset x x n else pos 0) (same_itself at)
      ∙ ap (λ t. if t then n else pos 0) own

  -- what another entry holds more
  elsewhere : is_holder q h ≡ false → (o : Option LedgerKey) → location_of x q ≡ o
      → more_at (more_for x h n) x o ≡ pos 0
  elsewhere differ None here = refl
  elsewhere differ (Some k) here =
      none_unless (is_issuer x h) (at_index (location_of x h) amounts k x)
      (ap (λ o. at_index o amounts k x) there
      ∙ elim (is_key k at) as (λ b. is_key k at ≡ b → (if b then of_asset x x n else pos 0) ≡ pos 0) [
        | true ↦ λ tied. let same = one_holder x q h at (here ∙ ap Some (same_keys k at tied)) there in absurd (cc)
        | false ↦ λ apart. refl
      ] refl)

  own_asset : more_at (more_for x h n) x (location_of x q) ≡ (if is_holder q h then n else pos 0)
  own_asset = elim (is_holder q h) as (λ b. is_holder q h ≡ b
      → more_at (more_for x h n) x (location_of x q) ≡ (if b then n else pos 0)) [
        | true ↦ λ is.
            let same = same_holder q h is in
            ap (λ o. more_at (more_for x h n) x (location_of x o)) (sym same)
            ∙ its_own (ap (is_issuer x) same ∙ other)
        | false ↦ λ differ. elsewhere differ (location_of x q) refl
      ] refl

pub end_describes : (x held : Asset) (q h : Holder) → HasLocation held h → (n : ℤ) → is_issuer x q ≡ false
    → more_at (more_for held h n) x (location_of x q) ≡ (if is_eq (asset_cmp x held) && is_holder q h then n else pos 0)
end_describes x held q h inserted n other = elim (is_eq (asset_cmp x held)) as (λ b. is_eq (asset_cmp x held) ≡ b
    → more_at (more_for held h n) x (location_of x q) ≡ (if b && is_holder q h then n else pos 0)) [
      | true ↦ λ is.
          let same = same_assets x held is in
          subst (λ y. more_at (more_for y h n) x (location_of x q) ≡ (if is_holder q h then n else pos 0)) same
          (own_asset x (ap (λ y. is_eq (asset_cmp x y)) same ∙ is) q h inserted.0
          (ap (λ y. location_of y h) same ∙ inserted.1) n other)
      | false ↦ λ apart. other_asset x held h n apart (location_of x q)
    ] refl

-- ---- a move

pub more_both : (d e : Increase) (x : Asset) (o : Option LedgerKey)
    → more_at (both_more d e) x o ≡ (more_at d x o +ℤ more_at e x o)
more_both d e x None = refl
more_both d e x (Some k) = refl

-- moves after moves say what both do
pub describes_both : (d e : Increase) (moves more : List Move) → Describes d moves → Describes e more
    → Describes (both_more d e) (moves ++ more)
describes_both d e moves more first next x q other =
    more_both d e x (location_of x q)
    ∙ (λ i. first x q other i +ℤ next x q other i)
    ∙ sym (gained_after x q moves more)

given_and_taken : (t f : Bool) (n : ℤ) → ((if t then n else pos 0) +ℤ (if f then neg_ℤ n else pos 0))
    ≡ (((if t then n else pos 0) -ℤ (if f then n else pos 0)) +ℤ pos 0)
given_and_taken true true n = omega (arith, ints)
given_and_taken true false n = omega (arith, ints)
given_and_taken false true n = omega (arith, ints)
given_and_taken false false n = omega (arith, ints)

-- n of an asset more for one holder, and less for another one
abbrev pub moved : Asset → (from to : Holder) → ℤ → Increase
moved held from to n = both_more (more_for held to n) (more_for held from (neg_ℤ n))

pub move_describes : (held : Asset) (from to : Holder) (n : ℤ) → HasLocation held from → HasLocation held to
    → Describes (moved held from to n) (record { from = from; to = to; asset = held; amount = n } ∷ [])
unfolding gained
move_describes held from to n gives takes x q other =
    let same = is_eq (asset_cmp x held) in
    more_both (more_for held to n) (more_for held from (neg_ℤ n)) x (location_of x q)
    ∙ (λ i. end_describes x held q to takes n other i +ℤ end_describes x held q from gives (neg_ℤ n) other i)
    ∙ given_and_taken (same && is_holder q to) (same && is_holder q from) n

-- ---- increases in other words

pub more_turned : (d e : Increase) (k : LedgerKey) (x : Asset) → both_more d e k x ≡ both_more e d k x
more_turned d e k x = turned (d k x) (e k x)
  where
    turned : (a b : ℤ) → (a +ℤ b) ≡ (b +ℤ a)
    turned a b = omega (arith, ints)

-- what goes back to its issuer
pub redeemed_more : (held : Asset) (from to : Holder) (n : ℤ) → is_issuer held to ≡ true → (k : LedgerKey) (x : Asset)
    → more_for held from (neg_ℤ n) k x ≡ moved held from to n k x
redeemed_more held from to n issuer k x =
    sym (ap (λ t. (if t then pos 0 else at_index (location_of held to) (λ y. of_asset y held n) k x)
    +ℤ more_for held from (neg_ℤ n) k x) issuer ∙ zero_add (more_for held from (neg_ℤ n) k x))

-- an issued asset lies in an account's line, unless that issues it
pub account_more : (held : Asset) → is_native held ≡ false → (id : AccountId) (n : ℤ) (k : LedgerKey) (x : Asset)
    → (if is_issued_by held id then pos 0
    else under_key (key.TrustLine id (line_asset_of held)) (λ y. of_asset y held n) k x)
    ≡ more_for held (OfAccount id) n k x
account_more asset.Native issued id n k x = absurd (cc)
account_more (asset.Alphanum4 code issuer) issued id n k x =
    let held = asset.Alphanum4 code issuer in
    ap (λ t. if t then pos 0 else under_key (key.TrustLine id (line_asset_of held)) (λ y. of_asset y held n) k x)
    (same_issuer held id)
account_more (asset.Alphanum12 code issuer) issued id n k x =
    let held = asset.Alphanum12 code issuer in
    ap (λ t. if t then pos 0 else under_key (key.TrustLine id (line_asset_of held)) (λ y. of_asset y held n) k x)
    (same_issuer held id)

-- an account's line in an asset that it doesn't issue
pub line_more : (held : Asset) → is_native held ≡ false → (id : AccountId) (n : ℤ) → is_issued_by held id ≡ false
    → (k : LedgerKey) (x : Asset)
    → under_key (key.TrustLine id (line_asset_of held)) (λ y. of_asset y held n) k x
    ≡ more_for held (OfAccount id) n k x
line_more held issued id n other k x =
    ap (λ t. if t then pos 0 else under_key (key.TrustLine id (line_asset_of held)) (λ y. of_asset y held n) k x)
    (sym other) ∙ account_more held issued id n k x

pub balance_more : (held : Asset) (id : ClaimableBalanceId) (n : ℤ) (k : LedgerKey) (x : Asset)
    → under_key (key.ClaimableBalance id) (λ y. of_asset y held n) k x ≡ more_for held (OfBalance id) n k x
balance_more asset.Native id n k x = refl
balance_more (asset.Alphanum4 code issuer) id n k x = refl
balance_more (asset.Alphanum12 code issuer) id n k x = refl

pub pool_more : (held : Asset) (id : Hash) (n : ℤ) (k : LedgerKey) (x : Asset)
    → under_key (key.LiquidityPool id) (λ y. of_asset y held n) k x ≡ more_for held (OfPool id) n k x
pool_more asset.Native id n k x = refl
pool_more (asset.Alphanum4 code issuer) id n k x = refl
pool_more (asset.Alphanum12 code issuer) id n k x = refl
