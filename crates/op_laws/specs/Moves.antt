-- Amounts by what moves them: what a holder has, gives and takes, and what an issuer issues and redeems.
use Rattle.std.specs.Prelude.{◌≡◌, ℤ, pos, ◌+ℤ◌, ◌-ℤ◌, Bool, true, false, ◌&&◌, List, [], ◌∷◌, Option, Some, None}
use Rattle.std.specs.Prelude.{if◌then◌else◌}
use Rattle.std.specs.FinMap.{get}
use Rattle.std.specs.Ordering.{is_eq}
use Rattle.std.specs.Str.{bytes_eq}
use Rattle.op_flags.specs.ledger_types.declared.asset.Asset.{Asset}
use Rattle.op_flags.specs.ledger_types.declared.asset.Asset.TheVariants as asset
use Rattle.op_flags.specs.ledger_types.declared.key.LedgerKey.{LedgerKey}
use Rattle.op_flags.specs.ledger_types.declared.key.LedgerKey.TheVariants as key
use Rattle.op_flags.specs.ledger_types.KeyOrder.{asset_cmp}
use Rattle.op_flags.specs.entry_map.EntryMap.{EntryMap}
use Rattle.op_flags.specs.entry_sums.Sums.{part}
use Rattle.op_flags.specs.sponsor_rules.Payers.{is_same_account}
use Rattle.op_flags.specs.legal_rules.Supply.{held}
use Rattle.op_flags.specs.op_form.Assets.{line_asset_of}
use Rattle.op_flags.specs.op_form.Done.{Holder, OfAccount, OfBalance, OfPool, FeePool, Transit, Move}

abbrev pub is_of_asset : Asset → Move → Bool
is_of_asset x move = is_eq (asset_cmp x move.asset)

-- the same holder
abbrev pub is_holder : Holder → Holder → Bool
is_holder (OfAccount id) (OfAccount other) = is_same_account other id
is_holder (OfBalance id) (OfBalance other) = bytes_eq other.0.0 id.0.0
is_holder (OfPool id) (OfPool other) = bytes_eq other.0 id.0
is_holder FeePool FeePool = true
is_holder Transit Transit = true
is_holder holder other = false

-- ---- what a holder gives and takes

-- what is moved to a holder, less what is moved from it
abbrev pub gained_in : Asset → Holder → Move → ℤ
gained_in x holder move =
    (if is_of_asset x move && is_holder holder move.to then move.amount else pos 0)
    -ℤ (if is_of_asset x move && is_holder holder move.from then move.amount else pos 0)

unfoldable pub gained : Asset → Holder → List Move → ℤ
gained x holder [] = pos 0
gained x holder (move ∷ moves) = gained_in x holder move +ℤ gained x holder moves

-- ---- what a holder has

-- Where the entries keep what a holder has of an asset: lumens in the account, an issued asset in its line, and nothing
-- of the fee pool or of what is on its way.
abbrev pub location_of : Asset → Holder → Option LedgerKey
location_of asset.Native (OfAccount id) = Some (key.Account id)
location_of issued (OfAccount id) = Some (key.TrustLine id (line_asset_of issued))
location_of x (OfBalance id) = Some (key.ClaimableBalance id)
location_of x (OfPool id) = Some (key.LiquidityPool id)
location_of x FeePool = None
location_of x Transit = None

abbrev pub held_at : Asset → EntryMap → Option LedgerKey → ℤ
held_at x m None = pos 0
held_at x m (Some index) = part (held x) (get m index)

-- what a holder has of an asset; an issuer has none of its own
abbrev pub holding : Asset → Holder → EntryMap → ℤ
holding x holder m = held_at x m (location_of x holder)

-- ---- what is issued and redeemed

-- lumens have no issuer
abbrev pub is_issuer : Asset → Holder → Bool
is_issuer asset.Native holder = false
is_issuer (asset.Alphanum4 code issuer) holder = is_holder (OfAccount issuer) holder
is_issuer (asset.Alphanum12 code issuer) holder = is_holder (OfAccount issuer) holder

-- what its issuer gives of an asset, less what is given back
abbrev pub issued_in : Asset → Move → ℤ
issued_in x move =
    (if is_of_asset x move && is_issuer x move.from then move.amount else pos 0)
    -ℤ (if is_of_asset x move && is_issuer x move.to then move.amount else pos 0)

unfoldable pub issued : Asset → List Move → ℤ
issued x [] = pos 0
issued x (move ∷ moves) = issued_in x move +ℤ issued x moves

-- ---- what moves say

-- Each holder has what it had and what the moves give it, but an asset's issuer, which has as much of that as it likes.
abbrev pub AreDescribed : (old new : EntryMap) → List Move → Type 0
AreDescribed old new moves = (x : Asset) (holder : Holder) → is_issuer x holder ≡ false
    → holding x holder new ≡ (holding x holder old +ℤ gained x holder moves)
