-- Upgrades that a ledger's value asks for (Upgrades::isValidForApply and applyTo in stellar-core).
use Rattle.std.specs.Prelude.{◌≡◌, ℕ, zero, suc, nat_eq, nat_le, nat_lt, not, Bool, true, false, ◌||◌, List, [], ◌∷◌}
use Rattle.std.specs.Prelude.{length, slice_get, Option, Some, None, Result, Ok, Err}
use Rattle.std.specs.List.{find, fold, range_with_len}
use Rattle.ledger_types.specs.declared.header.LedgerHeader.{LedgerHeader}
use Rattle.ledger_types.specs.declared.header.LedgerUpgrade.{LedgerUpgrade}
use Rattle.ledger_types.specs.declared.header.LedgerUpgrade.TheVariants as upgrade
use Rattle.xdr_core.specs.declared.fault.XdrFault.{XdrFault}
use Rattle.xdr_core.specs.Position.{Reading, start_of}
use Rattle.xdr_header.specs.Header.{ledger_upgrade}
use Rattle.header_chain.specs.declared.upgrades.UpgradeFault.{UpgradeFault}
use Rattle.header_chain.specs.declared.upgrades.UpgradeFault.TheVariants as fault

-- ---- what bytes ask for

-- an upgrade after which no byte is left
abbrev pub if_complete : LedgerUpgrade → List ℕ → Option LedgerUpgrade
if_complete asked [] = Some asked
if_complete asked (byte ∷ rest) = None

abbrev pub read_complete : Reading XdrFault LedgerUpgrade → Option LedgerUpgrade
read_complete (Ok x) = if_complete x.0 x.1.rest
read_complete (Err wrong) = None

-- the upgrade that bytes encode, if they encode one and no more
abbrev pub upgrade_in : List ℕ → Option LedgerUpgrade
upgrade_in bytes = read_complete (ledger_upgrade.read (start_of bytes))

-- ---- bad upgrades

-- LedgerUpgradeType in Stellar-ledger.x
abbrev pub type_of : LedgerUpgrade → ℕ
type_of (upgrade.Version n) = 1
type_of (upgrade.BaseFee n) = 2
type_of (upgrade.MaxTxSetSize n) = 3
type_of (upgrade.BaseReserve n) = 4
type_of (upgrade.Flags n) = 5

-- a fee or a reserve of 0, or an unknown flag
abbrev pub is_bad_value : LedgerUpgrade → Bool
is_bad_value (upgrade.BaseFee n) = nat_eq n 0
is_bad_value (upgrade.BaseReserve n) = nat_eq n 0
is_bad_value (upgrade.Flags n) = nat_lt 7 n
is_bad_value other = false

-- the type of what was asked for, 0 where that can't be determined
abbrev pub type_at : Option (Option LedgerUpgrade) → ℕ
type_at (Some (Some asked)) = type_of asked
type_at other = 0

-- bytes that encode no upgrade, a type that isn't above the one before, or a value that nothing may have
abbrev pub is_bad_after : (before : ℕ) → Option (Option LedgerUpgrade) → Bool
is_bad_after before None = false
is_bad_after before (Some None) = true
is_bad_after before (Some (Some asked)) = nat_le (type_of asked) before || is_bad_value asked

-- the type of the upgrade before an index
abbrev pub type_before : List (Option LedgerUpgrade) → ℕ → ℕ
type_before asked zero = 0
type_before asked (suc i) = type_at (slice_get asked i)

abbrev pub is_bad_at : List (Option LedgerUpgrade) → ℕ → Bool
is_bad_at asked i = is_bad_after (type_before asked i) (slice_get asked i)

-- ---- upgrades that aren't made here

-- a version, but for 19 where the header's is 18, or a greater reserve than the header's
abbrev pub is_out_of_profile : LedgerHeader → Option (Option LedgerUpgrade) → Bool
is_out_of_profile header (Some (Some (upgrade.Version n))) =
    not (nat_eq header.ledger_version 18) || not (nat_eq n 19)
is_out_of_profile header (Some (Some (upgrade.BaseReserve n))) = nat_lt header.base_reserve n
is_out_of_profile header other = false

-- ---- the upgraded header

abbrev pub upgraded : LedgerHeader → LedgerUpgrade → LedgerHeader
upgraded header (upgrade.Version n) = record header { ledger_version = n }
upgraded header (upgrade.BaseFee n) = record header { base_fee = n }
upgraded header (upgrade.MaxTxSetSize n) = record header { max_tx_set_size = n }
upgraded header (upgrade.BaseReserve n) = record header { base_reserve = n }
upgraded header (upgrade.Flags n) = record header { ext = Some (record { flags = n }) }

abbrev pub upgraded_if : LedgerHeader → Option LedgerUpgrade → LedgerHeader
upgraded_if header None = header
upgraded_if header (Some asked) = upgraded header asked

-- all of them, in their order
abbrev pub all_upgraded : LedgerHeader → List (Option LedgerUpgrade) → LedgerHeader
all_upgraded header asked = fold upgraded_if header asked

-- ---- what a call answers

-- the first index of a list at which something is so
abbrev pub first_index : {X : Type 0} → (ℕ → Bool) → List X → Option ℕ
first_index p xs = find p (range_with_len 0 (length xs))

-- A bad upgrade is reported before one that isn't made here. A header that isn't upgraded stays.
abbrev pub IsUpgraded : List (Option LedgerUpgrade) → (old new : LedgerHeader) → Result (Unit {0}) UpgradeFault
    → Type 0
IsUpgraded asked old new (Ok done) =
    (first_index (is_bad_at asked) asked ≡ None)
    × (first_index (λ i. is_out_of_profile old (slice_get asked i)) asked ≡ None) × (new ≡ all_upgraded old asked)
IsUpgraded asked old new (Err (fault.Bad index)) = (first_index (is_bad_at asked) asked ≡ Some index) × (new ≡ old)
IsUpgraded asked old new (Err (fault.OutOfProfile index)) =
    (first_index (is_bad_at asked) asked ≡ None)
    × (first_index (λ i. is_out_of_profile old (slice_get asked i)) asked ≡ Some index) × (new ≡ old)
