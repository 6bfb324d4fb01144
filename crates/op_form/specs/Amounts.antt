-- Amounts of any asset that an account gives and takes. An issuer has as much as it likes of what it issues, and keeps
-- none (addBalance and availableLimit of TrustLineWrapper in stellar-core; CAP-0003, CAP-0018).
use Rattle.std.specs.Prelude.{ℤ, ◌+ℤ◌, ◌-ℤ◌, not, int_lt, ◌∷◌, [], Option, Some, None, Result, Ok, Err, if◌then◌else◌}
use Rattle.std.specs.Option.{ok_or}
use Rattle.ledger_types.specs.declared.ids.AccountId.{AccountId}
use Rattle.ledger_types.specs.declared.asset.Asset.{Asset}
use Rattle.ledger_types.specs.declared.asset.Asset.TheVariants as asset
use Rattle.ledger_types.specs.declared.asset.TrustLineAsset.{TrustLineAsset}
use Rattle.ledger_types.specs.declared.trust_line.TrustLineEntry.{TrustLineEntry}
use Rattle.entry_map.specs.EntryMap.{EntryMap}
use Rattle.entry_slots.specs.Lines.{line_at, with_line}
use Rattle.entry_slots.specs.Tests.{Tests, unless_first}
use Rattle.reserve_rules.specs.Reserve.{line_available, line_room}
use Rattle.sponsor_rules.specs.declared.context.Ctx.{Ctx}
use Rattle.op_form.specs.declared.amounts.DebitFault.{DebitFault}
use Rattle.op_form.specs.declared.amounts.DebitFault.TheVariants as debit
use Rattle.op_form.specs.declared.amounts.CreditFault.{CreditFault}
use Rattle.op_form.specs.declared.amounts.CreditFault.TheVariants as credit
use Rattle.op_form.specs.Assets.{is_issued_by, line_asset_of}
use Rattle.op_form.specs.Flags.{is_authorized}
use Rattle.op_form.specs.Lumens.{map_after_lumens_debit, map_after_lumens_credit}

-- ---- giving

-- a line with an amount less
abbrev pub with_less : ℤ → TrustLineEntry → TrustLineEntry
with_less amount line = record line { balance = line.balance -ℤ amount }

abbrev pub line_debit_tests : ℤ → TrustLineEntry → Tests DebitFault
line_debit_tests amount line =
    (not (is_authorized line), debit.NotAuthorized) ∷ (int_lt (line_available line) amount, debit.Short) ∷ []

abbrev pub map_after_line_debit_of : AccountId → TrustLineAsset → ℤ → EntryMap → Option TrustLineEntry
    → Result EntryMap DebitFault
map_after_line_debit_of id held amount m None = Err debit.NoLine
map_after_line_debit_of id held amount m (Some line) =
    unless_first (line_debit_tests amount line) (with_line m id held (with_less amount))

-- the map after an account gives an amount from its line
abbrev pub map_after_line_debit : AccountId → TrustLineAsset → ℤ → EntryMap → Result EntryMap DebitFault
map_after_line_debit id held amount m = map_after_line_debit_of id held amount m (line_at m id held)

abbrev pub map_after_issued_debit : AccountId → Asset → ℤ → EntryMap → Result EntryMap DebitFault
map_after_issued_debit id held amount m =
    if is_issued_by held id then Ok m else map_after_line_debit id (line_asset_of held) amount m

-- The map after an account gives an amount of an asset, or why it can't. Of lumens only too little can be available.
abbrev pub map_after_debit : Ctx → AccountId → Asset → ℤ → EntryMap → Result EntryMap DebitFault
map_after_debit ctx id asset.Native amount m = ok_or (map_after_lumens_debit ctx id amount m) debit.Short
map_after_debit ctx id issued amount m = map_after_issued_debit id issued amount m

-- ---- taking

-- a line with an amount more
abbrev pub with_more : ℤ → TrustLineEntry → TrustLineEntry
with_more amount line = record line { balance = line.balance +ℤ amount }

abbrev pub line_credit_tests : ℤ → TrustLineEntry → Tests CreditFault
line_credit_tests amount line =
    (not (is_authorized line), credit.NotAuthorized) ∷ (int_lt (line_room line) amount, credit.Full) ∷ []

abbrev pub map_after_line_credit_of : AccountId → TrustLineAsset → ℤ → EntryMap → Option TrustLineEntry
    → Result EntryMap CreditFault
map_after_line_credit_of id held amount m None = Err credit.NoLine
map_after_line_credit_of id held amount m (Some line) =
    unless_first (line_credit_tests amount line) (with_line m id held (with_more amount))

-- the map after an account takes an amount into its line
abbrev pub map_after_line_credit : AccountId → TrustLineAsset → ℤ → EntryMap → Result EntryMap CreditFault
map_after_line_credit id held amount m = map_after_line_credit_of id held amount m (line_at m id held)

abbrev pub map_after_issued_credit : AccountId → Asset → ℤ → EntryMap → Result EntryMap CreditFault
map_after_issued_credit id held amount m =
    if is_issued_by held id then Ok m else map_after_line_credit id (line_asset_of held) amount m

-- The map after an account takes an amount of an asset, or why it can't. Of lumens only the room can be too little.
abbrev pub map_after_credit : AccountId → Asset → ℤ → EntryMap → Result EntryMap CreditFault
map_after_credit id asset.Native amount m = ok_or (map_after_lumens_credit id amount m) credit.Full
map_after_credit id issued amount m = map_after_issued_credit id issued amount m
