-- Lumens that an account gives and takes (addBalance and getAvailableBalance in stellar-core; CAP-0003).
use Rattle.std.specs.Prelude.{◌≡◌, ℤ, ◌+ℤ◌, ◌-ℤ◌, Bool, true, false, Option, Some, None, if◌then◌else◌}
use Rattle.std.specs.Ordering.{is_lt, int_cmp}
use Rattle.ledger_types.specs.declared.ids.AccountId.{AccountId}
use Rattle.ledger_types.specs.declared.account.AccountEntry.{AccountEntry}
use Rattle.entry_map.specs.EntryMap.{EntryMap}
use Rattle.entry_map.specs.Undo.{Undo, with_current}
use Rattle.entry_slots.specs.Accounts.{account_at, with_account}
use Rattle.reserve_rules.specs.Reserve.{available, room}
use Rattle.sponsor_rules.specs.declared.context.Ctx.{Ctx}

-- ---- giving

-- an account with an amount less
abbrev pub with_less_lumens : ℤ → AccountEntry → AccountEntry
with_less_lumens amount account = record account { balance = account.balance -ℤ amount }

abbrev pub map_after_lumens_debit_of : Ctx → AccountId → ℤ → EntryMap → Option AccountEntry → Option EntryMap
map_after_lumens_debit_of ctx id amount m None = None
map_after_lumens_debit_of ctx id amount m (Some account) =
    if is_lt (int_cmp (available account ctx.base_reserve) amount) then None
    else Some (with_account m id (with_less_lumens amount))

-- the map after an account gives an amount; none where less is available
abbrev pub map_after_lumens_debit : Ctx → AccountId → ℤ → EntryMap → Option EntryMap
map_after_lumens_debit ctx id amount m = map_after_lumens_debit_of ctx id amount m (account_at m id)

-- ---- taking

-- an account with an amount more
abbrev pub with_more_lumens : ℤ → AccountEntry → AccountEntry
with_more_lumens amount account = record account { balance = account.balance +ℤ amount }

abbrev pub map_after_lumens_credit_of : AccountId → ℤ → EntryMap → Option AccountEntry → Option EntryMap
map_after_lumens_credit_of id amount m None = None
map_after_lumens_credit_of id amount m (Some account) =
    if is_lt (int_cmp (room account) amount) then None else Some (with_account m id (with_more_lumens amount))

-- the map after an account takes an amount; none where it has less room
abbrev pub map_after_lumens_credit : AccountId → ℤ → EntryMap → Option EntryMap
map_after_lumens_credit id amount m = map_after_lumens_credit_of id amount m (account_at m id)

-- ---- calls

-- the call made the change and answered true, or there is none, and it answered false and left the map
abbrev pub Gives : Bool → Undo → Undo → Option EntryMap → Type 0
Gives true old new change = (change ≡ Some new.current) × (new ≡ with_current old new.current)
Gives false old new change = (change ≡ None) × (new ≡ old)
