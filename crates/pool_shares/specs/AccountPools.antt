-- The pools of which an account has shares (CAP-0038).
use Rattle.std.specs.Prelude.{List, Option, Some, None, if◌then◌else◌}
use Rattle.std.specs.List.{filter_map}
use Rattle.std.specs.FinMap.{values}
use Rattle.ledger_types.specs.declared.ids.AccountId.{AccountId}
use Rattle.ledger_types.specs.declared.ids.Hash.{Hash}
use Rattle.ledger_types.specs.declared.asset.TrustLineAsset.{TrustLineAsset}
use Rattle.ledger_types.specs.declared.asset.TrustLineAsset.TheVariants as line
use Rattle.ledger_types.specs.declared.entry.LedgerEntryBody.{LedgerEntryBody}
use Rattle.ledger_types.specs.declared.entry.LedgerEntryBody.TheVariants as body
use Rattle.entry_map.specs.EntryMap.{EntryMap}
use Rattle.sponsor_rules.specs.Payers.{is_same_account}

-- the pool whose shares a line is in
abbrev pub pool_in_line : TrustLineAsset → Option Hash
pool_in_line (line.PoolShare pool) = Some pool
pool_in_line other = None

-- the pool of whose shares an entry is the account's line
abbrev pub pool_held_by : AccountId → LedgerEntryBody → Option Hash
pool_held_by id (body.TrustLine line) =
    if is_same_account line.account_id id then pool_in_line line.asset else None
pool_held_by id other = None

-- the pools of which an account has lines, in rising order of their ids, as keys are ordered
unfoldable pub pools_held_by : AccountId → EntryMap → List Hash
pools_held_by id m = filter_map (λ e. pool_held_by id e.body) (values m)
