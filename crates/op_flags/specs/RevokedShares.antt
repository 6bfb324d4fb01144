-- Shares of pools that go with an authorisation which is taken back: they are withdrawn, and what they give waits in
-- claimable balances (removeOffersAndPoolShareTrustLines in stellar-core; CAP-0038).
use Rattle.std.specs.Prelude.{ℕ, ◌+◌, zero, suc, pos, Bool, false, is_some, ◌||◌}
use Rattle.std.specs.Prelude.{List, [], ◌∷◌, ◌++◌, Option, Some, None, Result, Ok, if◌then◌else◌}
use Rattle.std.specs.List.{filter}
use Rattle.std.specs.FinMap.{get}
use Rattle.std.specs.Ordering.{is_eq}
use Rattle.ledger_types.specs.declared.ids.AccountId.{AccountId}
use Rattle.ledger_types.specs.declared.ids.ClaimableBalanceId.{ClaimableBalanceId}
use Rattle.ledger_types.specs.declared.ids.Hash.{Hash}
use Rattle.ledger_types.specs.declared.asset.Asset.{Asset}
use Rattle.ledger_types.specs.declared.asset.TrustLineAsset.TheVariants as line
use Rattle.ledger_types.specs.declared.claimable_balance.Claimant.{Claimant}
use Rattle.ledger_types.specs.declared.predicate.ClaimPredicate.TheVariants.{Unconditional}
use Rattle.ledger_types.specs.declared.trust_line.TrustLineEntry.{TrustLineEntry}
use Rattle.ledger_types.specs.declared.liquidity_pool.LiquidityPoolEntry.{LiquidityPoolEntry}
use Rattle.ledger_types.specs.declared.entry.LedgerEntry.{LedgerEntry}
use Rattle.ledger_types.specs.declared.entry.LedgerEntryBody.TheVariants as body
use Rattle.ledger_types.specs.declared.key.LedgerKey.TheVariants as key
use Rattle.ledger_types.specs.KeyOrder.{asset_cmp}
use Rattle.op_types.specs.declared.operation_result.OperationResult.{OperationResult}
use Rattle.op_types.specs.declared.operation_result.OperationResult.TheVariants.{NotSupported}
use Rattle.hash_ids.specs.Ids.{revoke_id_of}
use Rattle.entry_map.specs.EntryMap.{EntryMap}
use Rattle.entry_slots.specs.Balances.{balance_at}
use Rattle.entry_slots.specs.EntrySponsor.{sponsor_of}
use Rattle.entry_slots.specs.Lines.{line_at}
use Rattle.entry_slots.specs.Pools.{pool_at}
use Rattle.sponsor_rules.specs.declared.context.Ctx.{Ctx}
use Rattle.sponsor_rules.specs.Adding.{map_after_adding}
use Rattle.sponsor_rules.specs.Payers.{payer_by}
use Rattle.op_form.specs.Done.{Holder, Move, OfAccount, OfBalance, OfPool}
use Rattle.op_form.specs.Assets.{is_issued_by, line_of_asset}
use Rattle.op_form.specs.Flags.{is_clawback_line, flagged_ext}
use Rattle.op_form.specs.Steps.{after, after_charge, unless_refused}
use Rattle.pool_shares.specs.AccountPools.{pools_held_by}
use Rattle.pool_shares.specs.ShareLines.{map_without_share_line}
use Rattle.pool_shares.specs.Withdrawing.{Part, part_of, map_after_withdrawing}

-- the entries after a step, and what it moved
pub record Revoked : Type 0 where
  pub entries : EntryMap
  pub moves : List Move

-- a step and then the next one, which moves more
abbrev pub and_then : Revoked → Result Revoked OperationResult → Result Revoked OperationResult
and_then first next =
    after next (λ second. Ok (record { entries = second.entries; moves = first.moves ++ second.moves }))

-- ---- what an amount becomes

-- what a pool's shares gave: the account whose they were, the pool, one of its assets and how much of it
pub record Given : Type 0 where
  pub trustor : AccountId
  pub pool : Hash
  pub asset : Asset
  pub amount : ℕ
  -- who pays the balance's reserve: who paid the line's
  pub payer : AccountId

abbrev pub revoked_id : Ctx → Given → ClaimableBalanceId
revoked_id ctx given = record { 0 = revoke_id_of ctx.tx_source ctx.tx_seq ctx.op_index given.pool given.asset }

-- the account alone, at once
abbrev pub sole_claimant : AccountId → List Claimant
sole_claimant trustor = record { destination = trustor; predicate = Unconditional } ∷ []

-- a balance for the account alone, which can be clawed back where its line in the asset can be
abbrev pub revoked_balance : Ctx → Given → EntryMap → LedgerEntry
revoked_balance ctx given m = record {
  last_modified_ledger_seq = ctx.seq + 1;
  body = body.ClaimableBalance (record {
    balance_id = revoked_id ctx given;
    claimants = sole_claimant given.trustor;
    asset = given.asset;
    amount = pos given.amount;
    ext = flagged_ext (is_clawback_line (line_of_asset m given.trustor given.asset));
  });
  ext = None;
}

abbrev pub move_to : Given → Holder → Move
move_to given holder = record { from = OfPool given.pool; to = holder; asset = given.asset; amount = pos given.amount }

-- no sponsorship that is open pays
abbrev pub alone : Ctx → Ctx
alone ctx = record ctx { sponsorships = [] }

-- `low` is the operation's own result for a reserve that can't be paid
abbrev pub balance_put : Ctx → (low : OperationResult) → Given → EntryMap → Result Revoked OperationResult
balance_put ctx low given m =
    after_charge (map_after_adding (alone ctx) given.payer (revoked_balance ctx given m) m) low
    (λ with_new. Ok (record { entries = with_new; moves = move_to given (OfBalance (revoked_id ctx given)) ∷ [] }))

-- no balance has the id yet
abbrev pub balance_added : Ctx → (low : OperationResult) → Given → EntryMap → Result Revoked OperationResult
balance_added ctx low given m =
    unless_refused ((is_some (balance_at m (revoked_id ctx given)), NotSupported) ∷ []) (balance_put ctx low given m)

-- An issuer keeps none of what it issues.
abbrev pub some_left : Ctx → (low : OperationResult) → Given → EntryMap → Result Revoked OperationResult
some_left ctx low given m =
    if is_issued_by given.asset given.trustor
    then Ok (record { entries = m; moves = move_to given (OfAccount given.trustor) ∷ [] })
    else balance_added ctx low given m

abbrev pub left_by : Ctx → (low : OperationResult) → Given → EntryMap → (amount : ℕ) → Result Revoked OperationResult
left_by ctx low given m zero = Ok (record { entries = m; moves = [] })
left_by ctx low given m (suc n) = some_left ctx low given m

abbrev pub left : Ctx → (low : OperationResult) → Given → EntryMap → Result Revoked OperationResult
left ctx low given m = left_by ctx low given m given.amount

-- ---- one pool

abbrev pub sponsor_at : Option LedgerEntry → Option AccountId
sponsor_at None = None
sponsor_at (Some entry) = sponsor_of entry

-- who paid the reserve of an account's line of a pool's shares
abbrev pub payer_of_share : AccountId → Hash → EntryMap → AccountId
payer_of_share id pool m = payer_by id (sponsor_at (get m (key.TrustLine id (line.PoolShare pool))))

abbrev pub given_of : AccountId → Hash → (payer : AccountId) → Asset → ℕ → Given
given_of trustor pool payer held amount =
    record { trustor = trustor; pool = pool; asset = held; amount = amount; payer = payer }

-- the shares go back, and their line goes
abbrev pub map_without_shares : AccountId → Hash → LiquidityPoolEntry → TrustLineEntry → Part → EntryMap → EntryMap
map_without_shares trustor id pool share part m =
    map_without_share_line trustor id pool.params (map_after_withdrawing trustor id share.balance part m)

-- what the shares give of the first asset is left, and then what they give of the second
abbrev pub both_left : Ctx → (low : OperationResult) → (a b : Given) → EntryMap → Result Revoked OperationResult
both_left ctx low a b m =
    after (left ctx low a m) (λ first. and_then first (left ctx low b first.entries))

abbrev pub share_revoked_by : Ctx → (low : OperationResult) → AccountId → Hash → LiquidityPoolEntry → TrustLineEntry
    → EntryMap → Result Revoked OperationResult
share_revoked_by ctx low trustor id pool share m =
    let part = part_of pool share.balance in
    let payer = payer_of_share trustor id m in
    both_left ctx low (given_of trustor id payer pool.params.asset_a part.a)
    (given_of trustor id payer pool.params.asset_b part.b) (map_without_shares trustor id pool share part m)

abbrev pub share_revoked_of : Ctx → (low : OperationResult) → AccountId → Hash → EntryMap → Option TrustLineEntry
    → Option LiquidityPoolEntry → Result Revoked OperationResult
share_revoked_of ctx low trustor id m (Some share) (Some pool) = share_revoked_by ctx low trustor id pool share m
share_revoked_of ctx low trustor id m share pool = Ok (record { entries = m; moves = [] })

-- an account's line of a pool's shares goes
abbrev pub share_revoked : Ctx → (low : OperationResult) → AccountId → Hash → EntryMap → Result Revoked OperationResult
share_revoked ctx low trustor id m =
    share_revoked_of ctx low trustor id m (line_at m trustor (line.PoolShare id)) (pool_at m id)

-- ---- all pools with the asset

abbrev pub has_asset : Asset → Option LiquidityPoolEntry → Bool
has_asset held None = false
has_asset held (Some pool) =
    is_eq (asset_cmp pool.params.asset_a held) || is_eq (asset_cmp pool.params.asset_b held)

abbrev pub pools_revoked : AccountId → Asset → EntryMap → List Hash
pools_revoked trustor held m = filter (λ id. has_asset held (pool_at m id)) (pools_held_by trustor m)

-- one after the other
abbrev pub all_revoked : Ctx → (low : OperationResult) → AccountId → List Hash → EntryMap
    → Result Revoked OperationResult
all_revoked ctx low trustor [] m = Ok (record { entries = m; moves = [] })
all_revoked ctx low trustor (id ∷ ids) m =
    after (share_revoked ctx low trustor id m)
    (λ first. and_then first (all_revoked ctx low trustor ids first.entries))

-- the account's lines of shares in pools that have the asset go, in rising order of their pools' ids
unfoldable pub shares_revoked : Ctx → (low : OperationResult) → AccountId → Asset → EntryMap
    → Result Revoked OperationResult
shares_revoked ctx low trustor held m = all_revoked ctx low trustor (pools_revoked trustor held m) m
