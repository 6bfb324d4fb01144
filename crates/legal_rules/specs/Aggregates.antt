-- The aggregates of a ledger: numbers that some entries state and that all entries together count. Each is named by
-- what it is of and by the key of the entry that states it.
use Rattle.std.specs.Prelude.{ℤ, pos, ◌+ℤ◌, Option, Some, None}
use Rattle.hash_ids.specs.ledger_types.declared.asset.Asset.{Asset}
use Rattle.hash_ids.specs.ledger_types.declared.entry.LedgerEntry.{LedgerEntry}
use Rattle.hash_ids.specs.ledger_types.declared.entry.LedgerEntryBody.{LedgerEntryBody}
use Rattle.hash_ids.specs.ledger_types.declared.entry.LedgerEntryBody.TheVariants as body
use Rattle.hash_ids.specs.ledger_types.declared.key.LedgerKey.{LedgerKey}
use Rattle.sponsor_laws.specs.entry_slots.AccountExtensions.{account_liabilities, num_sponsoring, num_sponsored}
use Rattle.sponsor_laws.specs.entry_slots.LineExtensions.{line_liabilities, use_count}
use Rattle.sponsor_laws.specs.entry_slots.EntrySponsor.{sponsor_of}
use Rattle.sponsor_laws.specs.sponsor_rules.Charge.{multiplicity, owner_of}
use Rattle.entry_sums.specs.Sums.{Weight}
use Rattle.legal_rules.specs.EntryKeys.{for_account}
use Rattle.legal_rules.specs.Reserves.{subentries_in, signer_sponsors_in, sponsored_in_entry, for_each}
use Rattle.legal_rules.specs.Trades.{sells, buys}
use Rattle.legal_rules.specs.PoolShares.{Pools, shares_in, share_lines, uses}

pub data Kind : Type 0 where
  Subentries : Kind
  Sponsoring : Kind
  Sponsored : Kind
  Selling : Kind
  Buying : Kind
  Shares : Kind
  ShareLines : Kind
  Uses : Kind

-- what sums are taken by: the parameters of each pool that exists, and the asset whose supply is summed
pub record View : Type 0 where
  pub pools : Pools
  pub asset : Asset

-- what an entry counts for the entry under a key
abbrev pub counted : View → Kind → LedgerKey → Weight
counted view Subentries k e = for_account k (owner_of e.body) (subentries_in e.body)
counted view Sponsored k e = for_account k (owner_of e.body) (sponsored_in_entry e)
counted view Sponsoring k e = for_account k (sponsor_of e) (multiplicity e.body) +ℤ
    for_each k (signer_sponsors_in e.body)
counted view Selling k e = sells k e.body
counted view Buying k e = buys k e.body
counted view Shares k e = shares_in k e.body
counted view ShareLines k e = share_lines k e.body
counted view Uses k e = uses view.pools k e.body

-- what an entry states
abbrev pub stated : Kind → LedgerEntryBody → ℤ
stated Subentries (body.Account account) = pos account.num_sub_entries
stated Sponsoring (body.Account account) = pos (num_sponsoring account)
stated Sponsored (body.Account account) = pos (num_sponsored account)
stated Selling (body.Account account) = (account_liabilities account).selling
stated Buying (body.Account account) = (account_liabilities account).buying
stated Selling (body.TrustLine line) = (line_liabilities line).selling
stated Buying (body.TrustLine line) = (line_liabilities line).buying
stated Uses (body.TrustLine line) = use_count line
stated Shares (body.LiquidityPool pool) = pool.total_pool_shares
stated ShareLines (body.LiquidityPool pool) = pool.pool_shares_trust_line_count
stated kind other = pos 0

-- what is under a key states; nothing states 0
abbrev pub stated_at : Kind → Option LedgerEntry → ℤ
stated_at kind None = pos 0
stated_at kind (Some e) = stated kind e.body
