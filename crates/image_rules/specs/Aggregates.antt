-- The aggregates of accounts, of lines and of pools.
use Rattle.std.specs.Prelude.{◌≡◌, ◌↔◌, ℕ, Bool, IsTrue, ℤ, pos, ◌+ℤ◌, Option, Some, None}
use Rattle.ledger_types.specs.declared.ids.AccountId.{AccountId}
use Rattle.ledger_types.specs.declared.entry.LedgerEntry.{LedgerEntry}
use Rattle.ledger_types.specs.declared.entry.LedgerEntryBody.{LedgerEntryBody}
use Rattle.ledger_types.specs.declared.entry.LedgerEntryBody.TheVariants as body
use Rattle.ledger_types.specs.declared.key.LedgerKey.{LedgerKey}
use Rattle.ledger_types.specs.declared.key.LedgerKey.TheVariants as key
use Rattle.entry_map.specs.EntryMap.{EntryMap}
use Rattle.entry_slots.specs.EntrySponsor.{sponsor_of}
use Rattle.close_rules.specs.entry_sums.Sums.{Weight, total}
use Rattle.sponsor_rules.specs.Charge.{multiplicity, owner_of}
use Rattle.close_rules.specs.legal_rules.EntryKeys.{for_account}
use Rattle.close_rules.specs.legal_rules.Reserves.{subentries_in, signer_sponsors_in, sponsored_in_entry, for_each}
use Rattle.close_rules.specs.legal_rules.Trades.{sells, buys}
use Rattle.close_rules.specs.legal_rules.PoolShares.{Pools, shares_in, share_lines, uses}
use Rattle.close_rules.specs.legal_rules.Legal.{pools_in}
use Rattle.close_rules.specs.legal_rules.Aggregates.{Kind, Subentries, Sponsoring, Sponsored, Selling, Buying, Shares}
use Rattle.close_rules.specs.legal_rules.Aggregates.{ShareLines, Uses}
use Rattle.close_rules.specs.legal_rules.Aggregates.{stated}
use Rattle.image_rules.specs.declared.aggregates.Aggregate.{Aggregate}
use Rattle.image_rules.specs.declared.aggregates.Aggregate.TheVariants as aggregate
use Rattle.image_rules.specs.Counts.{CountMap, count_at, IsCountOf}

abbrev pub kind_of : Aggregate → Kind
kind_of aggregate.Subentries = Subentries
kind_of aggregate.Sponsoring = Sponsoring
kind_of aggregate.Sponsored = Sponsored
kind_of aggregate.Selling = Selling
kind_of aggregate.Buying = Buying
kind_of aggregate.Shares = Shares
kind_of aggregate.ShareLines = ShareLines
kind_of aggregate.Uses = Uses

-- ---- what an entry counts for itself, and what it counts for others

-- the account that an entry is
abbrev pub itself : LedgerEntryBody → Option AccountId
itself (body.Account a) = Some a.account_id
itself other = None

-- the owner of what isn't an account
abbrev pub other_owner : LedgerEntryBody → Option AccountId
other_owner (body.Account a) = None
other_owner other = owner_of other

-- how much an account counts in an aggregate of which it is the owner itself
abbrev pub own_count : Aggregate → LedgerEntry → ℕ
own_count aggregate.Subentries e = subentries_in e.body
own_count aggregate.Sponsored e = sponsored_in_entry e
own_count other e = 0

abbrev pub counted_itself : Aggregate → LedgerKey → Weight
counted_itself which k e = for_account k (itself e.body) (own_count which e)

-- what the sponsors in an entry pay
abbrev pub payers_pay : LedgerKey → Weight
payers_pay k e = for_account k (sponsor_of e) (multiplicity e.body) +ℤ for_each k (signer_sponsors_in e.body)

-- what others pay for the owner of an entry that isn't the owner itself
abbrev pub owner_is_paid : LedgerKey → Weight
owner_is_paid k e = for_account k (other_owner e.body) (sponsored_in_entry e)

abbrev pub counted_else : Pools → Aggregate → LedgerKey → Weight
counted_else pools aggregate.Subentries k e = for_account k (other_owner e.body) (subentries_in e.body)
counted_else pools aggregate.Sponsoring k e = payers_pay k e
counted_else pools aggregate.Sponsored k e = owner_is_paid k e
counted_else pools aggregate.Selling k e = sells k e.body
counted_else pools aggregate.Buying k e = buys k e.body
counted_else pools aggregate.Shares k e = shares_in k e.body
counted_else pools aggregate.ShareLines k e = share_lines k e.body
counted_else pools aggregate.Uses k e = uses pools k e.body

-- what all entries count for others, for each key
abbrev pub AreCounts : Aggregate → EntryMap → CountMap → Type 0
AreCounts which m counts =
    (k : LedgerKey) → IsCountOf (count_at counts k) (total (counted_else (pools_in m) which k) m)

-- whether an account states the sum that is counted for it by itself and by others, and a line or a pool what is
-- counted for it by others; what is none of them has no say
abbrev pub AgreesIn : CountMap → Aggregate → ℕ → LedgerEntryBody → Bool → Type 0
AgreesIn counts which own (body.Account a) answer =
    (sum : ℤ) → IsCountOf (count_at counts (key.Account a.account_id)) sum
    → (IsTrue answer ↔ (stated (kind_of which) (body.Account a) ≡ (sum +ℤ pos own)))
AgreesIn counts which own (body.TrustLine t) answer =
    (sum : ℤ) → IsCountOf (count_at counts (key.TrustLine t.account_id t.asset)) sum
    → (IsTrue answer ↔ (stated (kind_of which) (body.TrustLine t) ≡ sum))
AgreesIn counts which own (body.LiquidityPool pool) answer =
    (sum : ℤ) → IsCountOf (count_at counts (key.LiquidityPool pool.pool_id)) sum
    → (IsTrue answer ↔ (stated (kind_of which) (body.LiquidityPool pool) ≡ sum))
AgreesIn counts which own other answer = IsTrue answer

abbrev pub Agrees : CountMap → Aggregate → LedgerEntry → Bool → Type 0
Agrees counts which e answer = AgreesIn counts which (own_count which e) e.body answer
