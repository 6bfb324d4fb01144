-- What of an account has a fixed width.
use Rattle.std.specs.Prelude.{Option, Some, None}
use Rattle.entry_map.specs.ledger_types.declared.ids.AccountId.{AccountId}
use Rattle.entry_map.specs.ledger_types.declared.account.AccountEntry.{AccountEntry}
use Rattle.entry_map.specs.EntryMap.{EntryMap}
use Rattle.entry_slots.specs.AccountExtensions.{account_liabilities, num_sponsored, num_sponsoring, seq_ledger}
use Rattle.entry_slots.specs.AccountExtensions.{seq_time}
use Rattle.entry_slots.specs.Accounts.{account_at}
use Rattle.entry_slots.specs.declared.account_facts.AccountFacts.{AccountFacts}

abbrev pub facts_of : AccountEntry → AccountFacts
facts_of account = record {
  balance = account.balance;
  seq_num = account.seq_num;
  num_sub_entries = account.num_sub_entries;
  flags = account.flags;
  thresholds = account.thresholds;
  liabilities = account_liabilities account;
  num_sponsored = num_sponsored account;
  num_sponsoring = num_sponsoring account;
  seq_ledger = seq_ledger account;
  seq_time = seq_time account;
}

-- the facts of an account, if there is one
abbrev pub facts_in : Option AccountEntry → Option AccountFacts
facts_in None = None
facts_in (Some account) = Some (facts_of account)

-- the facts of the account with this id, if it exists
abbrev pub facts_at : EntryMap → AccountId → Option AccountFacts
facts_at m account_id = facts_in (account_at m account_id)
