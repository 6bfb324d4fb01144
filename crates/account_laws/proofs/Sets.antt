-- A set without ACCOUNT_MERGE keeps each account that existed, and so does a close.
use Rattle.account_laws.proofs.Existing.{existing, keeps_itself}
use Rattle.account_laws.proofs.Operations.{admits}
use Rattle.account_laws.specs.Existing.{ClosesKeepAccounts, DoAccountsExist, SetsKeepAccounts, is_merge}
use Rattle.close_laws.proofs.SetsKeep.{set_keeps}
use Rattle.close_laws.proofs.Unmarked.{AreAlike, AreMapsAlike, next_alike}
use Rattle.close_laws.specs.close_rules.Close.{applied_in, setting_in}
use Rattle.close_laws.specs.entry_map.EntryMap.{EntryMap}
use Rattle.close_laws.specs.entry_slots.Accounts.{account_at, account_in, account_of}
use Rattle.close_laws.specs.ledger_types.declared.account.AccountEntry.{AccountEntry}
use Rattle.close_laws.specs.ledger_types.declared.entry.LedgerEntry.{LedgerEntry}
use Rattle.close_laws.specs.ledger_types.declared.key.LedgerKey.TheVariants as key
use Rattle.std.proofs.Common.{None, Option, Some, ap, false, sym, ◌∙◌, ◌≡◌}
use Rattle.std.specs.FinMap.{get}

-- ---- sets

pub sets_keep_accounts : SetsKeepAccounts
sets_keep_accounts setting set m plain =
    (set_keeps (existing m) (λ of. is_merge of ≡ false) (admits m) setting (λ id_pool entire. tt) set m plain
    (keeps_itself m)).each

-- ---- closes

-- an entry that differs in the ledger of its last change alone is the same account
still_account : (was now : Option LedgerEntry) (account : AccountEntry) → AreAlike was now
    → account_of was ≡ Some account → account_of now ≡ Some account
still_account None None account alike is = is
still_account (Some a) (Some b) account alike is = sym (ap (λ parts. account_in parts.0) alike) ∙ is
still_account None (Some b) account alike is = absurd alike
still_account (Some a) None account alike is = absurd alike

alike_exist : (m after : EntryMap) → AreMapsAlike m after → DoAccountsExist m after
unfolding account_at
alike_exist m after alike id exists =
    let k = key.Account id in
    (exists.0, still_account (get m k) (get after k) exists.0 (alike k) exists.1)

pub closes_keep_accounts : ClosesKeepAccounts
closes_keep_accounts s closing after plain closed id exists =
    let worked = (applied_in s closing).entries in
    alike_exist worked after (next_alike _ s.entries worked after closed) id
    (sets_keep_accounts (setting_in s closing) closing.tx_set s.entries plain id exists)
