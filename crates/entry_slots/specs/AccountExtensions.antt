-- What accounts' extensions say (CAP-0003, CAP-0033, CAP-0021). What isn't there reads as zeros and none.
use Rattle.std.specs.Prelude.{ℕ, ℤ, pos, int_lt, Bool, ◌&&◌, List, map, Option, Some, None, if◌then◌else◌}
use Rattle.std.specs.List.{slice_get}
use Rattle.std.specs.Option.{option_and_then}
use Rattle.std.specs.Ordering.{int_eq}
use Rattle.entry_map.specs.ledger_types.declared.ids.AccountId.{AccountId}
use Rattle.entry_map.specs.ledger_types.declared.price.Liabilities.{Liabilities}
use Rattle.entry_map.specs.ledger_types.declared.signer.Signer.{Signer}
use Rattle.entry_map.specs.ledger_types.declared.account.AccountEntry.{AccountEntry}
use Rattle.entry_map.specs.ledger_types.declared.account.AccountEntryExtensionV1.{AccountEntryExtensionV1}
use Rattle.entry_map.specs.ledger_types.declared.account.AccountEntryExtensionV2.{AccountEntryExtensionV2}
use Rattle.entry_map.specs.ledger_types.declared.account.AccountEntryExtensionV3.{AccountEntryExtensionV3}

-- ---- liabilities

abbrev pub no_liabilities : Liabilities
no_liabilities = record { buying = pos 0; selling = pos 0 }

abbrev pub is_nothing : Liabilities → Bool
is_nothing liabilities = int_eq liabilities.buying (pos 0) && int_eq liabilities.selling (pos 0)

abbrev pub liabilities_in : Option AccountEntryExtensionV1 → Liabilities
liabilities_in None = no_liabilities
liabilities_in (Some ext) = ext.liabilities

-- what the account's offers would take and give
abbrev pub account_liabilities : AccountEntry → Liabilities
account_liabilities account = liabilities_in account.ext

abbrev pub with_liabilities_in : Liabilities → Option AccountEntryExtensionV1 → Option AccountEntryExtensionV1
with_liabilities_in liabilities None =
    if is_nothing liabilities then None else Some (record { liabilities = liabilities; ext = None })
with_liabilities_in liabilities (Some ext) = Some (record ext { liabilities = liabilities })

-- An account with other liabilities. The extension is added for liabilities that aren't 0, and never dropped.
abbrev pub with_account_liabilities : Liabilities → AccountEntry → AccountEntry
with_account_liabilities liabilities account = record account { ext = with_liabilities_in liabilities account.ext }

-- ---- sponsorship

abbrev pub second_in : Option AccountEntryExtensionV1 → Option AccountEntryExtensionV2
second_in None = None
second_in (Some ext) = ext.ext

-- when the sequence number was last set, where that is recorded (CAP-0021)
abbrev pub third_in : Option AccountEntryExtensionV2 → Option AccountEntryExtensionV3
third_in None = None
third_in (Some ext) = ext.ext

abbrev pub sponsoring_in : Option AccountEntryExtensionV2 → ℕ
sponsoring_in None = 0
sponsoring_in (Some ext) = ext.num_sponsoring

abbrev pub sponsored_in : Option AccountEntryExtensionV2 → ℕ
sponsored_in None = 0
sponsored_in (Some ext) = ext.num_sponsored

-- how many reserves an account pays as a sponsor, of claimable balances that it makes too
abbrev pub num_sponsoring : AccountEntry → ℕ
num_sponsoring account = sponsoring_in (second_in account.ext)

-- how many reserves of an account others pay
abbrev pub num_sponsored : AccountEntry → ℕ
num_sponsored account = sponsored_in (second_in account.ext)

abbrev pub seq_ledger_in : Option AccountEntryExtensionV3 → ℕ
seq_ledger_in None = 0
seq_ledger_in (Some ext) = ext.seq_ledger

abbrev pub seq_time_in : Option AccountEntryExtensionV3 → ℕ
seq_time_in None = 0
seq_time_in (Some ext) = ext.seq_time

-- the ledger in which the sequence number was last set, or 0 where that isn't recorded
abbrev pub seq_ledger : AccountEntry → ℕ
seq_ledger account = seq_ledger_in (third_in (second_in account.ext))

-- the close time of that ledger
abbrev pub seq_time : AccountEntry → ℕ
seq_time account = seq_time_in (third_in (second_in account.ext))

-- who pays the reserve of the signer at an index, if somebody does
abbrev pub signer_sponsor : AccountEntry → ℕ → Option AccountId
signer_sponsor account index =
    option_and_then (λ ext. option_and_then (λ sponsor. sponsor) (slice_get ext.signer_sponsoring_ids index))
    (second_in account.ext)

-- zeros, and no sponsor of any signer, where there is no extension
abbrev pub sponsorship_in : List Signer → Option AccountEntryExtensionV2 → AccountEntryExtensionV2
sponsorship_in signers None =
    record { num_sponsored = 0; num_sponsoring = 0; signer_sponsoring_ids = map (λ signer. None) signers; ext = None }
sponsorship_in signers (Some ext) = ext

-- what an account says of sponsorship
abbrev pub sponsorship_of : AccountEntry → AccountEntryExtensionV2
sponsorship_of account = sponsorship_in account.signers (second_in account.ext)

-- An account that says something else of sponsorship. Both extensions are added, so it is for what isn't zeros alone.
abbrev pub with_sponsorship : AccountEntryExtensionV2 → AccountEntry → AccountEntry
with_sponsorship sponsorship account =
    record account { ext = Some (record { liabilities = account_liabilities account; ext = Some sponsorship }) }

-- ---- sequence numbers

-- An account with extension V3, where one is given. The extensions below it are added, and what stands in them stays.
abbrev pub with_extension_v3 : Option AccountEntryExtensionV3 → AccountEntry → AccountEntry
with_extension_v3 None account = account
with_extension_v3 (Some ext) account = with_sponsorship (record (sponsorship_of account) { ext = Some ext }) account

-- an account whose sequence number is set to n, with the extension V3 that a ledger of its version gives it
abbrev pub with_seq_num : (n : ℤ) → Option AccountEntryExtensionV3 → AccountEntry → AccountEntry
with_seq_num n ext account = with_extension_v3 ext (record account { seq_num = n })

-- an account whose sequence number is set to n, or to what it is where that is greater
abbrev pub with_seq_num_from : (n : ℤ) → Option AccountEntryExtensionV3 → AccountEntry → AccountEntry
with_seq_num_from n ext account = with_seq_num (if int_lt account.seq_num n then n else account.seq_num) ext account
