-- What trust lines' extensions say (CAP-0003, CAP-0038). What isn't there reads as zeros.
use Rattle.std.specs.Prelude.{ℤ, pos, Option, Some, None, if◌then◌else◌}
use Rattle.std.specs.Ordering.{int_eq}
use Rattle.entry_map.specs.ledger_types.declared.price.Liabilities.{Liabilities}
use Rattle.entry_map.specs.ledger_types.declared.trust_line.TrustLineEntry.{TrustLineEntry}
use Rattle.entry_map.specs.ledger_types.declared.trust_line.TrustLineEntryExtensionV1.{TrustLineEntryExtensionV1}
use Rattle.entry_map.specs.ledger_types.declared.trust_line.TrustLineEntryExtensionV2.{TrustLineEntryExtensionV2}
use Rattle.entry_slots.specs.AccountExtensions.{no_liabilities, is_nothing}

-- ---- liabilities

abbrev pub line_liabilities_in : Option TrustLineEntryExtensionV1 → Liabilities
line_liabilities_in None = no_liabilities
line_liabilities_in (Some ext) = ext.liabilities

-- what the account's offers would take and give of the line
abbrev pub line_liabilities : TrustLineEntry → Liabilities
line_liabilities line = line_liabilities_in line.ext

abbrev pub with_line_liabilities_in : Liabilities → Option TrustLineEntryExtensionV1 → Option TrustLineEntryExtensionV1
with_line_liabilities_in liabilities None =
    if is_nothing liabilities then None else Some (record { liabilities = liabilities; ext = None })
with_line_liabilities_in liabilities (Some ext) = Some (record ext { liabilities = liabilities })

-- A line with other liabilities. The extension is added for liabilities that aren't 0, and never dropped.
abbrev pub with_line_liabilities : Liabilities → TrustLineEntry → TrustLineEntry
with_line_liabilities liabilities line = record line { ext = with_line_liabilities_in liabilities line.ext }

-- ---- use counts

abbrev pub line_second_in : Option TrustLineEntryExtensionV1 → Option TrustLineEntryExtensionV2
line_second_in None = None
line_second_in (Some ext) = ext.ext

abbrev pub use_count_in : Option TrustLineEntryExtensionV2 → ℤ
use_count_in None = pos 0
use_count_in (Some ext) = ext.liquidity_pool_use_count

-- how many of the account's pool-share lines are of pools that have the line's asset
abbrev pub use_count : TrustLineEntry → ℤ
use_count line = use_count_in (line_second_in line.ext)

abbrev pub with_use_count_of : ℤ → Option TrustLineEntryExtensionV2 → Option TrustLineEntryExtensionV2
with_use_count_of n None = if int_eq n (pos 0) then None else Some (record { liquidity_pool_use_count = n })
with_use_count_of n (Some ext) = Some (record { liquidity_pool_use_count = n })

abbrev pub with_use_count_in : ℤ → Option TrustLineEntryExtensionV1 → Option TrustLineEntryExtensionV1
with_use_count_in n None =
    if int_eq n (pos 0) then None
    else Some (record { liabilities = no_liabilities; ext = Some (record { liquidity_pool_use_count = n }) })
with_use_count_in n (Some ext) = Some (record ext { ext = with_use_count_of n ext.ext })

-- A line with another use count. Both extensions are added for a count that isn't 0, and never dropped.
abbrev pub with_use_count : ℤ → TrustLineEntry → TrustLineEntry
with_use_count n line = record line { ext = with_use_count_in n line.ext }
