-- Runs of one source among transactions that are ordered by source.
use Rattle.std.specs.Prelude.{◌≡◌, ◌≢◌, ℕ, ◌<◌, ◌≤◌, pos, List, [], slice_index_or, if◌then◌else◌}
use Rattle.std.specs.Ordering.{is_eq}
use Rattle.ledger_types.specs.KeyOrder.{account_cmp}
use Rattle.fee_rules.specs.declared.queued.Queued.{Queued}

-- what no index holds
abbrev pub no_tx : Queued
no_tx = record { source = record { 0 = [] }; seq_num = pos 0; full_hash = record { 0 = [] }; index = 0 }

abbrev pub at : List Queued → ℕ → Queued
at txs j = slice_index_or txs j no_tx

-- the indices from start up to i have one source, and those before have another
pub record IsRun (txs : List Queued) (start i : ℕ) : Type 0 where
  pub same : (j : ℕ) → start ≤ j → j < i → (at txs j).source ≡ (at txs start).source
  pub before : (j : ℕ) → j < start → (at txs j).source ≢ (at txs start).source

-- where the run begins that tx at i is in, if the run of the one before it began at start, with first
abbrev pub next_start : (first tx : Queued) → (start i : ℕ) → ℕ
next_start first tx start i = if is_eq (account_cmp first.source tx.source) then start else i
