-- What holds before and after each operation of a transaction.
use Rattle.std.specs.Prelude.{◌≡◌, ℕ, ◌+◌, ◌<◌, ◌≤◌, ◌+ℤ◌, List}
use Rattle.op_flags.specs.ledger_types.declared.asset.Asset.{Asset}
use Rattle.op_flags.specs.entry_map.EntryMap.{EntryMap}
use Rattle.op_flags.specs.entry_sums.Sums.{total}
use Rattle.op_flags.specs.sponsor_rules.declared.context.Ctx.{Ctx}
use Rattle.op_flags.specs.legal_rules.Owing.{AreEntriesLegal}
use Rattle.op_flags.specs.legal_rules.Sponsorships.{AreSponsorshipsSound}
use Rattle.op_flags.specs.legal_rules.Supply.{held}
use Rattle.op_flags.specs.op_form.Sequences.{last_seq}
use Rattle.op_flags.specs.op_form.Done.{Move}
use Rattle.op_laws.specs.Moves.{issued, AreDescribed}

-- what holds of the entries between two transactions, when so many ids are drawn
pub record IsSettled (id_pool : ℕ) (m : EntryMap) : Type 0 where
  pub legal : AreEntriesLegal id_pool m

-- what a part of a transaction leaves: settled entries, whose supply of each asset, and what each holder has of it,
-- these moves changed
pub record LeavesSettled (id_pool : ℕ) (old new : EntryMap) (moves : List Move) : Type 0 where
  pub settled : IsSettled id_pool new
  pub supply : (x : Asset) → total (held x) new ≡ total (held x) old +ℤ issued x moves
  pub described : AreDescribed old new moves

-- what holds before every operation of a transaction
pub record IsUnderway (ctx : Ctx) (m : EntryMap) : Type 0 where
  pub settled : IsSettled ctx.id_pool m
  pub sponsorships : AreSponsorshipsSound ctx m
  -- a ledger can close above the header's
  pub seq : ctx.seq < last_seq

-- at most so many ids were drawn
pub record AreDrawn (count was now : ℕ) : Type 0 where
  pub low : was ≤ now
  pub high : now ≤ was + count

-- the terms that all operations of a transaction share
pub record KeepsTerms (was ctx : Ctx) : Type 0 where
  pub seq : ctx.seq ≡ was.seq
  pub version : ctx.version ≡ was.version
  pub base_reserve : ctx.base_reserve ≡ was.base_reserve
  pub flags : ctx.flags ≡ was.flags
  pub close_time : ctx.close_time ≡ was.close_time
  pub tx_source : ctx.tx_source ≡ was.tx_source
  pub tx_seq : ctx.tx_seq ≡ was.tx_seq
