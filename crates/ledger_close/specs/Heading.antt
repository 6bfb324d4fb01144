-- The header after a close.
use Rattle.std.specs.Prelude.{◌≡◌}
use Rattle.ledger_types.specs.declared.header.LedgerHeader.{LedgerHeader}
use Rattle.xdr_header.specs.declared.record.CloseRecord.{CloseRecord}
use Rattle.close_laws.specs.tx_apply.declared.set.SetDone.{SetDone}
use Rattle.close_laws.specs.tx_apply.Set.{fee_pool_after}
use Rattle.close_rules.specs.State.{ClosingState}
use Rattle.close_rules.specs.Close.{applied_in, setting_in}
use Rattle.ledger_close.specs.declared.heading.Given.{Given}

-- a header with what a close gives
abbrev pub filled : Given → LedgerHeader → LedgerHeader
filled given h = record h {
  previous_ledger_hash = given.previous_ledger_hash;
  scp_value = given.scp_value;
  ledger_seq = given.ledger_seq;
  tx_set_result_hash = given.tx_set_result_hash;
  fee_pool = given.fee_pool;
  id_pool = given.id_pool;
}

-- what the set of a record leaves beside the entries
pub record IsDone (s : ClosingState) (closing : CloseRecord) (done : SetDone) : Type 0 where
  pub results : done.results.results ≡ (applied_in s closing).results
  pub fee_pool : done.fee_pool ≡ fee_pool_after (setting_in s closing) closing.tx_set s.entries
  pub id_pool : done.id_pool ≡ (applied_in s closing).id_pool
