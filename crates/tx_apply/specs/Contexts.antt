-- What a transaction is applied in.
use Rattle.std.specs.Prelude.{ℕ, ℤ, []}
use Rattle.ledger_types.specs.declared.ids.AccountId.{AccountId}
use Rattle.ledger_types.specs.declared.header.LedgerHeader.{LedgerHeader}
use Rattle.sponsor_rules.specs.declared.context.Ctx.{Ctx}
use Rattle.op_laws.specs.legal_rules.Headers.{header_flags}

-- the context of a transaction before its operations, under the header of the ledger before
abbrev pub ctx_of : LedgerHeader → (close_time id_pool : ℕ) → (source : AccountId) → (seq_num : ℤ) → Ctx
ctx_of header close_time id_pool source seq_num =
    record {
      seq = header.ledger_seq;
      version = header.ledger_version;
      base_reserve = header.base_reserve;
      flags = header_flags header;
      close_time = close_time;
      tx_source = source;
      tx_seq = seq_num;
      op_index = 0;
      op_source = source;
      id_pool = id_pool;
      sponsorships = [];
    }
