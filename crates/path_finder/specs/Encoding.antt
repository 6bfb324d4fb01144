-- How a query is encoded: its fields in their order, with at most 64 candidates (RFC 4506).
use Rattle.std.specs.Prelude.{ℤ, List, refl}
use Rattle.ledger_types.specs.declared.asset.Asset.{Asset}
use Rattle.ledger_types.specs.declared.ids.AccountId.{AccountId}
use Rattle.xdr_core.specs.Combinators.{◌⨾◌, Fields, struct_of}
use Rattle.xdr_core.specs.Leaves.{i64}
use Rattle.xdr_core.specs.Xdr.{Xdr, list_of}
use Rattle.xdr_entries.specs.Basic.{account_id, asset}
use Rattle.path_finder.specs.declared.query.PathQuery.{PathQuery}

abbrev pub path_query_fields : Fields (AccountId × (Asset × (Asset × (ℤ × List Asset)))) PathQuery
path_query_fields = record {
  to = λ (source, (send, (dest, (amount, candidates)))). record {
    source = source;
    send = send;
    dest = dest;
    amount = amount;
    candidates = candidates;
  };
  from = λ query. (query.source, (query.send, (query.dest, (query.amount, query.candidates))));
  there = λ _. refl;
  back = λ _. refl;
}

unfoldable pub path_query : Xdr PathQuery
path_query = struct_of path_query_fields (account_id ⨾ asset ⨾ asset ⨾ i64 ⨾ list_of 64 asset)
