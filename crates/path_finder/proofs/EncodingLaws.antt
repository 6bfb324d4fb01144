-- The laws of the format of queries.
use Rattle.xdr_core.proofs.FormatLaws.{Laws, i64_laws, ◌&◌, struct_laws, list_laws, lawful_of, faults_located}
use Rattle.xdr_core.proofs.Grammar.{prefix_free, faults_rightly}
use Rattle.xdr_core.specs.Combinators.{list}
use Rattle.xdr_core.specs.Format.{IsBytes}
use Rattle.xdr_core.specs.Position.{Position}
use Rattle.xdr_entries.proofs.BasicLaws.{account_id_laws, asset_laws}
use Rattle.path_finder.specs.Encoding.{path_query_fields, path_query}
use Rattle.path_finder.specs.declared.query.PathQuery.{PathQuery}
use Rattle.path_finder.proofs.Prelude.{◌≡◌, ◌≤◌, length, Ok, arith}

pub path_query_laws : Laws path_query
unfolding path_query
path_query_laws = struct_laws path_query_fields
    (account_id_laws & asset_laws & asset_laws & i64_laws & list_laws 64 (omega arith) asset_laws)

pub few_candidates : (p q : Position) (query : PathQuery) → IsBytes p.rest → path_query.read p ≡ Ok (query, q)
    → length query.candidates ≤ 64
unfolding path_query list
few_candidates p q query bytes read =
    ((lawful_of path_query_laws).takes p q query bytes read).within.1.1.1.1.0

pub ruleset path_query_rules = (prefix_free, faults_rightly, lawful_of, faults_located, path_query_laws, few_candidates)
