use Rattle.ledger_close.proofs.Prelude.{◌+◌, ap, ◌∙◌, to_z, of_z, w64, FitsSigned, rules, ledger_hash_of}
use Rattle.ledger_close.proofs.Prelude.{results_hash_of, finished, result_set, upgraded_header, LedgerAt}
use Rattle.std.proofs.lemmas.Int.{to_z-of_z}
use Rattle.ledger_close.specs.declared.heading.Given.{Given}
use Rattle.ledger_close.proofs.Finishing.{headed}
use Rattle.ledger_close.proofs.ledger.Ledger.head.Goals as goal

pub returns : goal.returns
returns c = λ closing is_value is_next done.
    let s = c.args.self.now.state in
    let fee = c.args.done.now.fee_pool in
    let fits : FitsSigned w64 fee = search rules in
    let given : Given = record {
      previous_ledger_hash = c.self.inside.digest;
      scp_value = c.args.scp_value;
      ledger_seq = c.self.inside.header.ledger_seq + 1;
      tx_set_result_hash = c.in_ok-results_hash.field-0;
      fee_pool = to_z w64 (of_z w64 fee);
      id_pool = c.args.done.now.id_pool;
    } in
    let entire = headed s closing given c.args.next
    (c.self.invariant.hashed ∙ ap (λ (x : LedgerAt). ledger_hash_of x.state.header) c.self.view_is) is_value
    (ap (λ (x : LedgerAt). x.state.header.ledger_seq + 1) c.self.view_is)
    (c.in_ok-results_hash.ensures ∙ ap (λ pairs. results_hash_of (result_set pairs)) done.results)
    (to_z-of_z w64 fee fits ∙ done.fee_pool) done.id_pool is_next in
    c.finish.ensures ∙ ap (λ h. finished h c.hash.result) (c.fill.ensures ∙ entire)
    ∙ ap (finished (upgraded_header s closing)) c.hash.ensures
