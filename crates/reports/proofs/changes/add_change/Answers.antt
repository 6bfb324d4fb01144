use Rattle.reports.proofs.Prelude.{◌≡◌, ◌≤◌, ◌++◌, ◌∙◌, ℕ, List, Result, Ok, Err, ap, arith, length, mark, mark_laws}
use Rattle.reports.proofs.Prelude.{subst}
use Rattle.reports.proofs.Prelude.{sym}
use Rattle.std.specs.Prelude.{OnOk}
use Rattle.archive_files.specs.Records.{max_record_len}
use Rattle.change_stream.specs.Grammar.{one_change}
use Rattle.xdr_core.proofs.FormatLaws.{written}
use Rattle.reports.proofs.changes.add_change.Goals as goal

on_ok : {T E : Type 0} (r : Result T E) (P Q : Type 0) → (P → Q) → OnOk r P → OnOk r Q
on_ok (Ok x) P Q f h = f h
on_ok (Err e) P Q f h = tt

pub mark-requires-clause-fits : goal.mark-requires-clause-fits
unfolding mark
mark-requires-clause-fits c =
    let text : c.as_slice.result.now ≡ one_change.encoding c.args.change.now =
    c.as_slice.ensures ∙ c.in_ok-write_change.ensures
    ∙ ap (λ (t : List ℕ). t ++ one_change.encoding c.args.change.now) c.new-encoding.ensures in
    subst (λ (t : List ℕ). length t ≤ max_record_len) (sym text) c.requires.short

pub returns : goal.returns
returns c =
    let text : c.as_slice.result.now ≡ one_change.encoding c.args.change.now =
    c.as_slice.ensures ∙ c.in_ok-write_change.ensures
    ∙ ap (λ (t : List ℕ). t ++ one_change.encoding c.args.change.now) c.new-encoding.ensures in
    on_ok c.mark.result _ _
    (λ e. e ∙ written (mark_laws max_record_len (omega arith)) c.args.text.now c.as_slice.result.now
    ∙ ap (λ (t : List ℕ). c.args.text.now ++ (mark max_record_len).encoding t) text)
    c.mark.ensures
