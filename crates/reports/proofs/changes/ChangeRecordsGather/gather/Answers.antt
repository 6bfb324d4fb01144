use Rattle.reports.proofs.Prelude.{[], ap, subst, sym, ℕ, List, ◌++◌, ◌∙◌, ◌∷◌, ◌≡◌}
use Rattle.change_stream.specs.declared.change.Change.{Change}
use Rattle.run_outcome.specs.ChangesRun.{IsTextOfChanges, change_records}
use Rattle.reports.proofs.OneMore.{text_more}
use Rattle.reports.proofs.changes.ChangeRecordsGather.gather.Goals as goal

pub returns-clause-gathered : goal.returns-clause-gathered
returns-clause-gathered c = λ close detailed start closes h.
    let old : List ℕ = c.args.self.now.text in
    let text : c.add_changes.new.text ≡ old ++ change_records c.in-Ok.list.items =
    c.in-Ok-add_changes.ensures ∙ ap (λ (l : List Change). old ++ change_records l) c.as_slice.ensures.value in (
      subst (λ (t : List ℕ). IsTextOfChanges (closes ++ close ∷ []) t) (sym text)
          (text_more closes old close c.in-Ok.list.items h (c.in-Ok.ensures.changes close detailed)),
      λ small. tt,
    )
