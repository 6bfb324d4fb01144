use Rattle.level_entries.proofs.Prelude.{◌≡◌, ◌⊎◌, inl, inr, ◌++◌, [], drop, ap, ◌∙◌}
use Rattle.level_entries.proofs.JudgedRows.{pass_ends}
use Rattle.level_entries.proofs.overlay.overlay.Goals as goal
use Rattle.level_entries.proofs.overlay.overlay.Goals.{then-loop-index-test+else-turn-newer, else-loop-index-test}
use Rattle.level_entries.proofs.JudgedRows.{drop_past_end}

pub returns : goal.returns
returns c =
    let older = c.args.older.now in
    let newer = c.args.newer.now in
    let rest = drop c.loop-index.index older in
    let turns = drop c.loop-index.turn newer in
    let ended : (rest ≡ []) ⊎ (turns ≡ []) = elim c.loop-index-test.branch [
      | then-loop-index-test+else-turn-newer w ↦ inr (drop_past_end newer c.loop-index.turn w.if-turn-newer.false)
      | else-loop-index-test w ↦ inl (drop_past_end older c.loop-index.index w.loop-index-test.false)
    ] in
    pass_ends older newer rest turns c.loop-index.all.items c.push_all.new.row.items c.push_all-2.new.row.items
    c.loop-index.invariant.same ended c.loop-index.invariant.newer_rises
    (c.in_ok-push_all.ensures ∙ ap (λ r. c.loop-index.all.items ++ r) c.split_at.ensures.back)
    (c.in_ok-push_all-2.ensures ∙ ap (λ r. c.push_all.new.row.items ++ r) c.split_at-2.ensures.back)
    c.requires.older
