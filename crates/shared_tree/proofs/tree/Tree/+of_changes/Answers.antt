use Rattle.shared_tree.proofs.Prelude.{ap, sym, ◌∙◌, ◌++◌, ◌∷◌, IfOk-weaker, all_put, between}
use Rattle.shared_tree.proofs.Divided.{put_split}
use Rattle.shared_tree.proofs.tree.Tree.+of_changes.Goals as goal

pub returns : goal.returns
returns g t c =
    IfOk-weaker c.joined.result _ _ (λ tree is. is
    ∙ (λ i. c.in_ok-before.ensures i ++ between (c.kept.ensures i) (c.in_ok-after.ensures i))
    ∙ sym (ap all_put (c.split_at.ensures.by_index.0
    ∙ ap (λ r. c.split_at.result.0.now ++ r) c.in-Some.ensures.cases.0)
    ∙ put_split c.split_at.result.0.now (c.in-Some.change.now ∷ c.in-Some.later.now))) c.joined.ensures
