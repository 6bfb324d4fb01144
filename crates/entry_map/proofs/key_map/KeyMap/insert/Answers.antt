use Rattle.entry_map.proofs.Prelude.{ap, ◌∙◌, insert}
use Rattle.entry_map.proofs.KeyMaps.{seen_inserted}
use Rattle.entry_map.proofs.key_map.KeyMap.insert.Goals as goal

pub returns-clause-ok : goal.returns-clause-ok
returns-clause-ok g c =
    seen_inserted c.self.inside.tree c.insert.new.self c.args.key c.args.value c.in_ok-insert.ensures.updates
    ∙ ap (λ m. insert m c.args.key c.args.value) c.self.view_is
