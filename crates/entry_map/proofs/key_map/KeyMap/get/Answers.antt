use Rattle.entry_map.proofs.Prelude.{ap, ◌∙◌, get}
use Rattle.entry_map.proofs.KeyMaps.{get-derived}
use Rattle.entry_map.proofs.key_map.KeyMap.get.Goals as goal

pub returns : goal.returns
returns g c = c.get.ensures.value ∙ get-derived c.self.inside.tree c.args.key.now
    ∙ ap (λ m. get m c.args.key.now) c.self.view_is
