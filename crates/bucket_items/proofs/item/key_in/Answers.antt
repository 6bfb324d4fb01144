use Rattle.bucket_items.proofs.Prelude.{◌∙◌}
use Rattle.bucket_items.proofs.Holding.{live_key, init_key, dead_key}
use Rattle.bucket_items.proofs.item.key_in.Goals as goal

pub returns-in-Live : goal.returns-in-Live
returns-in-Live c = λ e h t. live_key c.args.text.now c.after.result.now c.prefix_key.result.now e h
    (t ∙ c.in-Live.is) c.after.ensures c.prefix_key.ensures

pub returns-in-Dead : goal.returns-in-Dead
returns-in-Dead c = λ e h t. dead_key c.args.text.now c.after-in-Dead.result.now e h
    (t ∙ c.in-Dead.is) c.after-in-Dead.ensures

pub returns-in-Init : goal.returns-in-Init
returns-in-Init c = λ e h t. init_key c.args.text.now c.after-in-Init.result.now c.prefix_key-in-Init.result.now e h
    (t ∙ c.in-Init.is) c.after-in-Init.ensures c.prefix_key-in-Init.ensures
