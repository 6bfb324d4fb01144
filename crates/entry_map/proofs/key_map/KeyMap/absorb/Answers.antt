use Rattle.entry_map.proofs.Prelude.{◌≡◌, ◌⊎◌, subst, OnOk, option_or, get, IfOk-weaker, LedgerKey}
use Rattle.entry_map.proofs.KeyMaps.{seen, get-absorbed, each-absorbed}
use Rattle.entry_map.proofs.key_map.KeyMap.absorb.Goals as goal

pub returns-clause-ok : goal.returns-clause-ok
returns-clause-ok g c =
    subst (λ m. OnOk c.append.result ((q : LedgerKey)
    → get (seen c.append.new.self) q ≡ option_or (get c.args.newer q) (get m q))) c.self.view_is
    (subst (λ m. OnOk c.append.result ((q : LedgerKey)
    → get (seen c.append.new.self) q ≡ option_or (get m q) (get (seen c.self.inside.tree) q))) c.newer.view_is
    (IfOk-weaker c.append.result _ _
    (λ _ inserts. get-absorbed c.self.inside.tree c.newer.inside.tree c.append.new.self inserts
    c.append.ensures.other_was_ordered) c.append.ensures.inserts_all))

pub returns-clause-each : goal.returns-clause-each
returns-clause-each g c q =
    subst (λ m. (get (seen c.append.new.self) q ≡ get c.args.newer q)
    ⊎ (get (seen c.append.new.self) q ≡ get m q)) c.self.view_is
    (subst (λ m. (get (seen c.append.new.self) q ≡ get m q)
    ⊎ (get (seen c.append.new.self) q ≡ get (seen c.self.inside.tree) q)) c.newer.view_is
    (each-absorbed c.self.inside.tree c.newer.inside.tree c.append.new.self c.append.new.other c.append.ensures.moves
    c.append.ensures.other_was_ordered q))
