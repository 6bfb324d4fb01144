use Rattle.entry_map.proofs.Prelude.{◌≡◌, ◌||◌, subst, OnOk, contains_key, LedgerKey}
use Rattle.entry_map.proofs.layer.Layer.add_keys_to.Goals as goal

pub returns : goal.returns
returns c =
    subst (λ m. OnOk c.add_keys_to.result ((q : LedgerKey)
    → contains_key c.add_keys_to.new.keys q ≡ (contains_key c.args.keys.now q || contains_key m q))) c.self.view_is
    c.add_keys_to.ensures
