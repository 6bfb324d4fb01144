use Rattle.entry_map.proofs.Prelude.{◌||◌, sym, subst, option_copied, contains_key, is_changed, IsNextKey}
use Rattle.entry_map.proofs.KnownKeys.{next_either}
use Rattle.entry_map.proofs.walk.next_in_layers.Goals as goal

pub returns : goal.returns
returns c =
    subst (IsNextKey (λ q. contains_key c.args.top.now q || is_changed c.args.lower.now q) c.args.key.now)
    (sym c.lesser.ensures)
    (next_either (contains_key c.args.top.now) (is_changed c.args.lower.now) c.args.key.now
    (option_copied c.next_after.result) (option_copied c.next_changed.result) c.next_after.ensures
    c.next_changed.ensures)
