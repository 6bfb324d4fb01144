use Rattle.entry_map.proofs.Prelude.{◌-◌, length, take, drop, sym, subst, option_copied, contains_key, is_changed}
use Rattle.entry_map.proofs.Prelude.{lesser_of, IsNextKey}
use Rattle.entry_map.proofs.KnownKeys.{next_either, first_and_rest}
use Rattle.entry_map.proofs.walk.+next_changed.Goals as goal

pub returns-in-len1-up : goal.returns-in-len1-up
returns-in-len1-up t c =
    subst (IsNextKey (is_changed c.args.layers.now) c.args.key.now) (sym c.lesser.ensures)
    (subst (λ ls. IsNextKey (is_changed ls) c.args.key.now (lesser_of (option_copied c.next_after.result)
    (option_copied c.next_changed.result)))
    (sym (first_and_rest c.args.layers.now c.oldest-item.result c.in-len1-up.len_at_least c.oldest-item.is))
    (next_either (contains_key c.oldest-item.result) (is_changed (take (length c.args.layers.now - 1)
    (drop 1 c.args.layers.now))) c.args.key.now
    (option_copied c.next_after.result)
    (option_copied c.next_changed.result) c.next_after.ensures c.next_changed.ensures))
