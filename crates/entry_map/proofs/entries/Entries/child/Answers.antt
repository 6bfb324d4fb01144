use Rattle.entry_map.proofs.Saved.{child_saved}
use Rattle.entry_map.proofs.entries.Entries.child.Goals as goal

pub invariant_of-self-2 : goal.invariant_of-self-2
invariant_of-self-2 g c _ =
    child_saved c.self.inside.layered c.child.new.self c.self.inside.offers c.in_ok-share.field-0
    c.self.inside.saved.items
    c.push.new.self.items (c.self.invariant c.if-self.false) c.in_ok-share.ensures c.in_ok-push.ensures.items
    c.in_ok-child.ensures
