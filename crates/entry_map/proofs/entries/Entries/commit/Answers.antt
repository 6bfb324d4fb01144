use Rattle.entry_map.proofs.Prelude.{rules}
use Rattle.entry_map.proofs.Saved.{kept_saved}
use Rattle.entry_map.proofs.entries.Entries.commit.Goals as goal

pub invariant_of-self-2 : goal.invariant_of-self-2
invariant_of-self-2 g c _ =
    kept_saved c.self.inside.layered c.args.self.now c.commit.new.self c.self.inside.offers c.self.inside.saved.items
    c.pop.new.self.items (c.self.invariant c.if-self.false) c.requires c.self.view_is (search rules)
    c.in_ok-commit.ensures
