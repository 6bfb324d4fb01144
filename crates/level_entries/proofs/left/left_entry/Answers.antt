use Rattle.level_entries.proofs.Prelude.{sym, ap, ◌∙◌, entry_in}
use Rattle.level_entries.proofs.left.left_entry.Goals as goal

pub returns : goal.returns
returns c = ap entry_in (sym c.in_ok-read.ensures) ∙ sym c.entry_in.ensures ∙ c.in-Some.is

pub unreachable-requires : goal.unreachable-requires
unreachable-requires c =
    cc (c.in-None.is, c.entry_in.ensures, ap entry_in c.in_ok-read.ensures, c.requires.left)
