use Rattle.std.proofs.Common.{map, ap, ◌∙◌}
use Rattle.bucket_levels.specs.Levels.{pair_of}
use Rattle.bucket_levels.specs.Meaning.{files_of}
use Rattle.level_pages.specs.Newest.{entry_in}
use Rattle.level_pages.proofs.Lookups.{left, none_left}
use Rattle.level_pages.proofs.newest.newest_entry.Goals as goal

pub returns-in-None : goal.returns-in-None
returns-in-None c = λ k text. none_left k (files_of (map pair_of c.args.pairs.now)) (c.in-None.ensures k text)

pub returns-in_ok-read-in-Some : goal.returns-in_ok-read-in-Some
returns-in_ok-read-in-Some c = λ k text.
    c.entry_in.ensures ∙ ap entry_in c.in_ok-read-in-Some.ensures
    ∙ left k c.in-Some.item.1 (files_of (map pair_of c.args.pairs.now)) (c.in-Some.ensures k text)
