use Rattle.command_words.proofs.WatchTexts.{watches_are_one}
use Rattle.command_words.proofs.laws.watches_are_one.Goals as goal

pub returns : goal.returns
returns c = watches_are_one
