use Rattle.command_words.proofs.OneCommand.{commands_are_one}
use Rattle.command_words.proofs.laws.commands_are_one.Goals as goal

pub returns : goal.returns
returns c = commands_are_one
