-- A command in memory as the command that words give.
use Rattle.command_words.specs.declared.command.Command.{Command}
use Rattle.command_words.specs.declared.command.Command.TheVariants as command
use Rattle.command_words.specs.Words as words

abbrev pub command_at : Command → words.Command
command_at (command.Init passphrase) = words.Init passphrase.now
command_at (command.Run workers) = words.Run workers
command_at (command.CatchUp passphrase) = words.CatchUp passphrase.now
command_at command.Show = words.Show
command_at (command.Sample seed ledgers) = words.Sample seed ledgers
command_at (command.History passphrase) = words.History passphrase.now
command_at (command.Changes passphrase) = words.Changes passphrase.now
command_at command.Verify = words.Verify
command_at command.Path = words.Path
