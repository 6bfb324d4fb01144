use Rattle.std.proofs.Common.{◌≡◌, ℕ, List, Option, Some, None, MatchOption, IsSomeAnd, sym, subst}
use Rattle.command_words.specs.Words.{Command, Parses, ParsesNone, words_of}
use Rattle.command_words.specs.Commands.{command_at}
use Rattle.command_words.specs.declared.command.Command.{Command as Held}
use Rattle.command_words.proofs.read.read_command.Goals as goal

parsed : (words : List (List ℕ)) (command : Command) (read : Option Held) → Parses words command
    → IsSomeAnd read (λ held. command_at held ≡ command)
    → MatchOption read (ParsesNone words) (λ held. Parses words (command_at held))
parsed words command None parses is = absurd is
parsed words command (Some held) parses is = subst (Parses words) (sym is) parses

pub returns-in-Ok-clause-command : goal.returns-in-Ok-clause-command
returns-in-Ok-clause-command c =
    let finds = c.in-Ok.ensures.finds in
    let found = c.found_command in
    parsed (words_of c.args.words.now) finds.0 found.result finds.1 (found.ensures finds.0 finds.2)
