use Rattle.std.proofs.Common.{◌≡◌, ℕ, List, Option, Some, None, MatchOption, IsSomeAnd, sym, subst}
use Rattle.command_words.specs.Words.{words_of}
use Rattle.command_words.specs.WatchWords.{Watch, ParsesWatch, ParsesNoWatch}
use Rattle.command_words.specs.WatchFound.{watch_at}
use Rattle.command_words.specs.declared.watch_words.WatchWords.{WatchWords}
use Rattle.command_words.proofs.watch_read.read_watch.Goals as goal

asked_in : (words : List (List ℕ)) (asked : Watch) (read : Option WatchWords) → ParsesWatch words asked
    → IsSomeAnd read (λ held. watch_at held ≡ asked)
    → MatchOption read (ParsesNoWatch words) (λ held. ParsesWatch words (watch_at held))
asked_in words asked None parses is = absurd is
asked_in words asked (Some held) parses is = subst (ParsesWatch words) (sym is) parses

pub returns-in-Ok-clause-asked : goal.returns-in-Ok-clause-asked
returns-in-Ok-clause-asked c =
    let finds = c.in-Ok.ensures.finds in
    let found = c.found_watch in
    asked_in (words_of c.args.words.now) finds.0 found.result finds.1 (found.ensures finds.0 finds.2)
