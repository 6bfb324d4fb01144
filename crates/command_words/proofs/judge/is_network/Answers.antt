use Rattle.command_words.proofs.Prelude.{codes, words_of, IsOption}
use Rattle.command_words.proofs.Judging.{found_iff}
use Rattle.command_words.proofs.judge.is_network.Goals as goal

pub returns : goal.returns
returns c =
    let found = c.option_value in
    found_iff c.is_some.result found.result (λ value. IsOption (codes "network") value (words_of c.args.words.now))
    found.ensures c.is_some.ensures
