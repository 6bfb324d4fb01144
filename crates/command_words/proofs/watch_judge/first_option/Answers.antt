use Rattle.command_words.proofs.Ordered.{found_at_two}
use Rattle.command_words.proofs.watch_judge.first_option.Goals as goal

pub returns-in-None : goal.returns-in-None
returns-in-None c =
    let second = c.option_of_len-in-None in
    found_at_two c.args.name.now c.args.words.now second.result c.in-None.ensures second.ensures
