use Rattle.command_words.proofs.Prelude.{words_of}
use Rattle.command_words.proofs.Ordered.{no_two, second_after, two_after}
use Rattle.command_words.proofs.watch_judge.two_options.Goals as goal

pub returns-in_err-second : goal.returns-in_err-second
returns-in_err-second c = rw c.from_residual.ensures (λ value second two.
    c.in_err-second.ensures second
    (two_after c.args.one.now c.in-Some.value.now value c.args.other.now second (words_of c.in-Some.rest.now)
    (words_of c.args.words.now) c.requires c.in-Some.ensures two).1)

pub returns-in_err-second-2 : goal.returns-in_err-second-2
returns-in_err-second-2 c = rw c.from_residual-in_err-second-2.ensures (λ value second two.
    no_two c.args.one.now value c.args.other.now second (words_of c.args.words.now) c.in_default.ensures
    c.in_err-second-2.ensures two)

pub returns-in_err-value : goal.returns-in_err-value
returns-in_err-value c = rw c.from_residual-in_err-value.ensures (λ value second two.
    c.in_err-value.ensures value
    (second_after c.args.one.now value c.args.other.now c.in_ok-second-2.second.now second
    (words_of c.in_ok-second-2.rest.now) (words_of c.args.words.now) c.in_default.ensures c.in_ok-second-2.ensures
    two))
