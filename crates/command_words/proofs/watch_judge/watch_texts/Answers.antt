use Rattle.command_words.proofs.Prelude.{refl, codes, words_of}
use Rattle.command_words.proofs.Ordered.{no_three, three_after, three_swapped, three_turned}
use Rattle.command_words.proofs.watch_judge.watch_texts.Goals as goal

pub returns-in_err-account : goal.returns-in_err-account
returns-in_err-account c = rw c.from_residual.ensures (λ network account readers three.
    c.in_err-account.ensures account readers
    (three_after (codes "network") c.in-Some.network.now network (codes "account") account (codes "readers") readers
    (words_of c.in-Some.rest.now) (words_of c.args.words.now) (λ a b. refl) (λ a b. refl) c.in-Some.ensures three).1)

pub returns-in_err-network : goal.returns-in_err-network
returns-in_err-network c = rw c.from_residual-in_err-network.ensures (λ network account readers three.
    let first = c.in-Some-first_option in
    let words = words_of c.args.words.now in
    c.in_err-network.ensures network readers
    (three_after (codes "account") first.account.now account (codes "network") network (codes "readers") readers
    (words_of first.rest.now) words (λ a b. refl) (λ a b. refl) first.ensures
    (three_swapped (codes "network") network (codes "account") account (codes "readers") readers words three)).1)

pub returns-in_err-readers : goal.returns-in_err-readers
returns-in_err-readers c = rw c.from_residual-in_err-readers.ensures (λ network account readers three.
    no_three (codes "network") network (codes "account") account (codes "readers") readers (words_of c.args.words.now)
    c.in_default.ensures c.in_default-first_option.ensures c.in_err-readers.ensures three)

pub returns-in_err-network-2 : goal.returns-in_err-network-2
returns-in_err-network-2 c = rw c.from_residual-in_err-network-2.ensures (λ network account readers three.
    let first = c.in_ok-readers in
    let words = words_of c.args.words.now in
    c.in_err-network-2.ensures network account
    (three_after (codes "readers") first.readers.now readers (codes "network") network (codes "account") account
    (words_of first.rest.now) words (λ a b. refl) (λ a b. refl) first.ensures
    (three_turned (codes "network") network (codes "account") account (codes "readers") readers words three)).1)
