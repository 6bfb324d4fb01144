use Rattle.image_store.proofs.Prelude.{◌≡◌, sym, ap, ◌∙◌, ◌<◌, ◌^◌, arith, rules, format_of, epoch_of, word_in}
use Rattle.image_store.proofs.Words.{format_low, format_high, epoch_low, epoch_high}
use Rattle.image_store.proofs.head.numbered.Goals as goal

pub returns-then-word-lt-TOP_BIT-clause-format : goal.returns-then-word-lt-TOP_BIT-clause-format
returns-then-word-lt-TOP_BIT-clause-format c =
    let word : c.u64_in-word.result ≡ word_in c.args.head.now = search rules in
    sym (format_low c.u64_in-word.result c.if-word-lt-TOP_BIT.true) ∙ ap format_of word

pub returns-then-word-lt-TOP_BIT-clause-epoch : goal.returns-then-word-lt-TOP_BIT-clause-epoch
returns-then-word-lt-TOP_BIT-clause-epoch c =
    let word : c.u64_in-word.result ≡ word_in c.args.head.now = search rules in
    sym (epoch_low c.u64_in-word.result c.if-word-lt-TOP_BIT.true) ∙ ap epoch_of word

pub returns-else-word-lt-TOP_BIT-clause-format : goal.returns-else-word-lt-TOP_BIT-clause-format
returns-else-word-lt-TOP_BIT-clause-format c =
    let word : c.u64_in-word.result ≡ word_in c.args.head.now = search rules in
    sym (format_high c.u64_in-word.result c.if-word-lt-TOP_BIT.false) ∙ ap format_of word

pub returns-else-word-lt-TOP_BIT-clause-epoch : goal.returns-else-word-lt-TOP_BIT-clause-epoch
returns-else-word-lt-TOP_BIT-clause-epoch c =
    let word : c.u64_in-word.result ≡ word_in c.args.head.now = search rules in
    let below : c.u64_in-word.result < 2 ^ 64 = omega arith in
    sym (epoch_high c.u64_in-word.result c.if-word-lt-TOP_BIT.false below) ∙ ap epoch_of word
