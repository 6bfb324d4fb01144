use Rattle.command_words.proofs.Prelude.{◌∙◌, sym, codes}
use Rattle.std.proofs.lemmas.Str.Pattern.{starts_text}
use Rattle.command_words.proofs.Numbers.{number_read}
use Rattle.command_words.proofs.number.number_of.Goals as goal

pub returns-else-text-gt-MOST_DIGITS : goal.returns-else-text-gt-MOST_DIGITS
returns-else-text-gt-MOST_DIGITS c =
    let text = c.args.text.now in
    let sign = c.starts_with-is_signed in
    let starts = starts_text sign.result (codes "+") text sign.ensures.cases in
    let none = c.if-text-gt-MOST_DIGITS.false in
    number_read text c.parse.result c.ok.result c.parse.ensures.value.0 (sym starts ∙ none.0) none.1 c.ok.ensures.value
