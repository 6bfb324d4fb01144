use Rattle.command_words.proofs.Prelude.{◌≡◌, ◌∙◌, Option, Some, None, Bor, option_map, unwrap_or, found_of}
use Rattle.command_words.proofs.Prelude.{first_value-rows}
use Rattle.clap.specs.Words.{Text}
use Rattle.command_words.proofs.values.text_in.Goals as goal

text_found : (found : Option (Bor Text)) (other read : Bor Text) (value : Text)
    → option_map (λ s. s.now) found ≡ Some value → read ≡ unwrap_or found other → read.now ≡ value
text_found None other read value e is = cc
text_found (Some x) other read value e is = cc

pub returns : goal.returns
returns c = λ value finds.
    let rows = first_value-rows (found_of c.args.values.now) c.args.name.now in
    text_found c.get_str.result _ c.unwrap_or.result value (c.get_str.ensures ∙ (rows ∙ finds)) c.unwrap_or.ensures
