use Rattle.command_words.proofs.Prelude.{◌∙◌, ◌||◌, ap₂, IfOk-weaker, with_rule}
use Rattle.command_words.proofs.parser.text_command.Goals as goal

pub returns : goal.returns
returns c =
    let option = c.text_option.ensures in
    let bare = c.new.ensures in
    record {
      app = IfOk-weaker c.arg.result _ _ (λ command h. h.shape option.local ∙ ap₂ with_rule bare.app option.rule)
          c.arg.ensures;
      local = IfOk-weaker c.arg.result _ _ (λ command h. h.globals ∙ ap₂ ◌||◌ bare.local option.local) c.arg.ensures;
    }
