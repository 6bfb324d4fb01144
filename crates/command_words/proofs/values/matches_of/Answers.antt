use Rattle.command_words.proofs.Prelude.{◌∙◌, ap, IfErr-weaker, IfOk-weaker, is_simple, words_of}
use Rattle.clap.specs.Words.{subcommand_of, takes}
use Rattle.command_words.proofs.Reading.{command_read, is_simple_program}
use Rattle.command_words.proofs.values.matches_of.Goals as goal

pub returns : goal.returns
returns c =
    let words = words_of c.args.words.now in
    let app_is = c.in_ok-program.ensures in
    let read = command_read words c.requires.0 c.requires.1 in
    let parse = c.try_get_matches_from in
    record {
      finds = IfOk-weaker parse.result _ _ (λ m h.
          let is = (h (ap is_simple app_is ∙ is_simple_program)).1 in
          let same = is ∙ (ap (λ a. subcommand_of a words) app_is ∙ read.1.1) in
          (c.requires.0, c.requires.1, (read.1.0, same, read.1.2))) parse.ensures.matches;
      memory = IfErr-weaker parse.result _ _ (λ e h. h (ap (λ a. takes a words) app_is ∙ read.0)) parse.ensures.passes;
    }
