use Rattle.command_words.proofs.Prelude.{◌∙◌, ap, sym, subst, IfErr-weaker, IfOk-weaker, is_simple, words_of}
use Rattle.clap.specs.Words.{matches_of, takes}
use Rattle.command_words.specs.WatchFound.{FindsWatch}
use Rattle.command_words.proofs.WatchReading.{is_simple_watch, watch_read}
use Rattle.command_words.proofs.watch_values.watch_matches.Goals as goal

pub returns : goal.returns
returns c =
    let words = words_of c.args.words.now in
    let app_is = c.in_ok-watch_program.ensures in
    let read = watch_read words c.requires.0 c.requires.1 in
    let parse = c.try_get_matches_from in
    record {
      finds = IfOk-weaker parse.result _ _ (λ m h.
          let is = (h (ap is_simple app_is ∙ is_simple_watch)).0 in
          let same = is ∙ (ap (λ a. matches_of a words) app_is ∙ read.1.found) in
          (c.requires.0, c.requires.1, subst (FindsWatch c.requires.0) (sym same) read.2)) parse.ensures.matches;
      memory = IfErr-weaker parse.result _ _ (λ e h. h (ap (λ a. takes a words) app_is ∙ read.1.taken))
          parse.ensures.passes;
    }
