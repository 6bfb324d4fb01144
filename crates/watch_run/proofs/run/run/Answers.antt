use Rattle.watch_run.proofs.Prelude.{Option, refl, subst, inl, inr}
use Rattle.std.specs.Prelude.{MatchOption}
use Rattle.command_words.specs.Words.{words_of}
use Rattle.command_words.specs.WatchWords.{ParsesNoWatch, ParsesWatch}
use Rattle.command_words.specs.WatchFound.{watch_at}
use Rattle.command_words.specs.declared.watch_words.WatchWords.{WatchWords}
use Rattle.watch_run.proofs.run.run.Goals as goal

pub watch-requires-clause-some : goal.watch-requires-clause-some
watch-requires-clause-some g c κs within =
    (subst (λ (o : Option WatchWords). MatchOption o (ParsesNoWatch (words_of c.args.words.now))
    (λ asked. ParsesWatch (words_of c.args.words.now) (watch_at asked))) c.in-Ok-Some.field-0-is
    c.in-Ok-Some.ensures.asked).some

pub watch-requires-clause-few : goal.watch-requires-clause-few
watch-requires-clause-few g c κs within =
    (subst (λ (o : Option WatchWords). MatchOption o (ParsesNoWatch (words_of c.args.words.now))
    (λ asked. ParsesWatch (words_of c.args.words.now) (watch_at asked))) c.in-Ok-Some.field-0-is
    c.in-Ok-Some.ensures.asked).few

pub returns-in-Ok-Some : goal.returns-in-Ok-Some
returns-in-Ok-Some g c =
    inl (
      watch_at c.in-Ok-Some.asked,
      record { 0 = c.in-Ok-Some.asked.account },
      subst (λ (o : Option WatchWords). MatchOption o (ParsesNoWatch (words_of c.args.words.now))
          (λ asked. ParsesWatch (words_of c.args.words.now) (watch_at asked))) c.in-Ok-Some.field-0-is
          c.in-Ok-Some.ensures.asked,
      refl,
      c.watch.ensures,
    )

pub returns-in-Ok-None : goal.returns-in-Ok-None
returns-in-Ok-None g c = inr (inl (
  subst (λ (o : Option WatchWords). MatchOption o (ParsesNoWatch (words_of c.args.words.now))
      (λ asked. ParsesWatch (words_of c.args.words.now) (watch_at asked))) c.in-Ok-None.field-0-is
      c.in-Ok-None.ensures.asked,
  record { reported = c.report_usage.ensures; unread = (refl, refl); unwritten = (refl, refl) },
))

pub returns-in-Err : goal.returns-in-Err
returns-in-Err g c =
    let parsed = c.in-Err.ensures.no_memory in
    inr (inr (
      parsed.0,
      parsed.1,
      record { reported = c.report_no_memory.ensures; unread = (refl, refl); unwritten = (refl, refl) },
    ))
