use Rattle.replay.proofs.Prelude.{Option, refl, subst, inl, inr, MatchOption, words_of, Parses, ParsesNone}
use Rattle.command_words.specs.Commands.{command_at}
use Rattle.command_words.specs.declared.command.Command.{Command}
use Rattle.replay.proofs.run.run.Goals as goal

pub run_command-requires-after_bounds : goal.run_command-requires-after_bounds
run_command-requires-after_bounds g c = λ κs within. (
  words_of c.args.words.now,
  subst (λ (o : Option Command). MatchOption o (ParsesNone (words_of c.args.words.now))
      (λ command. Parses (words_of c.args.words.now) (command_at command))) c.in-Ok-Some.field-0-is
      c.in-Ok-Some.ensures.command,
)

pub returns-in-Ok-Some : goal.returns-in-Ok-Some
returns-in-Ok-Some g c =
    inl (
      command_at c.in-Ok-Some.command,
      subst (λ (o : Option Command). MatchOption o (ParsesNone (words_of c.args.words.now))
          (λ command. Parses (words_of c.args.words.now) (command_at command))) c.in-Ok-Some.field-0-is
          c.in-Ok-Some.ensures.command,
      c.run_command.ensures,
    )

pub returns-in-Ok-None : goal.returns-in-Ok-None
returns-in-Ok-None g c = inr (inl (
  subst (λ (o : Option Command). MatchOption o (ParsesNone (words_of c.args.words.now))
      (λ command. Parses (words_of c.args.words.now) (command_at command))) c.in-Ok-None.field-0-is
      c.in-Ok-None.ensures.command,
  record { reported = c.report_usage.ensures; unread = (refl, refl); unwritten = (refl, refl); same = refl },
))

pub returns-in-Err : goal.returns-in-Err
returns-in-Err g c =
    let encoded = c.in-Err.ensures.no_memory in
    inr (inr (
      encoded.0,
      encoded.1,
      record { reported = c.report_no_memory.ensures; unread = (refl, refl); unwritten = (refl, refl); same = refl },
    ))
