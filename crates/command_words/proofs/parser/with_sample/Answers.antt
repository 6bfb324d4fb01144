use Rattle.command_words.proofs.Prelude.{◌∙◌, ap, IfOk-weaker, App, app_of, with_subcommand}
use Rattle.command_words.proofs.parser.with_sample.Goals as goal

pub returns : goal.returns
returns c =
    let added = c.in_ok-sample_command.ensures in
    IfOk-weaker c.subcommand.result _ _
    (λ more h. h.shape added.local ∙ ap (λ (a : App). with_subcommand (app_of c.args.program) a.top) added.app)
    c.subcommand.ensures
