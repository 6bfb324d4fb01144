-- The commands as `clap` has them.
use Rattle.std.specs.Prelude.{true, Some, codes, pos}
use Rattle.clap.specs.Words.{App, Rule, Text, new_app, new_rule, with_rule, with_subcommand}
use Rattle.clap.specs.Simple.{on_top}
use Rattle.clap.specs.declared.builder.ValueParser.{ValueParser}
use Rattle.clap.specs.declared.builder.ValueParser.TheVariants as vp

-- the parser of `u32`
abbrev pub any_u32 : ValueParser
any_u32 = vp.Signed (pos 0) (pos 4294967295)

-- an option of text, and one that is a number
abbrev pub text_rule : Text → Rule
text_rule name = record (new_rule name) { long = Some name }

abbrev pub number_rule : ValueParser → Text → Rule
number_rule number name = record (text_rule name) { parser = Some number }

-- a command with one option
abbrev pub with_one : Text → Rule → App
with_one name option = with_rule (new_app name) option

abbrev pub sample_app : ValueParser → App
sample_app number =
    with_rule (with_one (codes "sample") (number_rule number (codes "seed"))) (number_rule number (codes "ledgers"))

-- the first word isn't the program's name, and no word asks for help or for a version
abbrev pub bare_app : Text → App
bare_app name = on_top (λ s. record s {
  no_binary_name = true;
  disable_help_flag = true;
  disable_help_subcommand = true;
  disable_version_flag = true;
}) (new_app name)

-- the program with the commands that make ledgers, close them and show them
abbrev pub closing_app : ValueParser → App
closing_app number =
    let init = with_one (codes "init") (text_rule (codes "network")) in
    let run = with_one (codes "run") (number_rule number (codes "workers")) in
    let catchup = with_one (codes "catchup") (text_rule (codes "network")) in
    let show = new_app (codes "show") in
    let two = with_subcommand (with_subcommand (bare_app (codes "ledger")) init.top) run.top in
    with_subcommand (with_subcommand (with_subcommand two catchup.top) show.top) (sample_app number).top

-- the program with all its commands
abbrev pub program_app : ValueParser → App
program_app number =
    let history = with_one (codes "history") (text_rule (codes "network")) in
    let changes = with_one (codes "changes") (text_rule (codes "network")) in
    let verify = new_app (codes "verify") in
    let path = new_app (codes "path") in
    let two = with_subcommand (with_subcommand (closing_app number) history.top) changes.top in
    with_subcommand (with_subcommand two verify.top) path.top

-- the program `watch`: three options, and no command
abbrev pub watch_app : ValueParser → App
watch_app number =
    let network = with_rule (bare_app (codes "watch")) (text_rule (codes "network")) in
    with_rule (with_rule network (text_rule (codes "account"))) (number_rule number (codes "readers"))
