use Rattle.command_words.proofs.Prelude.{◌≡◌, ◌∙◌, ap, sym, subst, refl, List, Option, Some, None, option_map}
use Rattle.command_words.proofs.Prelude.{subcommand_name_of, subcommand_rows_of, ArgMatches, FindsOptions}
use Rattle.clap.specs.Words.{Row, Text}
use Rattle.command_words.proofs.values.found_command.Goals as goal
use Rattle.std.proofs.lemmas.Option.{same_Some}

map_map : {A B C : Type 0} (f : B → C) (g : A → B) (o : Option A) → option_map f (option_map g o)
    ≡ option_map (λ x. f (g x)) o
map_map f g None = refl
map_map f g (Some x) = refl

none_some : {A : Type 0} (x : A) → None ≡ Some x → ⊥
none_some x e = cc

abbrev name_in : Option (Text × List Row) → Option Text
name_in = option_map (λ p. p.0)

abbrev rows_in : Option (Text × List Row) → Option (List Row)
rows_in = option_map (λ p. p.1)

name_found : (matches : ArgMatches) → name_in (subcommand_rows_of matches) ≡ subcommand_name_of matches
name_found matches = map_map _ _ _

pub returns-in-Some : goal.returns-in-Some
returns-in-Some c = λ command finds.
    let told = c.in-Some.ensures in
    let name = same_Some _ _ (told.name ∙ (sym (name_found c.args.matches.now) ∙ ap name_in finds.1)) in
    let rows = same_Some _ _ (told.rows ∙ ap rows_in finds.1) in
    c.command_of.ensures command name (subst (FindsOptions command) (sym rows) finds.2)

pub returns-in-None : goal.returns-in-None
returns-in-None c = λ command finds. none_some finds.0 (c.in-None.ensures.rows ∙ ap rows_in finds.1)
