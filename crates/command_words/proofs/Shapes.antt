-- What `clap` makes of the words of each command, where its numbers have any parser.
use Rattle.command_words.proofs.Prelude.{◌≡◌, refl, true, List, [], ◌∷◌, ◌++◌, Some, codes, Row, Text, with_values}
use Rattle.command_words.proofs.Prelude.{reading_of, subcommand_of, takes, ValueParser, program_app}
use Rattle.clap.specs.declared.builder.ValueParser.TheVariants as vp
use Rattle.clap.specs.declared.parser.ValueSource.TheVariants.{CommandLine}
use Rattle.clap.proofs.OnLiterals.{clap_on_literals}
use Rattle.command_words.proofs.Forms.{Form, own, joined, words_in, FitsForm, IsTaken}

-- the rows with one more, of an option with this parser
abbrev pub more : ValueParser → (name value : Text) → List Row → List Row
more parser name value rows = with_values name (reading_of parser) CommandLine (value ∷ []) rows

module _ (number : ValueParser) where
  abbrev pub with_seed : Text → List Row → List Row
  with_seed = more number (codes "seed")

  abbrev pub with_ledgers : Text → List Row → List Row
  with_ledgers = more number (codes "ledgers")

  -- the words are taken, and are the command of this name with these rows
  pub record AreRead (words : List Text) (name : Text) (rows : List Row) : Type 0 where
    pub taken : takes (program_app number) words ≡ true
    pub found : subcommand_of (program_app number) words ≡ Some (name, rows)

  pub init_read : (form : Form) (p : Text) → FitsForm form p
      → AreRead (codes "init" ∷ words_in form (codes "network") p) (codes "init")
      (more vp.String (codes "network") p [])
  unfolding clap_on_literals
  init_read own p f =
      record { taken = rw (f.bare, f.long, f.short) refl; found = rw (f.bare, f.long, f.short) refl }
  init_read joined p f = record { taken = refl; found = refl }

  pub catchup_read : (form : Form) (p : Text) → FitsForm form p
      → AreRead (codes "catchup" ∷ words_in form (codes "network") p) (codes "catchup")
      (more vp.String (codes "network") p [])
  unfolding clap_on_literals
  catchup_read own p f =
      record { taken = rw (f.bare, f.long, f.short) refl; found = rw (f.bare, f.long, f.short) refl }
  catchup_read joined p f = record { taken = refl; found = refl }

  pub history_read : (form : Form) (p : Text) → FitsForm form p
      → AreRead (codes "history" ∷ words_in form (codes "network") p) (codes "history")
      (more vp.String (codes "network") p [])
  unfolding clap_on_literals
  history_read own p f =
      record { taken = rw (f.bare, f.long, f.short) refl; found = rw (f.bare, f.long, f.short) refl }
  history_read joined p f = record { taken = refl; found = refl }

  pub changes_read : (form : Form) (p : Text) → FitsForm form p
      → AreRead (codes "changes" ∷ words_in form (codes "network") p) (codes "changes")
      (more vp.String (codes "network") p [])
  unfolding clap_on_literals
  changes_read own p f =
      record { taken = rw (f.bare, f.long, f.short) refl; found = rw (f.bare, f.long, f.short) refl }
  changes_read joined p f = record { taken = refl; found = refl }

  pub show_read : AreRead (codes "show" ∷ []) (codes "show") []
  unfolding clap_on_literals
  show_read = record { taken = refl; found = refl }

  pub verify_read : AreRead (codes "verify" ∷ []) (codes "verify") []
  unfolding clap_on_literals
  verify_read = record { taken = refl; found = refl }

  pub path_read : AreRead (codes "path" ∷ []) (codes "path") []
  unfolding clap_on_literals
  path_read = record { taken = refl; found = refl }

  pub run_alone_read : AreRead (codes "run" ∷ []) (codes "run") []
  unfolding clap_on_literals
  run_alone_read = record { taken = refl; found = refl }

  pub run_read : (form : Form) (w : Text) → FitsForm form w → IsTaken number w
      → AreRead (codes "run" ∷ words_in form (codes "workers") w) (codes "run") (more number (codes "workers") w [])
  unfolding clap_on_literals
  run_read own w f t = record {
    taken = rw (f.bare, f.long, f.short, t.accepted) refl;
    found = rw (f.bare, f.long, f.short) refl;
  }
  run_read joined w f t = record { taken = rw t.accepted refl; found = refl }

  pub seed_first_read : (form other : Form) (s l : Text) → FitsForm form s → FitsForm other l → IsTaken number s
      → IsTaken number l
      → AreRead (codes "sample" ∷ (words_in form (codes "seed") s ++ words_in other (codes "ledgers") l))
      (codes "sample") (with_ledgers l (with_seed s []))
  unfolding clap_on_literals
  seed_first_read own own s l f g t u = record {
    taken = rw (f.bare, f.long, f.short, g.bare, g.long, g.short, t.accepted, u.accepted) refl;
    found = rw (f.bare, f.long, f.short, g.bare, g.long, g.short) refl;
  }
  seed_first_read own joined s l f g t u = record {
    taken = rw (f.bare, f.long, f.short, t.accepted, u.accepted) refl;
    found = rw (f.bare, f.long, f.short) refl;
  }
  seed_first_read joined own s l f g t u = record {
    taken = rw (g.bare, g.long, g.short, t.accepted, u.accepted) refl;
    found = rw (g.bare, g.long, g.short) refl;
  }
  seed_first_read joined joined s l f g t u = record { taken = rw (t.accepted, u.accepted) refl; found = refl }

  pub ledgers_first_read : (form other : Form) (s l : Text) → FitsForm form s → FitsForm other l → IsTaken number s
      → IsTaken number l
      → AreRead (codes "sample" ∷ (words_in other (codes "ledgers") l ++ words_in form (codes "seed") s))
      (codes "sample") (with_seed s (with_ledgers l []))
  unfolding clap_on_literals
  ledgers_first_read own own s l f g t u = record {
    taken = rw (g.bare, g.long, g.short, f.bare, f.long, f.short, t.accepted, u.accepted) refl;
    found = rw (g.bare, g.long, g.short, f.bare, f.long, f.short) refl;
  }
  ledgers_first_read own joined s l f g t u = record {
    taken = rw (f.bare, f.long, f.short, t.accepted, u.accepted) refl;
    found = rw (f.bare, f.long, f.short) refl;
  }
  ledgers_first_read joined own s l f g t u = record {
    taken = rw (g.bare, g.long, g.short, t.accepted, u.accepted) refl;
    found = rw (g.bare, g.long, g.short) refl;
  }
  ledgers_first_read joined joined s l f g t u = record { taken = rw (t.accepted, u.accepted) refl; found = refl }
