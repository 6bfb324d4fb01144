use Rattle.command_words.proofs.Prelude.{◌≡◌, ◌∙◌, ap, ap₂, sym, inl, List, ℕ, codes, found_of, rows_of, ArgMatches}
use Rattle.command_words.proofs.Prelude.{Command, Init, Run, CatchUp, Show, Sample, History, Changes, Verify, Path}
use Rattle.command_words.proofs.Prelude.{name_of, FindsOptions}
use Rattle.command_words.proofs.Names.{of_init, of_run, of_catchup, of_show, of_sample, of_history, of_changes}
use Rattle.command_words.proofs.Names.{of_verify, of_path}
use Rattle.command_words.proofs.values.command_of.Goals as goal

abbrev Has : ArgMatches → Command → Type 0
Has values command = FindsOptions command (rows_of (found_of values))

pub returns-in-init : goal.returns-in-init
returns-in-init c = λ command name finds.
    let of = of_init (Has c.args.values.now) command (sym c.in-init.is ∙ name) finds in
    ap Init (c.text_in.ensures of.0 of.2) ∙ sym of.1

pub returns-in-run : goal.returns-in-run
returns-in-run c = λ command name finds.
    let of = of_run (Has c.args.values.now) command (sym c.in-run.is ∙ name) finds in
    ap Run (c.number_in.ensures of.0 of.2) ∙ sym of.1

pub returns-in-catchup : goal.returns-in-catchup
returns-in-catchup c = λ command name finds.
    let of = of_catchup (Has c.args.values.now) command (sym c.in-catchup.is ∙ name) finds in
    ap CatchUp (c.text_in-in-catchup.ensures of.0 of.2) ∙ sym of.1

pub returns-in-show : goal.returns-in-show
returns-in-show c = λ command name finds. sym (of_show command (sym c.in-show.is ∙ name))

pub returns-in-sample : goal.returns-in-sample
returns-in-sample c = λ command name finds.
    let of = of_sample (Has c.args.values.now) command (sym c.in-sample.is ∙ name) finds in
    let seed = c.number_in-in-sample.ensures of.0 (inl of.3.0) in
    let ledgers = c.number_in-in-sample-2.ensures of.1 (inl of.3.1) in
    ap₂ Sample seed ledgers ∙ sym of.2

pub returns-in-history : goal.returns-in-history
returns-in-history c = λ command name finds.
    let of = of_history (Has c.args.values.now) command (sym c.in-history.is ∙ name) finds in
    ap History (c.text_in-in-history.ensures of.0 of.2) ∙ sym of.1

pub returns-in-changes : goal.returns-in-changes
returns-in-changes c = λ command name finds.
    let of = of_changes (Has c.args.values.now) command (sym c.in-changes.is ∙ name) finds in
    ap Changes (c.text_in-in-changes.ensures of.0 of.2) ∙ sym of.1

pub returns-in-verify : goal.returns-in-verify
returns-in-verify c = λ command name finds. sym (of_verify command (sym c.in-verify.is ∙ name))

pub returns-in-path : goal.returns-in-path
returns-in-path c = λ command name finds. sym (of_path command (sym c.in-path.is ∙ name))

module _ (name : List ℕ) (init : name ≡ codes "init" → ⊥) (run : name ≡ codes "run" → ⊥)
    (catchup : name ≡ codes "catchup" → ⊥) (show : name ≡ codes "show" → ⊥) (sample : name ≡ codes "sample" → ⊥)
    (history : name ≡ codes "history" → ⊥) (changes : name ≡ codes "changes" → ⊥) (verify : name ≡ codes "verify" → ⊥)
    (path : name ≡ codes "path" → ⊥) where
  no_name : (command : Command) → name ≡ name_of command → ⊥
  no_name (Init p) e = init e
  no_name (Run w) e = run e
  no_name (CatchUp p) e = catchup e
  no_name Show e = show e
  no_name (Sample s l) e = sample e
  no_name (History p) e = history e
  no_name (Changes p) e = changes e
  no_name Verify e = verify e
  no_name Path e = path e

pub returns-in_default : goal.returns-in_default
returns-in_default c = λ command name finds.
    let arm = c.in_default in
    absurd (no_name c.args.name.now arm.not-init arm.not-run arm.not-catchup arm.not-show arm.not-sample
    arm.not-history arm.not-changes arm.not-verify arm.not-path command name)
