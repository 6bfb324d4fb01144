use Rattle.command_words.proofs.Prelude.{◌≡◌, ◌∙◌, ℕ, List, Bool, IsTrue, sym, subst, inl, inr, Command, Init, Run}
use Rattle.command_words.proofs.Prelude.{CatchUp, Show, Sample, History, Changes, Verify, Path, name_of, AreOptionsOf}
use Rattle.command_words.proofs.Prelude.{words_of}
use Rattle.command_words.proofs.Judging.{none_iff}
use Rattle.command_words.proofs.Names.{of_init, of_run, of_catchup, of_show, of_sample, of_history, of_changes}
use Rattle.command_words.proofs.Names.{of_verify, of_path}
use Rattle.command_words.proofs.judge.are_options_of.Goals as goal

abbrev Has : List (List ℕ) → Command → Type 0
Has options command = AreOptionsOf command options

-- the words are options of the command that alone has this name
judged : (options : List (List ℕ)) (name : List ℕ) (b : Bool) (own : Command)
    → (IsTrue b → AreOptionsOf own options) × (AreOptionsOf own options → IsTrue b) → name ≡ name_of own
    → ((other : Command) → name_of own ≡ name_of other → other ≡ own)
    → (IsTrue b → (command : Command) × (name ≡ name_of command) × AreOptionsOf command options)
    × (((command : Command) × (name ≡ name_of command) × AreOptionsOf command options) → IsTrue b)
judged options name b own iff is only = (
  (λ t. (own, is, iff.0 t)),
  (λ it. iff.1 (subst (Has options) (only it.0 (sym is ∙ it.1)) it.2)),
)

pub returns-in-init : goal.returns-in-init
returns-in-init c =
    let has = Has (words_of c.args.words.now) in
    elim c.in-init.is [
      | inl is ↦ (
        (λ t. let found = c.is_network.ensures.0 t in (Init found.0, is, found.1)),
        (λ it. let of = of_init has it.0 (sym is ∙ it.1) it.2 in c.is_network.ensures.1 (of.0, of.2)),
      )
      | inr (inl is) ↦ (
        (λ t. let found = c.is_network.ensures.0 t in (CatchUp found.0, is, found.1)),
        (λ it. let of = of_catchup has it.0 (sym is ∙ it.1) it.2 in c.is_network.ensures.1 (of.0, of.2)),
      )
      | inr (inr (inl is)) ↦ (
        (λ t. let found = c.is_network.ensures.0 t in (History found.0, is, found.1)),
        (λ it. let of = of_history has it.0 (sym is ∙ it.1) it.2 in c.is_network.ensures.1 (of.0, of.2)),
      )
      | inr (inr (inr is)) ↦ (
        (λ t. let found = c.is_network.ensures.0 t in (Changes found.0, is, found.1)),
        (λ it. let of = of_changes has it.0 (sym is ∙ it.1) it.2 in c.is_network.ensures.1 (of.0, of.2)),
      )
    ]

pub returns-in-run : goal.returns-in-run
returns-in-run c =
    let has = Has (words_of c.args.words.now) in (
      (λ t. let found = c.are_run_options.ensures.0 t in (Run found.0, c.in-run.is, found.1)),
      (λ it.
          let of = of_run has it.0 (sym c.in-run.is ∙ it.1) it.2 in
          c.are_run_options.ensures.1 (of.0, of.2)),
    )

pub returns-in-sample : goal.returns-in-sample
returns-in-sample c =
    let has = Has (words_of c.args.words.now) in (
      (λ t. let found = c.are_sample_options.ensures.0 t in (Sample found.0 found.1, c.in-sample.is, found.2)),
      (λ it.
          let of = of_sample has it.0 (sym c.in-sample.is ∙ it.1) it.2 in
          c.are_sample_options.ensures.1 (of.0, of.1, of.3)),
    )

pub returns-in-show : goal.returns-in-show
returns-in-show c =
    let options = words_of c.args.words.now in
    let name = c.args.name.now in
    let none = none_iff c.args.words.now c.is_empty.result c.is_empty.ensures in
    elim c.in-show.is [
      | inl is ↦ judged options name c.is_empty.result Show none is of_show
      | inr (inl is) ↦ judged options name c.is_empty.result Verify none is of_verify
      | inr (inr is) ↦ judged options name c.is_empty.result Path none is of_path
    ]
