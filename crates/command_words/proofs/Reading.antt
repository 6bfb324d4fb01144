-- What `clap` reads of words that are a command: each option has its value.
use Rattle.command_words.proofs.Prelude.{◌≡◌, ◌<◌, ◌^◌, ◌∙◌, ℕ, ap, ap₂, refl, sym, subst, inl, inr, arith, true, List}
use Rattle.command_words.proofs.Prelude.{[], ◌∷◌, ◌++◌, Some, codes, digits_value, Row, Text, one_of, read_as}
use Rattle.command_words.proofs.Prelude.{reading_of, subcommand_of, takes, Command, Init, Run, CatchUp, Show, Sample}
use Rattle.command_words.proofs.Prelude.{History, Changes, Verify, Path, name_of, Parses, IsOption, IsNumberOption}
use Rattle.command_words.proofs.Prelude.{AreRunOptions, AreSampleOptions, AreOptionsOf}
use Rattle.command_words.proofs.Prelude.{any_u32, program_app, FindsOptions, FindsNumber}
use Rattle.clap.specs.Simple.{is_simple}
use Rattle.command_words.proofs.Numbers.{u32_accepts, u32_reads}
use Rattle.command_words.proofs.Forms.{form_of, IsTaken}
use Rattle.command_words.proofs.Shapes.{AreRead, more, init_read, catchup_read, history_read, changes_read, show_read}
use Rattle.command_words.proofs.Shapes.{verify_read, path_read, run_alone_read, run_read, with_seed, with_ledgers}
use Rattle.command_words.proofs.Shapes.{seed_first_read, ledgers_first_read}

pub is_simple_program : is_simple (program_app any_u32) ≡ true
is_simple_program = refl

abbrev Reads : Command → List Text → Type 0
Reads command options = (rows : List Row) × AreRead any_u32 (name_of command ∷ options) (name_of command) rows
    × FindsOptions command rows

-- ---- options that are numbers

module _ (name : Text) (n : ℕ) (options : List Text) (is : IsNumberOption name n options) (fits : n < 2 ^ 32) where
  value_fits : digits_value 10 is.value < 2 ^ 32
  value_fits = subst (λ m. m < 2 ^ 32) is.is fits

  pub number_taken : IsTaken any_u32 is.value
  number_taken = record {
    accepted = u32_accepts is.value is.numeral value_fits;
    read = u32_reads is.value is.numeral;
  }

  pub number_finds : (rows : List Row) → one_of name rows ≡ Some (read_as (reading_of any_u32) is.value)
      → FindsNumber name n rows
  number_finds rows e = (is.value, e ∙ ap (λ t. Some t) (u32_reads is.value is.numeral), is.numeral, is.is, fits)

-- ---- the options of each command

init_reads : (p : Text) (options : List Text) → IsOption (codes "network") p options → Reads (Init p) options
init_reads p options is =
    let form = form_of (codes "network") p options is in
    subst (Reads (Init p)) (sym form.1) (_, init_read any_u32 form.0 p form.2, refl)

catchup_reads : (p : Text) (options : List Text) → IsOption (codes "network") p options → Reads (CatchUp p) options
catchup_reads p options is =
    let form = form_of (codes "network") p options is in
    subst (Reads (CatchUp p)) (sym form.1) (_, catchup_read any_u32 form.0 p form.2, refl)

history_reads : (p : Text) (options : List Text) → IsOption (codes "network") p options → Reads (History p) options
history_reads p options is =
    let form = form_of (codes "network") p options is in
    subst (Reads (History p)) (sym form.1) (_, history_read any_u32 form.0 p form.2, refl)

changes_reads : (p : Text) (options : List Text) → IsOption (codes "network") p options → Reads (Changes p) options
changes_reads p options is =
    let form = form_of (codes "network") p options is in
    subst (Reads (Changes p)) (sym form.1) (_, changes_read any_u32 form.0 p form.2, refl)

run_reads : (w : ℕ) (options : List Text) → AreRunOptions w options → Reads (Run w) options
run_reads w options (few, inl (none, zero)) =
    subst (Reads (Run w)) (sym none) ([], run_alone_read any_u32, inr (refl, zero))
run_reads w options (few, inr is) =
    let fits : w < 2 ^ 32 = omega arith in
    let form = form_of (codes "workers") is.value options is.option in
    let rows : List Row = more any_u32 (codes "workers") is.value [] in
    subst (Reads (Run w)) (sym form.1) (
      rows,
      run_read any_u32 form.0 is.value form.2 (number_taken (codes "workers") w options is fits),
      inl (number_finds (codes "workers") w options is fits rows refl),
    )

sample_reads : (s l : ℕ) (options : List Text) → AreSampleOptions s l options → Reads (Sample s l) options
sample_reads s l options are =
    let few : l < 2 ^ 32 = let most = are.few in omega arith in
    let seed = are.seed_option in
    let ledgers = are.ledgers_option in
    let form = form_of (codes "seed") seed.value are.seed_words seed.option in
    let other = form_of (codes "ledgers") ledgers.value are.ledgers_words ledgers.option in
    let taken = number_taken (codes "seed") s are.seed_words seed are.seed_fits in
    let taken' = number_taken (codes "ledgers") l are.ledgers_words ledgers few in
    let finds = number_finds (codes "seed") s are.seed_words seed are.seed_fits in
    let finds' = number_finds (codes "ledgers") l are.ledgers_words ledgers few in
    elim are.either [
      | inl e ↦
          let rows : List Row = with_ledgers any_u32 ledgers.value (with_seed any_u32 seed.value []) in
          subst (Reads (Sample s l)) (sym (e ∙ ap₂ (λ a b. a ++ b) form.1 other.1)) (
            rows,
            seed_first_read any_u32 form.0 other.0 seed.value ledgers.value form.2 other.2 taken taken',
            (finds rows refl, finds' rows refl),
          )
      | inr e ↦
          let rows : List Row = with_seed any_u32 seed.value (with_ledgers any_u32 ledgers.value []) in
          subst (Reads (Sample s l)) (sym (e ∙ ap₂ (λ a b. a ++ b) other.1 form.1)) (
            rows,
            ledgers_first_read any_u32 form.0 other.0 seed.value ledgers.value form.2 other.2 taken taken',
            (finds rows refl, finds' rows refl),
          )
    ]

options_read : (command : Command) (options : List Text) → AreOptionsOf command options → Reads command options
options_read (Init p) options are = init_reads p options are
options_read (Run w) options are = run_reads w options are
options_read (CatchUp p) options are = catchup_reads p options are
options_read Show options are = subst (Reads Show) (sym are) ([], show_read any_u32, tt)
options_read (Sample s l) options are = sample_reads s l options are
options_read (History p) options are = history_reads p options are
options_read (Changes p) options are = changes_reads p options are
options_read Verify options are = subst (Reads Verify) (sym are) ([], verify_read any_u32, tt)
options_read Path options are = subst (Reads Path) (sym are) ([], path_read any_u32, tt)

-- ---- the words

abbrev IsTakenAs : List Text → Command → Type 0
IsTakenAs words command = (takes (program_app any_u32) words ≡ true) × ((rows : List Row)
    × (subcommand_of (program_app any_u32) words ≡ Some (name_of command, rows)) × FindsOptions command rows)

-- words that are a command are taken, and each option has its value
pub command_read : (words : List Text) (command : Command) → Parses words command → IsTakenAs words command
command_read words command (options, is, are) =
    let read = options_read command options are in
    subst (λ ws. IsTakenAs ws command) (sym is) (read.1.taken, (read.0, read.1.found, read.2))
