-- Which command a name is of.
use Rattle.command_words.proofs.Prelude.{◌≡◌, ℕ, refl, List, codes, Command, Init, Run, CatchUp, Show, Sample, History}
use Rattle.command_words.proofs.Prelude.{Changes, Verify, Path, name_of}
use Rattle.command_words.proofs.Options.{apart, apart_at}

-- with what holds of the command
module _ (P : Command → Type 0) where
  pub of_init : (c : Command) → codes "init" ≡ name_of c → P c
      → (passphrase : List ℕ) × (c ≡ Init passphrase) × P (Init passphrase)
  of_init (Init p) e holds = (p, refl, holds)
  of_init (Run w) e holds = apart _ _ refl e
  of_init (CatchUp p) e holds = apart _ _ refl e
  of_init Show e holds = apart _ _ refl e
  of_init (Sample s l) e holds = apart _ _ refl e
  of_init (History p) e holds = apart _ _ refl e
  of_init (Changes p) e holds = apart _ _ refl e
  of_init Verify e holds = apart _ _ refl e
  of_init Path e holds = apart _ _ refl e

  pub of_run : (c : Command) → codes "run" ≡ name_of c → P c
      → (workers : ℕ) × (c ≡ Run workers) × P (Run workers)
  of_run (Init p) e holds = apart _ _ refl e
  of_run (Run w) e holds = (w, refl, holds)
  of_run (CatchUp p) e holds = apart _ _ refl e
  of_run Show e holds = apart _ _ refl e
  of_run (Sample s l) e holds = apart _ _ refl e
  of_run (History p) e holds = apart _ _ refl e
  of_run (Changes p) e holds = apart _ _ refl e
  of_run Verify e holds = apart _ _ refl e
  of_run Path e holds = apart _ _ refl e

  pub of_catchup : (c : Command) → codes "catchup" ≡ name_of c → P c
      → (passphrase : List ℕ) × (c ≡ CatchUp passphrase) × P (CatchUp passphrase)
  of_catchup (Init p) e holds = apart _ _ refl e
  of_catchup (Run w) e holds = apart _ _ refl e
  of_catchup (CatchUp p) e holds = (p, refl, holds)
  of_catchup Show e holds = apart _ _ refl e
  of_catchup (Sample s l) e holds = apart _ _ refl e
  of_catchup (History p) e holds = apart _ _ refl e
  of_catchup (Changes p) e holds = apart _ _ refl e
  of_catchup Verify e holds = apart _ _ refl e
  of_catchup Path e holds = apart_at 0 _ _ refl e

  pub of_sample : (c : Command) → codes "sample" ≡ name_of c → P c
      → (seed : ℕ) × (ledgers : ℕ) × (c ≡ Sample seed ledgers) × P (Sample seed ledgers)
  of_sample (Init p) e holds = apart _ _ refl e
  of_sample (Run w) e holds = apart _ _ refl e
  of_sample (CatchUp p) e holds = apart _ _ refl e
  of_sample Show e holds = apart _ _ refl e
  of_sample (Sample s l) e holds = (s, l, refl, holds)
  of_sample (History p) e holds = apart _ _ refl e
  of_sample (Changes p) e holds = apart _ _ refl e
  of_sample Verify e holds = apart _ _ refl e
  of_sample Path e holds = apart _ _ refl e

  pub of_history : (c : Command) → codes "history" ≡ name_of c → P c
      → (passphrase : List ℕ) × (c ≡ History passphrase) × P (History passphrase)
  of_history (Init p) e holds = apart _ _ refl e
  of_history (Run w) e holds = apart _ _ refl e
  of_history (CatchUp p) e holds = apart _ _ refl e
  of_history Show e holds = apart _ _ refl e
  of_history (Sample s l) e holds = apart _ _ refl e
  of_history (History p) e holds = (p, refl, holds)
  of_history (Changes p) e holds = apart _ _ refl e
  of_history Verify e holds = apart _ _ refl e
  of_history Path e holds = apart _ _ refl e

  pub of_changes : (c : Command) → codes "changes" ≡ name_of c → P c
      → (passphrase : List ℕ) × (c ≡ Changes passphrase) × P (Changes passphrase)
  of_changes (Init p) e holds = apart _ _ refl e
  of_changes (Run w) e holds = apart _ _ refl e
  of_changes (CatchUp p) e holds = apart _ _ refl e
  of_changes Show e holds = apart _ _ refl e
  of_changes (Sample s l) e holds = apart _ _ refl e
  of_changes (History p) e holds = apart _ _ refl e
  of_changes (Changes p) e holds = (p, refl, holds)
  of_changes Verify e holds = apart _ _ refl e
  of_changes Path e holds = apart _ _ refl e

pub of_show : (c : Command) → codes "show" ≡ name_of c → c ≡ Show
of_show (Init p) e = apart _ _ refl e
of_show (Run w) e = apart _ _ refl e
of_show (CatchUp p) e = apart _ _ refl e
of_show Show e = refl
of_show (Sample s l) e = apart _ _ refl e
of_show (History p) e = apart _ _ refl e
of_show (Changes p) e = apart _ _ refl e
of_show Verify e = apart _ _ refl e
of_show Path e = apart _ _ refl e

pub of_verify : (c : Command) → codes "verify" ≡ name_of c → c ≡ Verify
of_verify (Init p) e = apart _ _ refl e
of_verify (Run w) e = apart _ _ refl e
of_verify (CatchUp p) e = apart _ _ refl e
of_verify Show e = apart _ _ refl e
of_verify (Sample s l) e = apart _ _ refl e
of_verify (History p) e = apart _ _ refl e
of_verify (Changes p) e = apart _ _ refl e
of_verify Verify e = refl
of_verify Path e = apart _ _ refl e

pub of_path : (c : Command) → codes "path" ≡ name_of c → c ≡ Path
of_path (Init p) e = apart _ _ refl e
of_path (Run w) e = apart _ _ refl e
of_path (CatchUp p) e = apart_at 0 _ _ refl e
of_path Show e = apart _ _ refl e
of_path (Sample s l) e = apart _ _ refl e
of_path (History p) e = apart _ _ refl e
of_path (Changes p) e = apart _ _ refl e
of_path Verify e = apart _ _ refl e
of_path Path e = refl
