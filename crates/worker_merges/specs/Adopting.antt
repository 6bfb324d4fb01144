-- What a ledger is handed in of finished merges.
use Rattle.std.specs.Prelude.{◌≡◌, ◌⊎◌, List, [], ◌∷◌, ◌++◌}
use Rattle.bucket_merge.specs.Job.{Job}
use Rattle.ledger_close.specs.bucket_levels.HandIn.{TakesIn, IsRefusedFor}
use Rattle.ledger_close.specs.bucket_levels.declared.hand_in.HandInFault.{HandInFault}
use Rattle.ledger_close.specs.States.{LedgerAt, levels_at}
use Rattle.merge_board.specs.declared.log.Sent.{Sent}

-- A merge is handed in: it is ready now, or there is a reason for which it is refused, and nothing changed.
abbrev pub IsHandedIn : (out : Job) → (old new : LedgerAt) → Type 0
IsHandedIn out old new =
    (TakesIn (levels_at old) out (levels_at new) × (new.state ≡ old.state))
    ⊎ ((fault : HandInFault) × IsRefusedFor (levels_at old) out fault × (new ≡ old))

-- merges of some workers are handed in, one after another
abbrev pub AreHandedIn : List Sent → (old new : LedgerAt) → Type 0
AreHandedIn [] old new = new ≡ old
AreHandedIn (sent ∷ more) old new = (mid : LedgerAt) × IsHandedIn sent.out.job old mid × AreHandedIn more mid new

-- all by which the list of what was collected has grown
pub record Adopts (before after : List Sent) (old new : LedgerAt) : Type 0 where
  pub outs : List Sent
  pub grew : after ≡ before ++ outs
  pub handed_in : AreHandedIn outs old new
