-- `catchup` after an image of a state yields what `run` yields from that state.
use Rattle.replay.proofs.Prelude.{◌≡◌, ℕ, ◌+◌, List, [], ◌∷◌, length, Result, Ok, Err, sym, ap, subst, zero-add, Hash}
use Rattle.replay.proofs.Prelude.{XdrFault, mark, Position, Reading, start_of, StartImage, network_id_of, ImageFault}
use Rattle.replay.proofs.Prelude.{ClosingState, IsJudged, images_are_one, Outcome, IsStopped, IsEnd, IsRun, IsStarted}
use Rattle.replay.proofs.Prelude.{IsOutcomeOf, frames, max_record_len, outcome_after, CatchupsAgree}
use Rattle.reports.proofs.Marking.{moved, Moved, mark_moves}
use Rattle.replay.proofs.OneOutcome.{runs_are_one}

-- ---- n bytes further on

stopped_after : (s : ClosingState) (n : ℕ) (read later : Reading XdrFault (List ℕ)) (last : Outcome)
    → Moved n read later → IsStopped s read last → IsStopped s later (outcome_after n last)
stopped_after s n (Err wrong) later last moves is =
    subst (λ (r : Reading XdrFault (List ℕ)). IsStopped s r (outcome_after n last)) (sym moves)
    (ap (outcome_after n) is)
stopped_after s n (Ok x) later last moves (wrong, closes, is) =
    subst (λ (r : Reading XdrFault (List ℕ)). IsStopped s r (outcome_after n last)) (sym moves)
    (wrong, closes, ap (outcome_after n) is)

end_after : (s : ClosingState) (n at : ℕ) (rest : List ℕ) (last : Outcome) → IsEnd s at rest last
    → IsEnd s (n + at) rest (outcome_after n last)
end_after s n at [] last is = ap (outcome_after n) is
end_after s n at (byte ∷ rest) last is =
    let p : Position = record { at = at; rest = byte ∷ rest } in
    stopped_after s n ((mark max_record_len).read p) ((mark max_record_len).read (moved n p)) last
    (mark_moves max_record_len n p) is

run_after : (s : ClosingState) (n : ℕ) (rest : List ℕ) (o : Outcome) → IsRun s (start_of rest) o
    → IsRun s (record { at = n; rest = rest }) (outcome_after n o)
run_after s n rest o run = record {
  records = run.records;
  rest = run.rest;
  cut = run.cut;
  short = run.short;
  lines = run.lines;
  state = run.state;
  closed = run.closed;
  last = outcome_after n run.last;
  ends = subst (λ (at : ℕ). IsEnd run.state (n + at) run.rest (outcome_after n run.last))
      (zero-add (length (frames run.records)))
      (end_after run.state n (0 + length (frames run.records)) run.rest run.last run.ends);
  is = ap (outcome_after n) run.is;
}

-- ---- after an image

abbrev judged : Result ClosingState ImageFault → Result ClosingState ImageFault
judged r = r

started_from : (network : Hash) (image : StartImage) (p : Position) (s : ClosingState) (o : Outcome)
    → IsJudged network image (Ok s) → IsOutcomeOf network (Ok (image, p)) o → IsRun s p o
started_from network image p s o is (answer, other, started) =
    let same : judged answer ≡ Ok s = images_are_one network image answer (Ok s) other is in
    subst (λ (r : Result ClosingState ImageFault). IsStarted r p o) same started

pub catchups_agree : CatchupsAgree
catchups_agree passphrase input image p s o own reads is outcome run =
    runs_are_one s p o (outcome_after p.at own)
    (started_from (network_id_of passphrase) image p s o is
    (subst (λ (r : Reading XdrFault StartImage). IsOutcomeOf (network_id_of passphrase) r o) reads outcome))
    (run_after s p.at p.rest own run)
