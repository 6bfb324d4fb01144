-- That what a ledger does are events of the machine.
use Rattle.replay.proofs.Prelude.{◌≡◌, inl, inr, ℕ, zero, suc, ◌+◌, ◌≤◌, ◌<◌, Bool, true, false, List, [], ◌∷◌, length}
use Rattle.replay.proofs.Prelude.{if◌then◌else◌, Option, Some, None, Result, Ok, Err, refl, sym, ap, subst, ◌∙◌, arith}
use Rattle.replay.proofs.Prelude.{slice_get, ClosingState, PreparedClose, IsClose, closes_are_one}
use Rattle.std.proofs.Common.{set}
use Rattle.std.proofs.lemmas.Bool.{cases_eq}
use Rattle.std.proofs.lemmas.List.{length-set, get_or-set_same, get_or-set_other}
use Rattle.std.proofs.lemmas.Option.{same_Some}
use Rattle.stored_outcome.specs.bucket_core.Bucket.{Contents}
use Rattle.stored_outcome.specs.bucket_core.File.{file_of}
use Rattle.worker_merges.specs.bucket_merge.Job.{Job}
use Rattle.worker_merges.specs.bucket_merge.Merge.{IsMerge}
use Rattle.stored_outcome.specs.bucket_levels.Spills.{level_count, upper, spills}
use Rattle.stored_outcome.specs.bucket_levels.InOrder.{PendingInputs, put_at, pending_inputs}
use Rattle.stored_outcome.specs.bucket_levels.Pending.{PendingAt, not_pending, begun, pending_at, start_of}
use Rattle.stored_outcome.specs.bucket_levels.Pending.{AreRenewed}
use Rattle.stored_outcome.specs.bucket_levels.HandIn.{TakesIn, IsRefusedFor, handed_in}
use Rattle.stored_outcome.specs.bucket_levels.Levels.{LevelsAt}
use Rattle.stored_outcome.specs.bucket_levels.declared.hand_in.HandInFault.{HandInFault}
use Rattle.stored_outcome.specs.bucket_levels.declared.hand_in.HandInFault.TheVariants as fault
use Rattle.stored_outcome.proofs.bucket_levels_proofs.Ordering.{put_same, put_other}
use Rattle.stored_outcome.specs.close_rules.declared.close_fault.CloseFault.{CloseFault}
use Rattle.worker_merges.specs.ledger_close.States.{LedgerAt, levels_at}
use Rattle.worker_merges.specs.Adopting.{IsHandedIn}
use Rattle.replay.specs.Machine.{Machine, IsInstall, IsHandIn}
use Rattle.replay.specs.LedgerEvents.{is_there, Shows, made_of, HandInsAreEvents, ClosesAreEvents}
use Rattle.replay.proofs.Machining.{IsSound, all_kept, first_sound, install_accepts}
use Rattle.replay.proofs.Possible.{installed}
use Rattle.reports.proofs.LedgerNumbers.{next_seq}

-- ---- outcomes

-- what is pending into a level of the machine, by the ledger
abbrev inputs_by : LedgerAt → ℕ → PendingInputs
inputs_by l level = pending_inputs l.state.levels l.state.header.ledger_seq level

pending_by : (s : ClosingState) (m : Machine) (l : LedgerAt) (level : ℕ) → IsSound s m → Shows m l → 1 ≤ level
    → level < level_count → m.merges level ≡ inputs_by l level
pending_by s m l level sound shows low high = sound.files.merges level low high
    ∙ ap (λ (x : ClosingState). pending_inputs x.levels x.header.ledger_seq level) shows.state

taken_in_shows : (m : Machine) (l new : LedgerAt) (out : Job) (bucket : Contents) → Shows m l → out.level < level_count
    → TakesIn (levels_at l) out (levels_at new) → new.state ≡ l.state
    → Shows (record m { ready = put_at m.ready out.level (Some bucket) }) new
taken_in_shows m l new out bucket shows high takes same =
    let at = out.level in
    let merge = handed_in (pending_at l.pending at) in
    let left : new.pending ≡ set l.pending at merge = ap (λ (x : LevelsAt). x.pending) takes.left in
    let count = shows.count in
    record {
      state = shows.state ∙ sym same;
      count = ap (λ (x : List PendingAt). length x) left ∙ length-set l.pending at merge ∙ count;
      ready = λ level low below.
          ap (λ (x : List PendingAt). (pending_at x level).ready) left ∙ (elim (cases_eq level at) [
            | inl here ↦ subst (λ (n : ℕ). (pending_at (set l.pending at merge) n).ready
                ≡ is_there (put_at m.ready at (Some bucket) n)) (sym here)
                (ap (λ (p : PendingAt). p.ready) (get_or-set_same l.pending at merge not_pending
                (omega (arith, high, count))) ∙ sym (ap is_there (put_same m.ready at (Some bucket))))
            | inr other ↦ ap (λ (p : PendingAt). p.ready) (get_or-set_other l.pending at level merge not_pending other)
                ∙ shows.ready level low below
                ∙ sym (ap is_there (put_other m.ready at (Some bucket) level other))
          ]);
    }

-- what the ledger refuses is none that is pending
not_due : (l : LedgerAt) (out : Job) (wrong : HandInFault) → IsRefusedFor (levels_at l) out wrong
    → record { start = out.seq; older = out.curr; newer = out.snap } ≡ inputs_by l out.level → ⊥
not_due l out (fault.StaleMerge level given due) (at, is, should, apart) same =
    apart (is ∙ ap (λ (p : PendingInputs). p.start) same
    ∙ ap (λ (n : ℕ). start_of n l.state.header.ledger_seq) (sym at) ∙ sym should)
not_due l out (fault.WrongInputs level false index) (at, start, differ) same =
    differ.apart (ap (λ (c : Contents). slice_get (file_of c) index)
    (ap (λ (n : ℕ). (inputs_by l n).older) at ∙ sym (ap (λ (p : PendingInputs). p.older) same)))
not_due l out (fault.WrongInputs level true index) (at, start, curr, differ) same =
    differ.apart (ap (λ (c : Contents). slice_get (file_of c) index)
    (ap (λ (n : ℕ). (inputs_by l n).newer) at ∙ sym (ap (λ (p : PendingInputs). p.newer) same)))

hand_in_event : (s : ClosingState) (m : Machine) (l new : LedgerAt) (out : Job) (bucket : Contents)
    (is : IsMerge out.level out.curr out.snap bucket) → IsSound s m → Shows m l → out.level < level_count
    → IsHandedIn out l new → (after : Machine) × IsHandIn (made_of out bucket is) m after × Shows after new
hand_in_event s m l new out bucket is sound shows high (inl (takes, same)) =
    let given : record { start = out.seq; older = out.curr; newer = out.snap } ≡ inputs_by l out.level =
    (λ i. record { start = takes.is.start i; older = takes.is.curr i; newer = takes.is.snap i }) in (
      record m { ready = put_at m.ready out.level (Some bucket) },
      inl (
        record {
          low = takes.is.deep;
          high = high;
          inputs = given ∙ sym (pending_by s m l out.level sound shows takes.is.deep high);
        },
        refl,
      ),
      taken_in_shows m l new out bucket shows high takes same,
    )
hand_in_event s m l new out bucket is sound shows high (inr (wrong, refused, same)) = (
  m,
  inr (
    (λ due. not_due l out wrong refused
        (due.inputs ∙ pending_by s m l out.level sound shows due.low due.high)),
    refl,
  ),
  subst (Shows m) (sym same) shows,
)

pub hand_ins_are_events : HandInsAreEvents
hand_ins_are_events s first old events l new out bucket is count begins happen shows high handed =
    hand_in_event s old l new out bucket is (all_kept s events first old happen (first_sound s first count begins))
    shows high handed

-- ---- closes

abbrev closed_or : Result PreparedClose CloseFault → PreparedClose → PreparedClose
closed_or (Ok closed) other = closed
closed_or (Err wrong) other = other

ready_if : (b : Bool) (old : PendingAt) (there : Option Contents) → old.ready ≡ is_there there
    → (if b then begun else old).ready ≡ is_there (if b then None else there)
ready_if true old there same = refl
ready_if false old there same = same

-- of the merge into each level, the outcome is ready after a close where it was and is not committed
ready_kept : (seq : ℕ) (m : Machine) (l new : LedgerAt) (level : ℕ) → 1 ≤ level → level < level_count → Shows m l
    → AreRenewed seq l.pending new.pending
    → (pending_at new.pending level).ready ≡ is_there (if spills (upper level) seq then None else m.ready level)
ready_kept seq m l new zero low high shows renewed = absurd (omega (arith, low))
ready_kept seq m l new (suc above) low high shows renewed =
    ap (λ (p : PendingAt). p.ready) (renewed.levels (suc above) high)
    ∙ ready_if (spills above seq) (pending_at l.pending (suc above)) (m.ready (suc above))
    (shows.ready (suc above) low high)

close_event : (s : ClosingState) (m : Machine) (l new : LedgerAt) (bytes : List ℕ) (prepared : PreparedClose)
    → IsSound s m → Shows m l → m.hand ≡ Some bytes → m.may ≡ (length m.log + 1) ∷ []
    → IsClose l.state bytes (Ok prepared) → new.state ≡ prepared.state
    → AreRenewed prepared.state.header.ledger_seq l.pending new.pending
    → (after : Machine) × IsInstall m after × Shows after new
close_event s m l new bytes prepared sound shows hand kept closes state renewed =
    let it = installed s m bytes sound hand kept in
    let same_bytes : it.is.bytes ≡ bytes = same_Some it.is.bytes bytes (sym it.is.hand ∙ hand) in
    let mine : IsClose m.state bytes (Ok it.is.closed) =
    subst (λ (b : List ℕ). IsClose m.state b (Ok it.is.closed)) same_bytes
    (install_accepts s m it.new sound it.is) in
    let theirs : IsClose m.state bytes (Ok prepared) =
    subst (λ (x : ClosingState). IsClose x bytes (Ok prepared)) (sym shows.state) closes in
    let one : it.is.closed ≡ prepared =
    ap (λ (r : Result PreparedClose CloseFault). closed_or r prepared)
    (closes_are_one m.state bytes (Ok it.is.closed) (Ok prepared) mine theirs) in
    let seq : prepared.state.header.ledger_seq ≡ m.state.header.ledger_seq + 1 =
    next_seq m.state bytes prepared theirs in (
      it.new,
      it.is,
      record {
        state = it.is.state ∙ ap (λ (c : PreparedClose). c.state) one ∙ sym state;
        count = renewed.count;
        ready = λ level low high.
            ready_kept (m.state.header.ledger_seq + 1) m l new level low high shows
            (subst (λ (n : ℕ). AreRenewed n l.pending new.pending) seq renewed)
            ∙ sym (ap is_there (it.ready level low high));
      },
    )

pub closes_are_events : ClosesAreEvents
closes_are_events s first old events l new bytes prepared count begins happen shows hand kept closes state renewed =
    close_event s old l new bytes prepared
    (all_kept s events first old happen (first_sound s first count begins)) shows hand kept closes state renewed
