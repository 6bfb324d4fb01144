-- That each event of the machine can happen.
use Rattle.replay.proofs.Prelude.{◌≡◌, inl, inr, ℕ, zero, suc, ◌+◌, ◌≤◌, ◌<◌, Bool, true, false, List, [], ◌∷◌, ◌++◌}
use Rattle.replay.proofs.Prelude.{length, if◌then◌else◌, Option, Some, None, IsSome, refl, sym, ap, subst, ◌∙◌}
use Rattle.replay.proofs.Prelude.{arith, slice_get, length-append, ClosingState, PreparedClose}
use Rattle.std.proofs.Common.{true≢false}
use Rattle.std.proofs.lemmas.Bool.{cases_eq, cases_lt}
use Rattle.std.proofs.lemmas.List.{get_or_past}
use Rattle.stored_outcome.specs.header_chain.SkipList.{finished}
use Rattle.stored_outcome.specs.bucket_core.Bucket.{Contents}
use Rattle.worker_merges.specs.bucket_merge.Walk.{merge_of}
use Rattle.worker_merges.proofs.bucket_merge_proofs.Merging.{pass_is_merge}
use Rattle.stored_outcome.specs.bucket_levels.Hash.{list_hash}
use Rattle.stored_outcome.specs.bucket_levels.Spills.{level_count, upper, spills}
use Rattle.stored_outcome.specs.bucket_levels.Pairs.{Pair, empty_pair, pair_at}
use Rattle.stored_outcome.specs.bucket_levels.InOrder as levels
use levels.{PendingInputs, InOrder, put_at, IsNext, spilled, committed, IsCommittedIf, AreCommitted, IsStepInOrder}
use levels.{pending_inputs}
use Rattle.stored_outcome.proofs.bucket_levels_proofs.Ordering.{put_same, put_other, steps_are_in_order}
use Rattle.stored_outcome.specs.close_rules.Close.{upgraded_header}
use Rattle.replay.specs.Machine.{Machine, IsInstall, IsReopening}
use Rattle.replay.specs.Machine.{MayLeave}
use Rattle.replay.specs.PossibleEvents.{CanGoOn, MachinesBegin, MachinesGoOn}
use Rattle.replay.proofs.Machining.{in_order, IsSound, all_kept, first_sound}

-- ---- a step in order

some_next : (ready : Option Contents) (level : ℕ) (merge : PendingInputs)
    → (next : Contents) × IsNext ready level merge next
some_next (Some outcome) level merge = (outcome, refl)
some_next None level merge =
    (merge_of level merge.older merge.newer, pass_is_merge level merge.older merge.newer)

-- One level's part of it leaves the files of all levels below. What was ready there is committed, where the level
-- above spills.
record CommittedIf (b : Bool) (above seq : ℕ) (old : InOrder) : Type 0 where
  new : InOrder
  is : IsCommittedIf b above seq old new
  deeper : (level : ℕ) → suc above < level → new.pairs level ≡ old.pairs level
  ready : new.ready (suc above) ≡ (if b then None else old.ready (suc above))
  others : (level : ℕ) → (level ≡ suc above → ⊥) → new.ready level ≡ old.ready level

committed_if : (b : Bool) (above seq : ℕ) (old : InOrder) → CommittedIf b above seq old
committed_if true above seq old =
    let level = suc above in
    let next = some_next (old.ready level) level (old.merges level) in
    let emptied = put_at old.pairs above (spilled (old.pairs above)) in
    record {
      new = committed above seq next.0 old;
      is = (next.0, next.1, refl);
      deeper = λ deep below.
          put_other emptied level (record (old.pairs level) { curr = next.0 }) deep (λ e. omega (arith, below, e))
          ∙ put_other old.pairs above (spilled (old.pairs above)) deep (λ e. omega (arith, below, e));
      ready = put_same old.ready level None;
      others = λ other apart. put_other old.ready level None other apart;
    }
committed_if false above seq old = record {
  new = old;
  is = refl;
  deeper = λ deep below. refl;
  ready = refl;
  others = λ other apart. refl;
}

-- what is ready after it
abbrev pub ready_after : (seq : ℕ) → InOrder → (level : ℕ) → Option Contents
ready_after seq old level = if spills (upper level) seq then None else old.ready level

record AllCommitted (level seq : ℕ) (old : InOrder) : Type 0 where
  new : InOrder
  are : AreCommitted level seq old new
  deeper : (deep : ℕ) → level < deep → new.pairs deep ≡ old.pairs deep
  ready : (i : ℕ) → 1 ≤ i → i ≤ level → new.ready i ≡ ready_after seq old i
  deeper_ready : (deep : ℕ) → level < deep → new.ready deep ≡ old.ready deep

all_committed : (level seq : ℕ) (old : InOrder) → AllCommitted level seq old
unfolding AreCommitted
all_committed zero seq old = record {
  new = old;
  are = refl;
  deeper = λ deep below. refl;
  ready = λ i low high. absurd (omega (arith, low, high));
  deeper_ready = λ deep below. refl;
}
all_committed (suc above) seq old =
    let one = committed_if (spills above seq) above seq old in
    let rest = all_committed above seq one.new in
    record {
      new = rest.new;
      are = (one.new, one.is, rest.are);
      deeper = λ deep below. rest.deeper deep (omega (arith, below)) ∙ one.deeper deep below;
      ready = λ i low high. elim (cases_eq i (suc above)) [
        | inl here ↦ subst (λ (n : ℕ). rest.new.ready n ≡ ready_after seq old n) (sym here)
            (rest.deeper_ready (suc above) (omega arith) ∙ one.ready)
        | inr other ↦ rest.ready i low (omega (arith, high, other))
            ∙ ap (λ (r : Option Contents). if spills (upper i) seq then None else r) (one.others i other)
      ];
      deeper_ready = λ deep below. rest.deeper_ready deep (omega (arith, below))
          ∙ one.others deep (λ e. omega (arith, below, e));
    }

record Stepped (seq : ℕ) (fresh : Contents) (old : InOrder) : Type 0 where
  new : InOrder
  is : IsStepInOrder seq fresh old new
  deeper : (level : ℕ) → 10 < level → new.pairs level ≡ old.pairs level
  ready : (level : ℕ) → 1 ≤ level → level < level_count → new.ready level ≡ ready_after seq old level

stepped : (seq : ℕ) (fresh : Contents) (old : InOrder) → Stepped seq fresh old
stepped seq fresh old =
    let all = all_committed 10 seq old in
    let after = all.new in
    let first = merge_of 0 (after.pairs 0).curr fresh in
    record {
      new = record after { pairs = put_at after.pairs 0 (record (after.pairs 0) { curr = first }) };
      is = record {
        after = after;
        committed = all.are;
        first = first;
        merged = pass_is_merge 0 (after.pairs 0).curr fresh;
        is = refl;
      };
      deeper = λ level below.
          put_other after.pairs 0 (record (after.pairs 0) { curr = first }) level (λ e. omega (arith, below, e))
          ∙ all.deeper level below;
      ready = λ level low high. all.ready level low (omega (arith, high));
    }

-- ---- closes

-- the levels of a machine step in order, to files that are a list again
record LevelsStepped (m : Machine) (fresh : Contents) : Type 0 where
  after : List Pair
  new : InOrder
  steps : IsStepInOrder (m.state.header.ledger_seq + 1) fresh (in_order m) (record new { pairs = pair_at after })
  count : length after ≡ level_count
  ready : (level : ℕ) → 1 ≤ level → level < level_count
      → new.ready level ≡ ready_after (m.state.header.ledger_seq + 1) (in_order m) level

levels_stepped : (s : ClosingState) (m : Machine) (fresh : Contents) → IsSound s m → LevelsStepped m fresh
levels_stepped s m fresh sound =
    let seq = m.state.header.ledger_seq in
    let before = m.state.levels in
    let step = stepped (seq + 1) fresh (in_order m) in
    let law = steps_are_in_order seq fresh before (in_order m) step.new sound.files step.is in
    let old_count = sound.files.count in
    let new_count = law.1.count in
    let Alike : ℕ → Type 0 = λ level. step.new.pairs level ≡ pair_at law.0 level in
    let same : (level : ℕ) → Alike level = λ level. elim (cases_lt level level_count) [
      | inl lt ↦ law.2.files level lt
      | inr deep ↦ step.deeper level (omega (arith, deep))
          ∙ get_or_past before level empty_pair (omega (arith, deep, old_count))
          ∙ sym (get_or_past law.0 level empty_pair (omega (arith, deep, new_count)))
    ] in
    record {
      after = law.0;
      new = step.new;
      steps = subst (λ (pairs : ℕ → Pair). IsStepInOrder (seq + 1) fresh (in_order m)
          (record step.new { pairs = pairs })) (λ i level. same level i) step.is;
      count = new_count;
      ready = step.ready;
    }

-- a machine whose record in hand has closed its ledger
pub record Installed (m : Machine) : Type 0 where
  pub new : Machine
  pub is : IsInstall m new
  pub ready : (level : ℕ) → 1 ≤ level → level < level_count
      → new.ready level ≡ ready_after (m.state.header.ledger_seq + 1) (in_order m) level

pub installed : (s : ClosingState) (m : Machine) (bytes : List ℕ) → IsSound s m → m.hand ≡ Some bytes
    → m.may ≡ (length m.log + 1) ∷ [] → Installed m
installed s m bytes sound hand kept =
    let accepted = sound.accepted bytes hand in
    let taken = accepted.1.1.taken in
    let closes = accepted.1.1.closes in
    let step = levels_stepped s m closes.fresh sound in
    let header = finished (upgraded_header m.state taken.closing) (list_hash step.after) in
    let closed : PreparedClose = record {
      results = accepted.0.results;
      state = record accepted.0.state { header = header; levels = step.after };
    } in
    let new : Machine = record {
      state = closed.state;
      log = m.log ++ bytes ∷ [];
      merges = step.new.merges;
      ready = step.new.ready;
      hand = None;
      may = length (m.log ++ bytes ∷ []) ∷ [];
      acked = length (m.log ++ bytes ∷ []);
    } in
    record {
      new = new;
      is = record {
        bytes = bytes;
        hand = hand;
        kept = kept;
        taken = taken;
        closed = closed;
        closes = record {
          results = closes.results;
          network = closes.network;
          entries = closes.entries;
          fresh = closes.fresh;
          recorded = record { meta = closes.recorded.meta; changes = closes.recorded.changes };
          levels = (step.count, step.steps);
          header = refl;
        };
        state = refl;
        log = refl;
        free = refl;
        may = refl;
        acked = refl;
      };
      ready = step.ready;
    }

-- ---- crashes

in_hand : (hand : Option (List ℕ)) → IsSome hand → (bytes : List ℕ) × (hand ≡ Some bytes)
in_hand (Some bytes) some = (bytes, refl)
in_hand None some = absurd (true≢false (sym some))

-- what is there after a crash that left this state of these records
abbrev opened_again : (s : ClosingState) → (log : List (List ℕ)) → (acked : ℕ) → Machine
opened_again s log acked = record {
  state = s;
  log = log;
  merges = pending_inputs s.levels s.header.ledger_seq;
  ready = λ level. None;
  hand = None;
  may = length log ∷ [];
  acked = acked;
}

can_reopen : (s : ClosingState) (m : Machine) (index count : ℕ) → IsSound s m → slice_get m.may index ≡ Some count
    → MayLeave m count → (new : Machine) × IsReopening m new × (length new.log ≡ count)
can_reopen s m index count sound may_be (inl is) = (
  opened_again m.state m.log m.acked,
  record {
    index = index;
    count = count;
    may_be = may_be;
    left = inr ((λ e. omega (arith, is, e)), refl, refl);
    merges = λ level low high. refl;
    unready = λ level. refl;
    free = refl;
    may = refl;
    acked = refl;
  },
  sym is,
)
can_reopen s m index count sound may_be (inr (is, some)) =
    let hand = in_hand m.hand some in
    let bytes = hand.0 in
    let closed = sound.accepted bytes hand.1 in
    let log = m.log ++ bytes ∷ [] in
    let longer : length log ≡ length m.log + 1 = length-append m.log (bytes ∷ []) in (
      opened_again closed.0.state log m.acked,
      record {
        index = index;
        count = count;
        may_be = may_be;
        left = inl (is, bytes, hand.1, closed.0, closed.1, refl, refl);
        merges = λ level low high. refl;
        unready = λ level. refl;
        free = refl;
        may = refl;
        acked = refl;
      },
      longer ∙ sym is,
    )

-- ---- the laws

pub machines_begin : MachinesBegin
machines_begin s = (
  opened_again s [] 0,
  record {
    state = refl;
    log = refl;
    merges = λ level low high. refl;
    unready = λ level. refl;
    free = refl;
    may = refl;
    acked = refl;
  },
)

goes_on : (s : ClosingState) (m : Machine) → IsSound s m → CanGoOn m
goes_on s m sound = record {
  takes = λ bytes closed free accepted.
      (record m { hand = Some bytes }, record { free = free; closed = closed; accepted = accepted; is = refl }, refl);
  writes = λ may some go. (record m { may = may }, inr (some, go, refl), refl);
  installs = λ bytes hand kept. let it = installed s m bytes sound hand kept in (it.new, it.is);
  makes = λ level low high.
      let merge = m.merges level in (
        record {
          level = level;
          inputs = merge;
          bucket = merge_of level merge.older merge.newer;
          is = pass_is_merge level merge.older merge.newer;
        },
        refl,
        record { low = low; high = high; inputs = refl },
      );
  hands_in = λ made due. (
    record m { ready = put_at m.ready made.level (Some made.bucket) },
    inl (due, refl),
    put_same m.ready made.level (Some made.bucket),
  );
  refuses = λ made other. inr (other, refl);
  reopens = λ index count may_be. can_reopen s m index count sound may_be (sound.may index count may_be);
}

pub machines_go_on : MachinesGoOn
machines_go_on s first last events count begins happen =
    goes_on s last (all_kept s events first last happen (first_sound s first count begins))
