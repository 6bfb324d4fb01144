-- The headline, from what mounting and the run after it leave.
use Rattle.replay.proofs.Prelude.{◌≡◌, ℕ, ◌+◌, List, [], refl, sym, ap, subst, ◌∙◌, arith, ◌⊎◌, inl, inr, Seen}
use Rattle.replay.proofs.Prelude.{ClosingState, Status, Image, Disk, Runs, Same, IsSafe, SeenVolume, onward, OpensTo}
use Rattle.replay.proofs.Prelude.{OpensOn, IsAfter, OpensAfter, OpensWithin, OpensInRun, IsFailedEnd, OpensAcknowledged}
use Rattle.replay.proofs.Prelude.{MayRead, Survived, RanFrom, Followed, OpensOnward, KeptOn}
use Rattle.replay.proofs.After.{ack_empty}
use Rattle.replay.proofs.Yields.{closed_network}

-- a content stays as it was, or opens after records
abbrev StaysOrOpens : ClosingState → List ℕ → Image → Image → Type 0
StaysOrOpens s text d c = (c ≡ d) ⊎ OpensWithin s text c

pub safe_opens : (mid : Disk) (s : ClosingState) → IsSafe mid → OpensTo mid.reads s → (c : Image) → mid.may_leave c
    → OpensTo c s
safe_opens mid s safe opens c may = subst (λ (x : Image). OpensTo x s) (sym (safe c may)) opens

complete_runs : (s : ClosingState) (text : List ℕ) (old mid new : Disk) → IsSafe mid → OpensTo mid.reads s
    → Runs Same old mid → Runs (OpensOnward s text) mid new → Runs (StaysOrOpens s text) old new
complete_runs s text old mid new safe opens first second =
    onward {first = Same} {second = OpensOnward s text} {both = StaysOrOpens s text} old mid new
    (λ d e c may_d may_e same step. inr (step (safe_opens mid s safe opens e may_e)))
    (λ d e same. inl same) first second

in_run : (s : ClosingState) (given : List ℕ) (vol : SeenVolume) (c : Image)
    → ((x : Image) → vol.before.left_since vol.before.moment x → vol.before.may_leave x)
    → vol.before.left_since vol.before.moment c
    ⊎ ((d : Image) × vol.before.may_leave d × StaysOrOpens s given d c) → OpensInRun s given vol c
in_run s given vol c only (inl left) = inl (only c left)
in_run s given vol c only (inr (d, may, (inl same))) =
    inl (subst (λ (x : Image). vol.before.may_leave x) (sym same) may)
in_run s given vol c only (inr (d, may, (inr opens))) = inr opens

after_network : (s : ClosingState) (text : List ℕ) (k : ℕ) (lines : List ℕ) (t : ClosingState)
    → IsAfter s text k lines t → t.network ≡ s.network
after_network s text k lines t b =
    ap (λ (x : ClosingState). x.network) (sym b.is)
    ∙ closed_network s b.ahead.records lines b.ahead.state b.ahead.closed

pub after_on : (s : ClosingState) (text : List ℕ) (k : ℕ) (c : Image) → OpensAfter s text k c → OpensOn s.network c
after_on s text k c (lines, t, b, o) = (t, o, after_network s text k lines t b)

one_on : (s : ClosingState) (text : List ℕ) (k : ℕ) (end : Status) (c : Image) → OpensAcknowledged s text k end c
    → OpensOn s.network c
one_on s text k end c (inl o) = after_on s text k c o
one_on s text k end c (inr o) = after_on s text (k + 1) c o.1

same_left : (vol : SeenVolume) (c : Image)
    → ((x : Image) → vol.before.left_since vol.before.moment x → vol.before.may_leave x)
    → vol.before.left_since vol.before.moment c ⊎ ((d : Image) × vol.before.may_leave d × (c ≡ d))
    → vol.before.may_leave c
same_left vol c only (inl left) = only c left
same_left vol c only (inr (d, may, same)) = subst (λ (x : Image). vol.before.may_leave x) (sym same) may

-- mounted, and then run
pub survived : (s : ClosingState) (at : ℕ) (input out : Seen) (vol : SeenVolume) (mid : Disk) (end : Status)
    → ((c : Image) → vol.before.left_since vol.before.moment c → vol.before.may_leave c)
    → vol.now.may_leave vol.now.reads → Runs Same vol.before mid → IsSafe mid → OpensTo mid.reads s
    → (k : KeptOn s at [] input out mid vol.now end) → Survived s k.given k.prefix vol end
survived s at input out vol mid end only reads_now first safe opens k =
    let runs = complete_runs s k.given vol.before mid vol.now safe opens first k.keeps.runs in
    let now = k.keeps.crash vol.now.reads reads_now in
    record {
      moments = λ c left. in_run s k.given vol c only (runs.since vol.before.moment c (omega arith) left);
      later = runs.later;
      count = k.keeps.count;
      acknowledged = k.keeps.acknowledged;
      unbroken = k.keeps.unbroken;
      crash = λ c may. inl (k.keeps.crash c may);
      reads = inl now;
      sound = λ before. record {
        network = s.network;
        crash = λ c may. one_on s k.given k.keeps.count end c (k.keeps.crash c may);
        reads = one_on s k.given k.keeps.count end vol.now.reads now;
      };
    }

-- ---- a run that ends as it is mounted

-- what is read now, a crash might have left before
pub reads_survive : (before now : Disk) → Runs Same before now → now.may_leave now.reads → before.may_leave now.reads
reads_survive before now runs reads =
    let x = runs.crash now.reads reads in
    subst (λ (y : Image). before.may_leave y) (sym x.2) x.1

-- nothing was written to the output, and the volume stays
pub unmounted : (s : ClosingState) (given : List ℕ) (vol : SeenVolume) (end : Status)
    → ((c : Image) → vol.before.left_since vol.before.moment c → vol.before.may_leave c)
    → Runs Same vol.before vol.now → IsFailedEnd end → MayRead s given 0 vol end vol.now.reads
    → vol.now.may_leave vol.now.reads → Survived s given [] vol end
unmounted s given vol end only runs failed reads now = record {
  moments = λ c left. inl (same_left vol c only (runs.since vol.before.moment c (omega arith) left));
  later = runs.later;
  count = 0;
  acknowledged = ack_empty s given [] refl;
  unbroken = λ un. refl;
  crash = λ c may. let x = runs.crash c may in
      inr (refl, failed, subst (λ (y : Image). vol.before.may_leave y) (sym x.2) x.1);
  reads = reads;
  sound = λ before.
      let sound_now = λ (c : Image) (may : vol.now.may_leave c). let x = runs.crash c may in
      subst (λ (y : Image). OpensOn before.network y) (sym x.2) (before.crash x.0 x.1) in
      record { network = before.network; crash = sound_now; reads = sound_now vol.now.reads now };
}

-- ---- an entire run after a mount

pub ran_from : (s : ClosingState) (input out : Seen) (vol : SeenVolume) (mid : Disk) (F : Type 0) (end : Status)
    → ((c : Image) → vol.before.left_since vol.before.moment c → vol.before.may_leave c)
    → vol.now.may_leave vol.now.reads → Runs Same vol.before mid → IsSafe mid → OpensTo mid.reads s
    → Followed s 0 [] input out F end → KeptOn s 0 [] input out mid vol.now end → RanFrom s input out vol end
ran_from s input out vol mid F end only reads_now first safe opens f k = record {
  answered = f.answered;
  is_end = f.is_end;
  given = k.given;
  gave = k.gave;
  text = k.prefix;
  received = k.received;
  answer = k.answers.answer;
  entire = k.answers.entire;
  survived = survived s 0 input out vol mid end only reads_now first safe opens k;
}
