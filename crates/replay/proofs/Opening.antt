-- What a run is to a volume that opens, and to one that doesn't.
use Rattle.replay.proofs.Prelude.{◌≡◌, ℕ, List, [], Option, refl, sym, subst, ◌⊎◌, inl, inr, Appends, Consumes}
use Rattle.replay.proofs.Prelude.{Appends-nil, Consumes-nil, start_of, Seen, Failed, IsUntouched, Received}
use Rattle.replay.proofs.Prelude.{ClosingState, Status, IsCutShort, IsRecordsEnd, IsRun, IsRunPrefix, Image, Runs, Same}
use Rattle.replay.proofs.Prelude.{SeenVolume, VolumeFailed, HoldsNothing, OpensTo, IsBadStore, RanFrom, IsFailedEnd}
use Rattle.replay.proofs.Prelude.{MayRead, DidNotRun, DidNotOpen, IsOpenedEnd, IsUnopenedEnd, Unopened, RanSo}
use Rattle.stored_outcome.specs.run_outcome.declared.status.Status.TheVariants as status
use Rattle.replay.proofs.Runs.{empty_prefix}
use Rattle.replay.proofs.Turning.{cut_answered}
use Rattle.replay.proofs.After.{opens_none}
use Rattle.replay.proofs.Keeping.{failed_cut}
use Rattle.replay.proofs.Surviving.{reads_survive, unmounted}
use Rattle.replay.proofs.OneState.{opens_to_one, opens_not_missing, opens_not_bad, missing_not_bad, bad_at_one}

abbrev pub NowLeaves : SeenVolume → Type 0
NowLeaves vol = vol.now.may_leave vol.now.reads

abbrev pub OnlyBefore : SeenVolume → Type 0
OnlyBefore vol = (c : Image) → vol.before.left_since vol.before.moment c → vol.before.may_leave c

pub cut_is_end : (end : Status) → IsCutShort end → IsRecordsEnd end
cut_is_end status.ReadFault short = tt
cut_is_end status.WriteFault short = tt
cut_is_end status.DiskFault short = tt
cut_is_end status.NoMemory short = tt
cut_is_end status.Done short = absurd short
cut_is_end status.Usage short = absurd short
cut_is_end status.Refused short = absurd short
cut_is_end (status.BadStore file offset) short = absurd short
cut_is_end (status.BadInput at) short = absurd short
cut_is_end (status.BadImage rule) short = absurd short
cut_is_end status.Missing short = absurd short
cut_is_end status.AlreadyThere short = absurd short
cut_is_end status.TooLarge short = absurd short

nothing_received : (out : Seen) → IsUntouched out → Received out []
nothing_received out same =
    subst (λ (o : Option (List ℕ)). Appends out.before o []) (sym same.0) (Appends-nil out.before)

cut_run : (s : ClosingState) (input out : Seen) (vol : SeenVolume) (end : Status) → OnlyBefore vol → NowLeaves vol
    → DidNotRun input out vol → Runs Same vol.before vol.now → IsFailedEnd end
    → MayRead s [] 0 vol end vol.now.reads → RanFrom s input out vol end
cut_run s input out vol end only now d runs failed reads = let f = failed_cut end failed in record {
  answered = cut_answered (λ bytes. IsRun s (start_of bytes)) (λ bytes. IsRunPrefix s (start_of bytes)) input.before out
      end (nothing_received out d.unwritten) f.0 (λ bytes. empty_prefix s (start_of bytes));
  is_end = cut_is_end end f.0;
  given = [];
  gave = subst (λ (o : Option (List ℕ)). Consumes input.before o []) (sym d.unread.0) (Consumes-nil input.before);
  text = [];
  received = nothing_received out d.unwritten;
  answer = inr (f.0, empty_prefix s (start_of []));
  entire = λ e. absurd (f.1 e);
  survived = unmounted s [] vol end only runs failed reads now;
}

not_begun : (s : ClosingState) (input out : Seen) (vol : SeenVolume) (end : Status) → OpensTo vol.before.reads s
    → OnlyBefore vol → NowLeaves vol → DidNotRun input out vol → Runs Same vol.before vol.now → Unopened vol end
    → RanFrom s input out vol end
not_begun s input out vol status.Missing o only now d runs u = absurd (opens_not_missing vol.before.reads s o u.0)
not_begun s input out vol (status.BadStore file offset) o only now d runs u =
    absurd (opens_not_bad vol.before.reads s file offset o u.0)
not_begun s input out vol status.NoMemory o only now d runs u =
    cut_run s input out vol status.NoMemory only now d runs tt
    (inl (inl (opens_none s [] vol.now.reads (subst (λ (x : Image). OpensTo x s) (sym u) o))))
not_begun s input out vol status.DiskFault o only now d runs u =
    cut_run s input out vol status.DiskFault only now d runs tt
    (inr (refl, tt, u, reads_survive vol.before vol.now runs now))
not_begun s input out vol status.Done o only now d runs u = absurd u
not_begun s input out vol status.Usage o only now d runs u = absurd u
not_begun s input out vol status.Refused o only now d runs u = absurd u
not_begun s input out vol status.ReadFault o only now d runs u = absurd u
not_begun s input out vol status.WriteFault o only now d runs u = absurd u
not_begun s input out vol (status.BadInput at) o only now d runs u = absurd u
not_begun s input out vol (status.BadImage rule) o only now d runs u = absurd u
not_begun s input out vol status.AlreadyThere o only now d runs u = absurd u
not_begun s input out vol status.TooLarge o only now d runs u = absurd u

-- on a volume that opens
pub ran_opened : (s : ClosingState) (input out : Seen) (vol : SeenVolume) (end : Status) → OpensTo vol.before.reads s
    → OnlyBefore vol → NowLeaves vol → RanSo input out vol end → RanFrom s input out vol end
ran_opened s input out vol end o only now (inl (t, opens, r)) =
    subst (λ (x : ClosingState). RanFrom x input out vol end) (opens_to_one vol.before.reads t s opens o) r
ran_opened s input out vol end o only now (inr (d, u)) = not_begun s input out vol end o only now d d.runs u

-- ---- on a volume that doesn't open

abbrev IsOff : (before : Status) → (err : Seen) → SeenVolume → Status → Type 0
IsOff before err vol end =
    (end ≡ before) ⊎ ((end ≡ status.DiskFault) × VolumeFailed vol) ⊎ ((end ≡ status.WriteFault) × Failed err)
    ⊎ (end ≡ status.NoMemory)

missing_end : (err : Seen) (vol : SeenVolume) (end : Status) → HoldsNothing vol.before.reads → Unopened vol end
    → IsOff status.Missing err vol end
missing_end err vol status.Missing none u = inl refl
missing_end err vol (status.BadStore file offset) none u =
    absurd (missing_not_bad vol.before.reads file offset none u.0)
missing_end err vol status.NoMemory none u = inr (inr (inr refl))
missing_end err vol status.DiskFault none u = inr (inl (refl, u))
missing_end err vol status.Done none u = absurd u
missing_end err vol status.Usage none u = absurd u
missing_end err vol status.Refused none u = absurd u
missing_end err vol status.ReadFault none u = absurd u
missing_end err vol status.WriteFault none u = absurd u
missing_end err vol (status.BadInput at) none u = absurd u
missing_end err vol (status.BadImage rule) none u = absurd u
missing_end err vol status.AlreadyThere none u = absurd u
missing_end err vol status.TooLarge none u = absurd u

bad_end : (err : Seen) (vol : SeenVolume) (file offset : ℕ) (end : Status) → IsBadStore vol.before.reads file offset
    → Unopened vol end → IsOff (status.BadStore file offset) err vol end
bad_end err vol file offset status.Missing bad u = absurd (missing_not_bad vol.before.reads file offset u.0 bad)
bad_end err vol file offset (status.BadStore other at) bad u =
    let same = bad_at_one vol.before.reads other at file offset u.0 bad in
    inl (λ i. status.BadStore (same.0 i) (same.1 i))
bad_end err vol file offset status.NoMemory bad u = inr (inr (inr refl))
bad_end err vol file offset status.DiskFault bad u = inr (inl (refl, u))
bad_end err vol file offset status.Done bad u = absurd u
bad_end err vol file offset status.Usage bad u = absurd u
bad_end err vol file offset status.Refused bad u = absurd u
bad_end err vol file offset status.ReadFault bad u = absurd u
bad_end err vol file offset status.WriteFault bad u = absurd u
bad_end err vol file offset (status.BadInput at) bad u = absurd u
bad_end err vol file offset (status.BadImage rule) bad u = absurd u
bad_end err vol file offset status.AlreadyThere bad u = absurd u
bad_end err vol file offset status.TooLarge bad u = absurd u

pub ran_missing : (input out err : Seen) (vol : SeenVolume) (end : Status) → HoldsNothing vol.before.reads
    → RanSo input out vol end → DidNotOpen status.Missing input out err vol end
ran_missing input out err vol end none (inl (s, opens, ran)) = absurd (opens_not_missing vol.before.reads s opens none)
ran_missing input out err vol end none (inr (d, u)) = (d, missing_end err vol end none u)

pub ran_bad : (input out err : Seen) (vol : SeenVolume) (file offset : ℕ) (end : Status)
    → IsBadStore vol.before.reads file offset → RanSo input out vol end
    → DidNotOpen (status.BadStore file offset) input out err vol end
ran_bad input out err vol file offset end bad (inl (s, opens, ran)) =
    absurd (opens_not_bad vol.before.reads s file offset opens bad)
ran_bad input out err vol file offset end bad (inr (d, u)) = (d, bad_end err vol file offset end bad u)

-- ---- where these ends come

pub only_missing : (input out : Seen) (vol : SeenVolume) → RanSo input out vol status.Missing
    → HoldsNothing vol.before.reads
only_missing input out vol (inl (s, opens, ran)) = absurd ran.is_end
only_missing input out vol (inr (d, u)) = u.0

pub only_bad : (input out : Seen) (vol : SeenVolume) (file offset : ℕ)
    → RanSo input out vol (status.BadStore file offset) → IsBadStore vol.before.reads file offset
only_bad input out vol file offset (inl (s, opens, ran)) = absurd ran.is_end
only_bad input out vol file offset (inr (d, u)) = u.0

opened_end : (end : Status) → IsOpenedEnd end → (vol : SeenVolume) → Unopened vol end → ⊥
opened_end status.Done opened vol u = u
opened_end status.Refused opened vol u = u
opened_end status.ReadFault opened vol u = u
opened_end (status.BadInput at) opened vol u = u
opened_end status.Usage opened vol u = opened
opened_end status.WriteFault opened vol u = opened
opened_end status.DiskFault opened vol u = opened
opened_end (status.BadStore file offset) opened vol u = opened
opened_end status.NoMemory opened vol u = opened
opened_end (status.BadImage rule) opened vol u = opened
opened_end status.Missing opened vol u = opened
opened_end status.AlreadyThere opened vol u = opened
opened_end status.TooLarge opened vol u = opened

pub only_opened : (input out : Seen) (vol : SeenVolume) (end : Status) → IsOpenedEnd end → RanSo input out vol end
    → (s : ClosingState) × OpensTo vol.before.reads s
only_opened input out vol end opened (inl (s, opens, ran)) = (s, opens)
only_opened input out vol end opened (inr (d, u)) = absurd (opened_end end opened vol u)

-- ---- runs on a volume that doesn't open

pub not_of_records : (end : Status) → IsUnopenedEnd end → IsRecordsEnd end → ⊥
not_of_records status.Missing ended records = records
not_of_records (status.BadStore file offset) ended records = records
not_of_records status.Done ended records = ended
not_of_records status.Usage ended records = ended
not_of_records status.Refused ended records = ended
not_of_records status.ReadFault ended records = ended
not_of_records status.WriteFault ended records = ended
not_of_records status.DiskFault ended records = ended
not_of_records status.NoMemory ended records = ended
not_of_records (status.BadInput at) ended records = ended
not_of_records (status.BadImage rule) ended records = ended
not_of_records status.AlreadyThere ended records = ended
not_of_records status.TooLarge ended records = ended
