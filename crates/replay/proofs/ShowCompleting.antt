-- What `show` answers on a volume that opens, and on one that doesn't.
use Rattle.replay.proofs.Prelude.{◌≡◌, ℕ, refl, subst, inl, inr, ◌⊎◌, Seen, Failed, SeenVolume, ClosingState, Status}
use Rattle.replay.proofs.Prelude.{Kept, Holds, HoldsNothing, Yields, IsBadStore, lines_shown, IsShown, IsUnshown}
use Rattle.replay.proofs.Prelude.{Showings, IsShowAnswered, IsShowComplete, IsShowFault, IsUnopenedShown}
use Rattle.stored_outcome.specs.run_outcome.declared.status.Status.TheVariants as status
use Rattle.replay.proofs.OneState.{one_kept, yields_one, opens_not_missing, opens_not_bad}
use Rattle.replay.proofs.OneState.{missing_not_bad, bad_at_one}

-- ---- where it opens

as_shown : (vol : SeenVolume) (k : Kept) (s : ClosingState) (out err : Seen) (end : Status)
    → IsShown (lines_shown k s) out err end → IsShowAnswered vol k s out err end
as_shown vol k s out err end (inl (e, received)) = inl (e, received)
as_shown vol k s out err end (inr (inl (e, failed, prefix))) = inr (inl (e, failed))
as_shown vol k s out err end (inr (inr (e, prefix))) = inr (inr (inr e))

as_unshown : (vol : SeenVolume) (k : Kept) (s : ClosingState) (out err : Seen) (end : Status)
    → Holds vol.before.reads k → Yields k s → IsUnshown err vol end → IsShowAnswered vol k s out err end
as_unshown vol k s out err status.Missing holds yields un =
    absurd (opens_not_missing vol.before.reads s (k, holds, yields) un.0)
as_unshown vol k s out err (status.BadStore file offset) holds yields un =
    absurd (opens_not_bad vol.before.reads s file offset (k, holds, yields) un.0)
as_unshown vol k s out err status.DiskFault holds yields un = inr (inr (inl (refl, un)))
as_unshown vol k s out err status.WriteFault holds yields un = inr (inl (refl, inr un))
as_unshown vol k s out err status.NoMemory holds yields un = inr (inr (inr refl))
as_unshown vol k s out err status.Done holds yields un = absurd un
as_unshown vol k s out err status.Usage holds yields un = absurd un
as_unshown vol k s out err status.Refused holds yields un = absurd un
as_unshown vol k s out err status.ReadFault holds yields un = absurd un
as_unshown vol k s out err (status.BadInput at) holds yields un = absurd un
as_unshown vol k s out err (status.BadImage rule) holds yields un = absurd un
as_unshown vol k s out err status.AlreadyThere holds yields un = absurd un
as_unshown vol k s out err status.TooLarge holds yields un = absurd un

pub show_answered : (vol : SeenVolume) → Showings vol (IsShowAnswered vol)
show_answered vol k s out err end did te holds yields = elim (did.shown te) [
  | inl (kept, state, has, is, shown, stay) ↦
      let same : kept ≡ k = one_kept vol.before.reads kept k has holds in
      let state_is : state ≡ s = yields_one k state s (subst (λ (x : Kept). Yields x state) same is) yields in
      as_shown vol k s out err end
      (subst (λ (x : ClosingState). IsShown (lines_shown k x) out err end) state_is
      (subst (λ (x : Kept). IsShown (lines_shown x state) out err end) same shown))
  | inr (untouched, un) ↦ as_unshown vol k s out err end holds yields un
]

pub neither_failed : (out err : Seen) → (Failed out → ⊥) → (Failed err → ⊥) → Failed out ⊎ Failed err → ⊥
neither_failed out err no_out no_err (inl failed) = no_out failed
neither_failed out err no_out no_err (inr failed) = no_err failed

pub show_complete : (vol : SeenVolume) → Showings vol (IsShowComplete vol)
show_complete vol k s out err end did te holds yields no_out no_err no_disk =
    elim (show_answered vol k s out err end did te holds yields) [
      | inl shown ↦ inl shown
      | inr (inl (e, failed)) ↦ absurd (neither_failed out err no_out no_err failed)
      | inr (inr (inl (e, failed))) ↦ absurd (no_disk failed)
      | inr (inr (inr e)) ↦ inr e
    ]

-- ---- where it doesn't open

pub missing_unshown : (err : Seen) (vol : SeenVolume) (end : Status) → HoldsNothing vol.before.reads
    → IsUnshown err vol end → (end ≡ status.Missing) ⊎ IsShowFault vol err end
missing_unshown err vol status.Missing none un = inl refl
missing_unshown err vol (status.BadStore file offset) none un =
    absurd (missing_not_bad vol.before.reads file offset none un.0)
missing_unshown err vol status.DiskFault none un = inr (inr (inl (refl, un)))
missing_unshown err vol status.WriteFault none un = inr (inl (refl, un))
missing_unshown err vol status.NoMemory none un = inr (inr (inr refl))
missing_unshown err vol status.Done none un = absurd un
missing_unshown err vol status.Usage none un = absurd un
missing_unshown err vol status.Refused none un = absurd un
missing_unshown err vol status.ReadFault none un = absurd un
missing_unshown err vol (status.BadInput at) none un = absurd un
missing_unshown err vol (status.BadImage rule) none un = absurd un
missing_unshown err vol status.AlreadyThere none un = absurd un
missing_unshown err vol status.TooLarge none un = absurd un

pub bad_unshown : (err : Seen) (vol : SeenVolume) (end : Status) (file offset : ℕ)
    → IsBadStore vol.before.reads file offset → IsUnshown err vol end
    → (end ≡ status.BadStore file offset) ⊎ IsShowFault vol err end
bad_unshown err vol status.Missing file offset bad un =
    absurd (missing_not_bad vol.before.reads file offset un.0 bad)
bad_unshown err vol (status.BadStore other at) file offset bad un =
    let same = bad_at_one vol.before.reads other at file offset un.0 bad in
    inl (λ i. status.BadStore (same.0 i) (same.1 i))
bad_unshown err vol status.DiskFault file offset bad un = inr (inr (inl (refl, un)))
bad_unshown err vol status.WriteFault file offset bad un = inr (inl (refl, un))
bad_unshown err vol status.NoMemory file offset bad un = inr (inr (inr refl))
bad_unshown err vol status.Done file offset bad un = absurd un
bad_unshown err vol status.Usage file offset bad un = absurd un
bad_unshown err vol status.Refused file offset bad un = absurd un
bad_unshown err vol status.ReadFault file offset bad un = absurd un
bad_unshown err vol (status.BadInput at) file offset bad un = absurd un
bad_unshown err vol (status.BadImage rule) file offset bad un = absurd un
bad_unshown err vol status.AlreadyThere file offset bad un = absurd un
bad_unshown err vol status.TooLarge file offset bad un = absurd un

pub unopened_shown : (vol : SeenVolume) → IsUnopenedShown vol
unopened_shown vol out err end did te = elim (did.shown te) [
  | inl (k, s, holds, yields, shown, stay) ↦ (
    (λ none. absurd (opens_not_missing vol.before.reads s (k, holds, yields) none)),
    (λ file offset bad. absurd (opens_not_bad vol.before.reads s file offset (k, holds, yields) bad)),
  )
  | inr (untouched, un) ↦ (
    (λ none. missing_unshown err vol end none un),
    (λ file offset bad. bad_unshown err vol end file offset bad un),
  )
]
