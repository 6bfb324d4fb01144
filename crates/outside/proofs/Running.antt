-- One step after another.
use Rattle.outside.proofs.Prelude.{ℕ, ◌≤◌, inl, inr, ◌⊎◌, arith, Image, Disk, Runs}

widen_since : {step wider : Image → Image → Type 0} (old new : Disk) (c : Image) (t : ℕ)
    → ((d e : Image) → step d e → wider d e)
    → old.left_since t c ⊎ ((d : Image) × old.may_leave d × step d c)
    → old.left_since t c ⊎ ((d : Image) × old.may_leave d × wider d c)
widen_since old new c t h (inl before) = inl before
widen_since old new c t h (inr (d, may, s)) = inr (d, may, h d c s)

-- a step is also a wider one
pub widened : {step wider : Image → Image → Type 0} (old new : Disk) → ((d e : Image) → step d e → wider d e)
    → Runs step old new → Runs wider old new
widened {step} {wider} old new h r = record {
  later = r.later;
  crash = λ c may. let x = r.crash c may in (x.0, x.1, h x.0 c x.2);
  since = λ t c le left. widen_since {step = step} {wider = wider} old new c t h (r.since t c le left);
  keeps = r.keeps;
}

since_by : {first second both : Image → Image → Type 0} (old mid : Disk) (t : ℕ) (c : Image)
    → ((d e f : Image) → old.may_leave d → mid.may_leave e → first d e → second e f → both d f)
    → ((d e : Image) → first d e → both d e) → Runs first old mid → t ≤ old.moment
    → mid.left_since t c ⊎ ((d : Image) × mid.may_leave d × second d c)
    → old.left_since t c ⊎ ((d : Image) × old.may_leave d × both d c)
since_by {first} {second} {both} old mid t c joins alone r le (inl before) =
    widen_since {step = first} {wider = both} old mid c t alone (r.since t c le before)
since_by {first} {second} {both} old mid t c joins alone r le (inr (e, may, s)) =
    let x = r.crash e may in inr (x.0, x.1, joins x.0 e c x.1 may x.2 s)

-- first, then second
pub onward : {first second both : Image → Image → Type 0} (old mid new : Disk)
    → ((d e f : Image) → old.may_leave d → mid.may_leave e → first d e → second e f → both d f)
    → ((d e : Image) → first d e → both d e) → Runs first old mid → Runs second mid new → Runs both old new
onward {first} {second} {both} old mid new joins alone r s =
    let one = r.later in
    let two = s.later in
    record {
      later = omega (arith, one, two);
      crash = λ c may. let x = s.crash c may in let y = r.crash x.0 x.1 in
          (y.0, y.1, joins y.0 x.0 c y.1 x.1 y.2 x.2);
      since = λ t c le left. since_by {first = first} {second = second} {both = both} old mid t c joins alone r le
          (s.since t c (omega (arith, le, one)) left);
      keeps = λ t c le left. s.keeps t c (omega (arith, le, one)) (r.keeps t c le left);
    }
