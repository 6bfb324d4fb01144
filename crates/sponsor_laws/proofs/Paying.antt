-- What sponsors pay, as counts that move.
use Rattle.sponsor_laws.proofs.Prelude.{◌≡◌, ◌⊎◌, inl, inr, refl, subst, ℕ, ◌+◌, ◌≤◌, Option, Some, None, arith}
use Rattle.sponsor_laws.proofs.Prelude.{AccountId, AccountEntry, EntryMap, Count, SubEntries, Sponsoring, Sponsored}
use Rattle.sponsor_laws.proofs.Prelude.{account_at, count_in, with_more, with_less, map_after_releasing}
use Rattle.sponsor_laws.proofs.Prelude.{map_after_counting, map_after_discounting, map_with_other_payer}
use Rattle.sponsor_laws.proofs.Accounts.{share}
use Rattle.sponsor_laws.proofs.Even.{AreOwn}
use Rattle.sponsor_laws.proofs.Shifts.{Shift, at_one, plus, IsShifted, shifted_as}
use Rattle.sponsor_laws.proofs.Changes.{map_with_more, map_with_less, more_keeps, less_keeps, twice, shifted_raise}
use Rattle.sponsor_laws.proofs.Changes.{shifted_lower}

-- what a sponsor, if there is one, pays for an owner, if there is one
abbrev pub shared : ℕ → (owner sponsor : Option AccountId) → Shift
shared k owner sponsor count id = share count id k owner sponsor

pub shared_none : (count : Count) (id : AccountId) (k : ℕ) (owner : Option AccountId) → share count id k owner None ≡ 0
shared_none SubEntries id k owner = refl
shared_none Sponsoring id k owner = refl
shared_none Sponsored id k owner = refl

pub shared_both : (count : Count) (id owner sponsor : AccountId) (k : ℕ)
    → share count id k (Some owner) (Some sponsor)
    ≡ at_one Sponsored k owner count id + at_one Sponsoring k sponsor count id
shared_both SubEntries id owner sponsor k = omega arith
shared_both Sponsoring id owner sponsor k = omega arith
shared_both Sponsored id owner sponsor k = omega arith

pub shared_payer : (count : Count) (id sponsor : AccountId) (k : ℕ)
    → share count id k None (Some sponsor) ≡ at_one Sponsoring k sponsor count id
shared_payer SubEntries id sponsor k = refl
shared_payer Sponsoring id sponsor k = refl
shared_payer Sponsored id sponsor k = refl

-- neither paid before nor pays now
abbrev pub AreNone : (s t : Option AccountId) → Type 0
AreNone s t = (s ≡ None) × (t ≡ None)

-- the account's count, if it exists, can be lowered by k
abbrev pub HasEnough : (p q : Shift) → Count → ℕ → AccountId → EntryMap → Type 0
HasEnough p q count k id old = (was : AccountEntry) → account_at old id ≡ Some was
    → q count id + k ≤ count_in count was + p count id

module _ (p q : Shift) (k : ℕ) (old m : EntryMap) (own : AreOwn old) (h : IsShifted p q old m) where
  pub shifted_payer : (sponsor : Option AccountId) → ((s : AccountId) → sponsor ≡ Some s
      → HasEnough p q Sponsoring k s old) → IsShifted p (plus q (shared k None sponsor)) old
      (map_after_releasing k sponsor m)
  shifted_payer None enough = shifted_as p q p (plus q (shared k None None)) old m
      (λ x e account there is count. let none = shared_none count account.account_id k None in (refl, omega arith)) h
  shifted_payer (Some s) enough =
      shifted_as p (plus q (at_one Sponsoring k s)) p (plus q (shared k None (Some s))) old
      (map_with_less Sponsoring k s m)
      (λ x e account there is count. let one = shared_payer count account.account_id s k in
      (refl, omega arith)) (shifted_lower p q Sponsoring k s old m own h (enough s refl))

  -- a subentry more of an owner, for which a sponsor, if there is one, pays
  pub shifted_counting : (owner : AccountId) (sponsor : Option AccountId)
      → IsShifted (plus (plus p (at_one SubEntries k owner)) (shared k (Some owner) sponsor)) q old
      (map_after_counting owner k sponsor m)
  shifted_counting owner None =
      shifted_as (plus p (at_one SubEntries k owner)) q (plus (plus p (at_one SubEntries k owner))
      (shared k (Some owner) None)) q old (map_with_more SubEntries k owner m)
      (λ x e account there is count. let none = shared_none count account.account_id k (Some owner) in
      (omega arith, refl)) (shifted_raise p q SubEntries k owner old m own h)
  shifted_counting owner (Some s) =
      let first = shifted_raise p q Sponsoring k s old m own h in
      let p1 : Shift = plus p (at_one Sponsoring k s) in
      let m1 = map_with_more Sponsoring k s m in
      let second = shifted_raise p1 q SubEntries k owner old m1 own first in
      let p2 : Shift = plus p1 (at_one SubEntries k owner) in
      let third = shifted_raise p2 q Sponsored k owner old (map_with_more SubEntries k owner m1) own second in
      let once = twice m1 owner (with_more SubEntries k) (with_more Sponsored k) first.own (more_keeps SubEntries k)
      (more_keeps Sponsored k) in
      shifted_as (plus p2 (at_one Sponsored k owner)) q (plus (plus p (at_one SubEntries k owner))
      (shared k (Some owner) (Some s))) q old (map_after_counting owner k (Some s) m)
      (λ x e account there is count. let both = shared_both count account.account_id owner s k in (omega arith, refl))
      (subst (IsShifted (plus p2 (at_one Sponsored k owner)) q old) once third)

  -- a subentry less of an owner, for which a sponsor, if there was one, paid
  pub shifted_discounting : (owner : AccountId) (sponsor : Option AccountId) → HasEnough p q SubEntries k owner old
      → ((s : AccountId) → sponsor ≡ Some s → HasEnough p q Sponsored k owner old × HasEnough p q Sponsoring k s old)
      → IsShifted p (plus (plus q (at_one SubEntries k owner)) (shared k (Some owner) sponsor)) old
      (map_after_discounting owner k sponsor m)
  shifted_discounting owner None subs enough =
      shifted_as p (plus q (at_one SubEntries k owner)) p (plus (plus q (at_one SubEntries k owner))
      (shared k (Some owner) None)) old (map_with_less SubEntries k owner m)
      (λ x e account there is count. let none = shared_none count account.account_id k (Some owner) in
      (refl, omega arith)) (shifted_lower p q SubEntries k owner old m own h subs)
  shifted_discounting owner (Some s) subs enough =
      let first = shifted_lower p q Sponsoring k s old m own h (enough s refl).1 in
      let q1 : Shift = plus q (at_one Sponsoring k s) in
      let m1 = map_with_less Sponsoring k s m in
      let second = shifted_lower p q1 SubEntries k owner old m1 own first (λ was exists. let le = subs was exists in
      omega arith) in
      let q2 : Shift = plus q1 (at_one SubEntries k owner) in
      let third = shifted_lower p q2 Sponsored k owner old (map_with_less SubEntries k owner m1) own second
      (λ was exists. let le = (enough s refl).0 was exists in omega arith) in
      let once = twice m1 owner (with_less SubEntries k) (with_less Sponsored k) first.own (less_keeps SubEntries k)
      (less_keeps Sponsored k) in
      shifted_as p (plus q2 (at_one Sponsored k owner)) p (plus (plus q (at_one SubEntries k owner))
      (shared k (Some owner) (Some s))) old (map_after_discounting owner k (Some s) m)
      (λ x e account there is count. let both = shared_both count account.account_id owner s k in (refl, omega arith))
      (subst (IsShifted p (plus q2 (at_one Sponsored k owner)) old) once third)

  -- a sponsor pays that didn't
  paid_more : (owner t : AccountId) → IsShifted (plus p (shared k (Some owner) (Some t)))
      (plus q (shared k (Some owner) None)) old (map_with_other_payer owner k None (Some t) m)
  paid_more owner t =
      let first = shifted_raise p q Sponsoring k t old m own h in
      let second = shifted_raise (plus p (at_one Sponsoring k t)) q Sponsored k owner old
      (map_with_more Sponsoring k t m) own first in
      shifted_as (plus (plus p (at_one Sponsoring k t)) (at_one Sponsored k owner)) q
      (plus p (shared k (Some owner) (Some t))) (plus q (shared k (Some owner) None)) old
      (map_with_other_payer owner k None (Some t) m)
      (λ x e account there is count.
      let both = shared_both count account.account_id owner t k in
      let none = shared_none count account.account_id k (Some owner) in
      (omega arith, omega arith)) second

  -- a sponsor no longer pays
  paid_less : (owner s : AccountId) → HasEnough p q Sponsored k owner old → HasEnough p q Sponsoring k s old
      → IsShifted (plus p (shared k (Some owner) None)) (plus q (shared k (Some owner) (Some s))) old
      (map_with_other_payer owner k (Some s) None m)
  paid_less owner s paid pays =
      let first = shifted_lower p q Sponsoring k s old m own h pays in
      let q1 : Shift = plus q (at_one Sponsoring k s) in
      let second = shifted_lower p q1 Sponsored k owner old (map_with_less Sponsoring k s m) own first
      (λ was exists. let le = paid was exists in omega arith) in
      shifted_as p (plus q1 (at_one Sponsored k owner)) (plus p (shared k (Some owner) None))
      (plus q (shared k (Some owner) (Some s))) old (map_with_other_payer owner k (Some s) None m)
      (λ x e account there is count.
      let both = shared_both count account.account_id owner s k in
      let none = shared_none count account.account_id k (Some owner) in
      (omega arith, omega arith)) second

  -- a sponsor pays in another one's place
  paid_instead : (owner s t : AccountId) → HasEnough p q Sponsored k owner old → HasEnough p q Sponsoring k s old
      → IsShifted (plus p (shared k (Some owner) (Some t))) (plus q (shared k (Some owner) (Some s))) old
      (map_with_other_payer owner k (Some s) (Some t) m)
  paid_instead owner s t paid pays =
      let first = shifted_lower p q Sponsoring k s old m own h pays in
      let q1 : Shift = plus q (at_one Sponsoring k s) in
      let m1 = map_with_less Sponsoring k s m in
      let second = shifted_raise p q1 Sponsoring k t old m1 own first in
      let p1 : Shift = plus p (at_one Sponsoring k t) in
      let m2 = map_with_more Sponsoring k t m1 in
      let third = shifted_lower p1 q1 Sponsored k owner old m2 own second (λ was exists. let le = paid was exists in
      omega arith) in
      let q2 : Shift = plus q1 (at_one Sponsored k owner) in
      let fourth = shifted_raise p1 q2 Sponsored k owner old (map_with_less Sponsored k owner m2) own third in
      let once = twice m2 owner (with_less Sponsored k) (with_more Sponsored k) second.own (less_keeps Sponsored k)
      (more_keeps Sponsored k) in
      shifted_as (plus p1 (at_one Sponsored k owner)) q2 (plus p (shared k (Some owner) (Some t)))
      (plus q (shared k (Some owner) (Some s))) old (map_with_other_payer owner k (Some s) (Some t) m)
      (λ x e account there is count.
      let new = shared_both count account.account_id owner t k in
      let was = shared_both count account.account_id owner s k in
      (omega arith, omega arith))
      (subst (IsShifted (plus p1 (at_one Sponsored k owner)) q2 old) once fourth)

  -- another sponsor, or none, pays for something of an owner
  pub shifted_payers : (owner : AccountId) (s t : Option AccountId)
      → ((x : AccountId) → s ≡ Some x → HasEnough p q Sponsored k owner old × HasEnough p q Sponsoring k x old)
      → AreNone s t ⊎ ((AreNone s t → ⊥) × IsShifted (plus p (shared k (Some owner) t))
      (plus q (shared k (Some owner) s)) old (map_with_other_payer owner k s t m))
  shifted_payers owner None None enough = inl (refl, refl)
  shifted_payers owner None (Some t) enough = inr ((λ none. let gone = none.1 in absurd (cc)), paid_more owner t)
  shifted_payers owner (Some s) None enough = inr (
    (λ none. let gone = none.0 in
        absurd (cc)),
    paid_less owner s (enough s refl).0 (enough s refl).1,
  )
  shifted_payers owner (Some s) (Some t) enough = inr (
    (λ none. let gone = none.0 in
        absurd (cc)),
    paid_instead owner s t (enough s refl).0 (enough s refl).1,
  )
