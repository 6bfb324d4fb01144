-- One step of a revocation after another one.
use Rattle.op_flags.proofs.Prelude.{◌≡◌, refl, sym, ap, subst, ◌∙◌, ℕ, suc, ◌+◌, ◌<◌, ◌≤◌, List, ◌∷◌, Option, Some}
use Rattle.op_flags.proofs.Prelude.{None, Result, Ok, Err, length, drop, get_or, drop-cons, arith, drop_all, IfOk}
use Rattle.op_flags.proofs.Prelude.{AccountId, Hash, OperationResult, EntryMap, Undo, with_current, Ctx, AddFault}
use Rattle.op_flags.proofs.Prelude.{IsRefused, after, after_charge, AreEntriesLegal, entries_left, IsUnpaid, IsRevoked}
use Rattle.op_flags.proofs.Prelude.{UnlessRefused, Revoked, and_then, share_revoked, all_revoked}
use Rattle.sponsor_rules.specs.declared.fault.AddFault.TheVariants.{NoMemory, LowReserve}
use Rattle.sponsor_rules.specs.declared.fault.AddFault.TheVariants.{TooManySubentries, TooManySponsoring}
use Rattle.op_form.specs.Faults.{fault_result}

-- what moves beside doesn't change what is left
left_alone : (first : Revoked) (next : Result Revoked OperationResult) → entries_left (and_then first next)
    ≡ entries_left next
left_alone first (Ok second) = refl
left_alone first (Err result) = refl

pub left_then : (first : Result Revoked OperationResult) (next : EntryMap → Result Revoked OperationResult)
    (now : EntryMap)
    → entries_left first ≡ Ok now
    → entries_left (after first (λ r. and_then r (next r.entries))) ≡ entries_left (next now)
left_then (Ok r) next now is =
    let same : r.entries ≡ now = cc in
    left_alone r (next r.entries) ∙ ap (λ m. entries_left (next m)) same
left_then (Err result) next now is = absurd (cc)

refused_alone : (first : Revoked) (next : Result Revoked OperationResult) (result : OperationResult)
    → next ≡ Err result → and_then first next ≡ Err result
refused_alone first next result is = ap (and_then first) is

pub refused_then : (first : Result Revoked OperationResult) (next : EntryMap → Result Revoked OperationResult)
    (now : EntryMap) (result : OperationResult) → entries_left first ≡ Ok now → next now ≡ Err result
    → after first (λ r. and_then r (next r.entries)) ≡ Err result
refused_then (Ok r) next now result is refused =
    let same : r.entries ≡ now = cc in
    refused_alone r (next r.entries) result (ap next same ∙ refused)
refused_then (Err fault) next now result is refused = absurd (cc)

-- ---- one line after another

-- so many lines are left to be removed
pub record AreUnderway (ctx : Ctx) (low : OperationResult) (trustor : AccountId) (pools left : List Hash)
    (old now : Undo) : Type 0 where
  pub legal : AreEntriesLegal ctx.id_pool now.current
  pub kept : now ≡ with_current old now.current
  pub rest : entries_left (all_revoked ctx low trustor pools old.current)
      ≡ entries_left (all_revoked ctx low trustor left now.current)
  pub refused : (result : OperationResult) → all_revoked ctx low trustor left now.current ≡ Err result
      → all_revoked ctx low trustor pools old.current ≡ Err result

module _ (ctx : Ctx) (low : OperationResult) (trustor : AccountId) (pools : List Hash) where
  pub started : (old : Undo) → AreEntriesLegal ctx.id_pool old.current
      → AreUnderway ctx low trustor pools pools old old
  started old legal = record { legal = legal; kept = refl; rest = refl; refused = λ result is. is }

  kept_both : (old now new : Undo) → now ≡ with_current old now.current → new ≡ with_current now new.current
      → new ≡ with_current old new.current
  kept_both old now new first second = second ∙ ap (λ (u : Undo). with_current u new.current) first

  next : (id : Hash) (ids : List Hash) (old now new : Undo) → AreUnderway ctx low trustor pools (id ∷ ids) old now
      → IsRevoked None now new (share_revoked ctx low trustor id now.current) → AreEntriesLegal ctx.id_pool new.current
      → AreUnderway ctx low trustor pools ids old new
  next id ids old now new so_far step legal =
      let first = share_revoked ctx low trustor id now.current in
      let others = all_revoked ctx low trustor ids in
      record {
        legal = legal;
        kept = kept_both old now new so_far.kept step.1;
        rest = so_far.rest ∙ left_then first others new.current step.0;
        refused = λ result is. so_far.refused result (refused_then first others new.current result step.0 is);
      }

  one_further : (i : ℕ) (d : Hash) (old now new : Undo) → i < length pools
      → AreUnderway ctx low trustor pools (drop i pools) old now
      → IsRevoked None now new (share_revoked ctx low trustor (get_or pools i d) now.current)
      → AreEntriesLegal ctx.id_pool new.current → AreUnderway ctx low trustor pools (drop (i + 1) pools) old new
  one_further i d old now new lt so_far step legal =
      let further : suc i ≡ i + 1 = omega arith in
      subst (λ n. AreUnderway ctx low trustor pools (drop n pools) old new) further
      (next (get_or pools i d) (drop (suc i) pools) old now new
      (subst (λ ids. AreUnderway ctx low trustor pools ids old now) (drop-cons pools i d lt) so_far) step legal)

  -- the same by what a call answered
  pub further_by : (i : ℕ) (d : Hash) (old now new : Undo) (refusal : Option OperationResult) → refusal ≡ None
      → i < length pools → AreUnderway ctx low trustor pools (drop i pools) old now
      → IsRevoked refusal now new (share_revoked ctx low trustor (get_or pools i d) now.current)
      → UnlessRefused refusal (AreEntriesLegal ctx.id_pool new.current)
      → AreUnderway ctx low trustor pools (drop (i + 1) pools) old new
  further_by i d old now new refusal none lt so_far step legal =
      one_further i d old now new lt so_far
      (subst (λ o. IsRevoked o now new (share_revoked ctx low trustor (get_or pools i d) now.current)) none step)
      (subst (λ o. UnlessRefused o (AreEntriesLegal ctx.id_pool new.current)) none legal)

  refused_by : (id : Hash) (ids : List Hash) (old now new : Undo) (result : OperationResult)
      → AreUnderway ctx low trustor pools (id ∷ ids) old now
      → IsRevoked (Some result) now new (share_revoked ctx low trustor id now.current)
      → IsRevoked (Some result) old new (all_revoked ctx low trustor pools old.current)
  refused_by id ids old now new result so_far step = (
    so_far.refused result (ap (λ r. after r (λ first. and_then first (all_revoked ctx low trustor ids first.entries)))
        step.0),
    kept_both old now new so_far.kept step.1,
  )

  one_refused : (i : ℕ) (d : Hash) (old now new : Undo) (result : OperationResult) → i < length pools
      → AreUnderway ctx low trustor pools (drop i pools) old now
      → IsRevoked (Some result) now new (share_revoked ctx low trustor (get_or pools i d) now.current)
      → IsRevoked (Some result) old new (all_revoked ctx low trustor pools old.current)
  one_refused i d old now new result lt so_far step =
      refused_by (get_or pools i d) (drop (suc i) pools) old now new result
      (subst (λ ids. AreUnderway ctx low trustor pools ids old now) (drop-cons pools i d lt) so_far) step

  pub refused_as : (i : ℕ) (d : Hash) (old now new : Undo) (refusal : Option OperationResult) (result : OperationResult)
      → refusal ≡ Some result → i < length pools → AreUnderway ctx low trustor pools (drop i pools) old now
      → IsRevoked refusal now new (share_revoked ctx low trustor (get_or pools i d) now.current)
      → IsRevoked (Some result) old new (all_revoked ctx low trustor pools old.current)
  refused_as i d old now new refusal result is lt so_far step =
      one_refused i d old now new result lt so_far
      (subst (λ o. IsRevoked o now new (share_revoked ctx low trustor (get_or pools i d) now.current)) is step)

  pub all_done : (i : ℕ) (old now : Undo) → length pools ≤ i → AreUnderway ctx low trustor pools (drop i pools) old now
      → IsRevoked None old now (all_revoked ctx low trustor pools old.current)
  all_done i old now le so_far =
      let last = subst (λ ids. AreUnderway ctx low trustor pools ids old now) (drop_all i pools le) so_far in
      (last.rest, last.kept)

-- where a step ends nothing, what it leaves is legal
left_is : (step : Result Revoked OperationResult) (now : EntryMap) → entries_left step ≡ Ok now
    → (r : Revoked) × (step ≡ Ok r) × (r.entries ≡ now)
left_is (Ok r) now is = (r, refl, cc)
left_is (Err result) now is = absurd (cc)

pub legal_unless : (id_pool : ℕ) (refusal : Option OperationResult) (old new : Undo)
    (step : Result Revoked OperationResult) → ((r : Revoked) → step ≡ Ok r → AreEntriesLegal id_pool r.entries)
    → IsRevoked refusal old new step → UnlessRefused refusal (AreEntriesLegal id_pool new.current)
legal_unless id_pool None old new step legal is =
    let left = left_is step new.current is.0 in
    subst (AreEntriesLegal id_pool) left.2 (legal left.0 left.1)
legal_unless id_pool (Some result) old new step legal is = tt

-- ---- a balance that isn't added

-- for a fault that isn't an allocation failure
answered_so : (low : OperationResult) (old new : Undo) (outcome : Result EntryMap AddFault)
    (next : EntryMap → Result Revoked OperationResult) (fault : AddFault) (refusal : Option OperationResult)
    → outcome ≡ Err fault → new ≡ old → refusal ≡ Some (fault_result fault low)
    → IsRevoked refusal old new (after_charge outcome low next)
answered_so low old new outcome next fault refusal is same answered =
    subst (λ o. IsRevoked o old new (after_charge outcome low next)) (sym answered)
    (ap (λ o. after_charge o low next) is, same ∙ sym (ap (λ (u : Undo). with_current old u.current) same))

pub unpaid_so : (low : OperationResult) (old new : Undo) (outcome : Result EntryMap AddFault)
    (next : EntryMap → Result Revoked OperationResult) (fault : AddFault) (refusal : Option OperationResult)
    → IsRefused fault old new outcome → IsUnpaid low fault refusal
    → IsRevoked refusal old new (after_charge outcome low next)
unpaid_so low old new outcome next NoMemory refusal refused none = absurd none
unpaid_so low old new outcome next LowReserve refusal refused is =
    answered_so low old new outcome next LowReserve refusal refused.0 refused.1 is
unpaid_so low old new outcome next TooManySubentries refusal refused is =
    answered_so low old new outcome next TooManySubentries refusal refused.0 refused.1 is
unpaid_so low old new outcome next TooManySponsoring refusal refused is =
    answered_so low old new outcome next TooManySponsoring refusal refused.0 refused.1 is

pub if_ok : {A E : Type 0} (P Q : A → Type 0) → ((a : A) → P a → Q a) → (r : Result A E) → IfOk r P → IfOk r Q
if_ok P Q on (Ok a) holds = on a holds
if_ok P Q on (Err e) holds = holds
