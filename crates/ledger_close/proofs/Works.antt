-- What the set of a record leaves, by what applying it answered.
use Rattle.ledger_close.proofs.Prelude.{◌≡◌, Option, Some, None, Ok, Err, refl, sym, ap, ◌∙◌, subst, IfSome, get}
use Rattle.ledger_close.proofs.Prelude.{LedgerEntry, key_of, CloseRecord, EntryMap, IsKeyed, IsAnswer, set_done}
use Rattle.ledger_close.proofs.Prelude.{fee_pool_after, missing_index, ClosingState, set_fault, applied_in, setting_in}
use Rattle.ledger_close.proofs.Prelude.{FaultIs, fault_of_set, IsDone}
use Rattle.close_rules.specs.entry_sums.Sums.{EachEntry}
use Rattle.close_laws.specs.tx_apply.Laws.{IsConserved}
use Rattle.entry_map.specs.declared.batch.Batch.{Batch}
use Rattle.entry_map.specs.Batch.{IsBatch}
use Rattle.entry_map.specs.Indexes.{PositionMap, IsIndexOf}
use Rattle.entry_map.specs.Undo.{Undo, started}
use Rattle.close_laws.specs.tx_apply.declared.set.SetDone.{SetDone}
use Rattle.close_laws.specs.tx_apply.declared.fault.SetFault.{SetFault}
use Rattle.close_laws.specs.tx_apply.declared.fault.SetFault.TheVariants as set

pub keyed_by : (m : EntryMap) → EachEntry (λ k e. key_of e ≡ k) m → IsKeyed m
keyed_by m each k = at (get m k) refl
  where
    at : (found : Option LedgerEntry) → get m k ≡ found → IfSome found (λ e. key_of e ≡ k)
    at None is = tt
    at (Some e) is = each k e is

pub refused_set : (s : ClosingState) (closing : CloseRecord) (old new : Undo) (f : SetFault) → old ≡ started s.entries
    → IsAnswer (setting_in s closing) closing.tx_set old new (Err f)
    → FaultIs (fault_of_set f) (λ g. set_fault s closing ≡ Some g)
unfolding set_fault
refused_set s closing old new (set.FeeSourceMissing index) begun answer =
    let missing : missing_index s.entries closing.tx_set ≡ Some index =
    ap (λ (u : Undo). missing_index u.current closing.tx_set) (sym begun) ∙ answer.0 in
    rw missing refl
refused_set s closing old new set.NoMemory begun answer = tt

pub applied_set : (s : ClosingState) (closing : CloseRecord) (old new : Undo) (done : SetDone) → old ≡ started s.entries
    → IsAnswer (setting_in s closing) closing.tx_set old new (Ok done) → set_fault s closing ≡ None
unfolding set_fault
applied_set s closing old new done begun answer =
    let payable : missing_index s.entries closing.tx_set ≡ None =
    ap (λ (u : Undo). missing_index u.current closing.tx_set) (sym begun) ∙ answer.0 in
    rw payable refl

pub applied_done : (s : ClosingState) (closing : CloseRecord) (old new : Undo) (done : SetDone)
    → old ≡ started s.entries
    → IsAnswer (setting_in s closing) closing.tx_set old new (Ok done) → IsDone s closing done
applied_done s closing old new done begun answer = record {
  results = answer.1.results
      ∙ ap (λ (u : Undo). (set_done (setting_in s closing) closing.tx_set u.current).results) begun;
  fee_pool = answer.1.fee_pool
      ∙ ap (λ (u : Undo). fee_pool_after (setting_in s closing) closing.tx_set u.current) begun;
  id_pool = answer.1.id_pool
      ∙ ap (λ (u : Undo). (set_done (setting_in s closing) closing.tx_set u.current).id_pool) begun;
}

pub applied_keyed : (s : ClosingState) (closing : CloseRecord) (old : Undo) → old ≡ started s.entries
    → IsConserved (setting_in s closing) closing.tx_set old.current → IsKeyed (applied_in s closing).entries
applied_keyed s closing old begun conserved =
    let settled = subst (λ (u : Undo). IsConserved (setting_in s closing) closing.tx_set u.current) begun conserved in
    keyed_by (applied_in s closing).entries settled.settled.legal.keyed

pub applied_batch : (s : ClosingState) (closing : CloseRecord) (old new : Undo) (done : SetDone) (batch : Batch)
    → old ≡ started s.entries → IsAnswer (setting_in s closing) closing.tx_set old new (Ok done)
    → IsBatch new.base new.current batch → IsBatch s.entries (applied_in s closing).entries batch
applied_batch s closing old new done batch begun answer recorded =
    let after = subst (λ (u : Undo). IsBatch u.base u.current batch) answer.1.entries recorded in
    subst (λ (u : Undo). IsBatch u.base (set_done (setting_in s closing) closing.tx_set u.current).entries batch)
    begun
    after

pub applied_index : (s : ClosingState) (closing : CloseRecord) (old new : Undo) (done : SetDone) (index : PositionMap)
    → old ≡ started s.entries → IsAnswer (setting_in s closing) closing.tx_set old new (Ok done)
    → IsIndexOf new.current index → IsIndexOf (applied_in s closing).entries index
applied_index s closing old new done index begun answer is =
    subst (λ (u : Undo). IsIndexOf (set_done (setting_in s closing) closing.tx_set u.current).entries index) begun
    (subst (λ (u : Undo). IsIndexOf u.current index) answer.1.entries is)
