-- That what is managed in a child, and kept, is what the operation does.
use Rattle.op_offers.proofs.Prelude.{◌≡◌, ap, Ok, Err, Result, Undo, opened, Ctx, OfferFault, IsManaging, Managed}
use Rattle.op_offers.proofs.Prelude.{Traded, Removed, Answer, success_answer, done_of_managed}
use Rattle.entry_map.specs.Undo.{kept}
use Rattle.op_form.specs.Done.{Does}
use Rattle.op_offers.specs.declared.manage.Managed.{Managed as ManagedOfCall}

-- the same children are open
pub saved_is : (ctx : Ctx) (answer : ManagedOfCall) (old new : Undo) (managed : Result Managed OfferFault)
    → IsManaging ctx (Ok answer) old new managed → new.saved ≡ old.saved
saved_is ctx answer old new (Ok done) is = ap (λ (u : Undo). u.saved) is.entries
saved_is ctx answer old new (Err other) is = absurd is

pub kept_does : (ctx : Ctx) (how : Answer) (answer : ManagedOfCall) (old new : Undo)
    (managed : Result Managed OfferFault) → IsManaging ctx (Ok answer) (opened old) new managed
    → Does (success_answer how answer.atoms answer.effect) (record ctx { id_pool = answer.id_pool }) old (kept new)
    (done_of_managed ctx how old.current managed)
kept_does ctx how answer old new (Err other) is = absurd is
kept_does ctx how answer old new (Ok (Removed m)) is = record {
  result_is = λ i. success_answer how (is.atoms i) (is.effect i);
  entries_are = ap kept is.entries;
  ctx_is = λ i. record ctx { id_pool = is.id_pool i };
}
kept_does ctx how answer old new (Ok (Traded kind asked done id_pool)) is = record {
  result_is = λ i. success_answer how (is.atoms i) (is.effect i);
  entries_are = ap kept is.entries;
  ctx_is = λ i. record ctx { id_pool = is.id_pool i };
}
