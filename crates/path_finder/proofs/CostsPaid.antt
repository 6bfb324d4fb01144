-- What the hops of a call say of a cost, where the query's source is the source of the operation.
use Rattle.entry_map.specs.Undo.{Undo}
use Rattle.ledger_types.proofs.Arithmetic.{unsigned_abs_nonnegative}
use Rattle.sponsor_rules.specs.declared.context.Ctx.{Ctx}
use Rattle.op_payment.specs.PathCalls.{IsCarriedSo, carried_of, set_out_of}
use Rattle.op_payment.specs.Paths.{Carried, received}
use Rattle.op_payment.specs.declared.carried.Carried.{Carried as CarriedOfCall}
use Rattle.op_payment.specs.declared.hop_fault.HopFault.{HopFault}
use Rattle.path_finder.specs.declared.query.PathQuery.{PathQuery}
unfoldable use Rattle.path_finder.specs.Costs.{amount_needed, context_for, cost_of}
use Rattle.path_finder.proofs.Prelude.{◌≡◌, refl, ap, sym, subst, ◌∙◌, List, Asset, Result, Ok, Err, Some, None}

own_context : (ctx : Ctx) (query : PathQuery) → ctx.op_source ≡ query.source → ctx ≡ context_for ctx query
own_context ctx query same = λ k. record ctx { op_source = same k }

-- a cost is asked in the context in which the query's source is the source of the operation
pub same_costs : (ctx : Ctx) (query : PathQuery) (m : Undo) → cost_of (context_for ctx query) query m.current
    ≡ cost_of ctx query m.current
unfolding cost_of
same_costs ctx query m = refl

module _ (ctx : Ctx) (query : PathQuery) (path : List Asset) (old new : Undo)
    (same : ctx.op_source ≡ query.source) where
  -- what the hops answer from an amount at the end of the path
  abbrev hops_from : CarriedOfCall → Result Carried HopFault
  hops_from amount = received ctx query.send path query.dest (carried_of amount old.current)

  cost_by_hops : (amount : CarriedOfCall) → amount ≡ set_out_of query.amount
      → amount_needed (hops_from amount) ≡ cost_of ctx query old.current path
  unfolding cost_of
  cost_by_hops amount is =
      ap (λ a. amount_needed (hops_from a)) is
      ∙ ap (λ x. amount_needed (
      received x query.send path query.dest (carried_of (set_out_of query.amount) old.current))) (
      own_context ctx query same)

  pub served : (amount : CarriedOfCall) → amount ≡ set_out_of query.amount
      → (outcome : Result CarriedOfCall HopFault) (needed : CarriedOfCall) → outcome ≡ Ok needed
      → IsCarriedSo outcome old new (hops_from amount) → Some needed.amount ≡ cost_of ctx query old.current path
  served amount is outcome needed ok h =
      let made : IsCarriedSo (Ok needed) old new (hops_from amount) =
      subst (λ r. IsCarriedSo r old new (hops_from amount)) ok h in
      ap Some (sym (unsigned_abs_nonnegative needed.amount made.2)) ∙ sym (ap amount_needed made.0)
      ∙ cost_by_hops amount is

  pub not_served : (amount : CarriedOfCall) → amount ≡ set_out_of query.amount
      → (outcome : Result CarriedOfCall HopFault) (fault : HopFault) → outcome ≡ Err fault
      → IsCarriedSo outcome old new (hops_from amount) → None ≡ cost_of ctx query old.current path
  not_served amount is outcome fault err h =
      let made : IsCarriedSo (Err fault) old new (hops_from amount) =
      subst (λ r. IsCarriedSo r old new (hops_from amount)) err h in
      sym (ap amount_needed made.0) ∙ cost_by_hops amount is
