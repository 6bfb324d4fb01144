-- How payments along paths end: the source gives what the path costs, or the destination takes what came of it.
use Rattle.op_payment.proofs.Prelude as prelude
use prelude.{◌≡◌, refl, sym, ap, subst, ◌∙◌, false, ◌∷◌, [], Option, None, Result, Ok, Err, pos, ◌≤ℤ◌, int_lt, IfOk}
use prelude.{AccountId, Undo, with_current, Ctx, CreditFault, DebitFault, map_after_credit, map_after_debit}
use prelude.{BalancesAreInRange, IsStep, unless_refused, after_step, CarriedOfCall, HopFault, Carried, set_out}
use prelude.{received, sent, carried_of, IsCarriedSo, IsTried, arrived, path_moves, unsigned_abs_nonnegative}
use Rattle.std.proofs.lemmas.Result.{IfOk-weaker}
use Rattle.ledger_types.specs.Ids.{account_of}
use Rattle.op_types.specs.declared.operation_result.OperationResult.{OperationResult}
use Rattle.op_types.specs.declared.payment_ops.PathPaymentStrictReceiveOp.{PathPaymentStrictReceiveOp}
use Rattle.op_types.specs.declared.payment_ops.PathPaymentStrictSendOp.{PathPaymentStrictSendOp}
use Rattle.op_types.specs.declared.payment_results.PathPaymentStrictReceiveResult.TheVariants as received_code
use Rattle.op_types.specs.declared.payment_results.PathPaymentStrictSendResult.TheVariants as sent_code
use Rattle.op_form.specs.Done.{Attempt}
use Rattle.op_payment.specs.PathReceive as receiving
use Rattle.op_payment.specs.PathSend as sending
use Rattle.op_payment.proofs.PathLegality.{crossable_in_range}

-- ---- what was carried so far

pub in_range_after : (r : Result CarriedOfCall HopFault) (carried : CarriedOfCall) → r ≡ Ok carried → (old new : Undo)
    (step : Result Carried HopFault) → IsCarriedSo r old new step → BalancesAreInRange new.current
in_range_after r carried is old new step its =
    crossable_in_range new.current (subst (λ x. IsCarriedSo x old new step) is its).3

-- what is tried after what left only another map
tried_on : (ctx : Ctx) (old now new : Undo) (attempt : Attempt) → now ≡ with_current old now.current
    → (r : Result OperationResult OperationResult) → IsTried r ctx now new attempt → IsTried r ctx old new attempt
tried_on ctx old now new attempt kept (Ok result) its =
    (its.0, its.1, its.2, its.3 ∙ ap (λ (u : Undo). with_current u its.0.entries) kept, its.4)
tried_on ctx old now new attempt kept (Err result) its =
    (its.0, its.1 ∙ ap (λ (u : Undo). with_current u new.current) kept)

tried_after : {E : Type 0} (ctx : Ctx) (old now new : Undo) (first entire : Attempt)
    → now ≡ with_current old now.current
    → entire ≡ first → (r : Result (Result OperationResult OperationResult) E)
    → IfOk r (λ x. IsTried x ctx now new first)
    → IfOk r (λ x. IsTried x ctx old new entire)
tried_after ctx old now new first entire kept is r its =
    IfOk-weaker r (λ x. IsTried x ctx now new first) (λ x. IsTried x ctx old new entire)
    (λ x h. subst (IsTried x ctx old new) (sym is) (tried_on ctx old now new first kept x h)) its

kept_both : (old now new : Undo) → now ≡ with_current old now.current → new ≡ with_current now new.current
    → new ≡ with_current old new.current
kept_both old now new first second = second ∙ ap (λ (u : Undo). with_current u new.current) first

-- ---- PATH_PAYMENT_STRICT_RECEIVE

module _ (ctx : Ctx) (op : PathPaymentStrictReceiveOp) where
  -- the source gave what the path costs
  pub given_so : (carried : CarriedOfCall) (old new : Undo) → pos 0 ≤ℤ carried.amount
      → int_lt op.send_max carried.amount ≡ false → (fault : Option DebitFault) → fault ≡ None
      → IsStep fault old new (map_after_debit ctx ctx.op_source op.send_asset carried.amount old.current)
      → (id : AccountId) → id ≡ account_of op.destination
      → IsTried (Ok (receiving.answer (received_code.Success (arrived carried.atoms id op.dest_asset op.dest_amount))))
      ctx old new (receiving.given ctx op (carried_of carried old.current))
  given_so carried old new low enough fault none its id id_is =
      let from = carried_of carried old.current in
      let n = unsigned_abs_nonnegative carried.amount low in
      let step = subst (λ o. IsStep o old new
      (map_after_debit ctx ctx.op_source op.send_asset carried.amount old.current)) none its in (
        record {
          result = receiving.answer (received_code.Success
              (arrived carried.atoms (account_of op.destination) op.dest_asset op.dest_amount));
          entries = new.current;
          ctx = ctx;
          moves = path_moves ctx (account_of op.destination) op.send_asset (pos from.amount) carried.atoms op.dest_asset
              op.dest_amount;
        },
        (λ i. unless_refused ((int_lt op.send_max (n i), receiving.answer received_code.OverSendmax) ∷ [])
            (after_step (map_after_debit ctx ctx.op_source op.send_asset (n i) old.current) receiving.debit_result
            (receiving.done ctx op from)))
            ∙ (λ i. unless_refused ((enough i, receiving.answer received_code.OverSendmax) ∷ [])
            (after_step (step.0 i) receiving.debit_result (receiving.done ctx op from))),
        ap (λ x. receiving.answer (received_code.Success (arrived carried.atoms x op.dest_asset op.dest_amount))) id_is,
        step.1,
        refl,
      )

  -- the destination took the amount, and it was received along the path
  taken_then : (old taken now : Undo) (carried : Carried)
      → map_after_credit (account_of op.destination) op.dest_asset op.dest_amount old.current ≡ Ok taken.current
      → received ctx op.send_asset op.path op.dest_asset (set_out op.dest_amount taken.current) ≡ Ok carried
      → receiving.taken_and_given ctx op old.current ≡ receiving.given ctx op carried
  taken_then old taken now carried step path =
      (λ i. after_step (step i) receiving.credit_result (λ m. receiving.after_path
      (received ctx op.send_asset op.path op.dest_asset (set_out op.dest_amount m)) (receiving.given ctx op)))
      ∙ (λ i. receiving.after_path (path i) (receiving.given ctx op))

  pub taken_and_given_so : {E : Type 0} (old taken now new : Undo) (fault : Option CreditFault) → fault ≡ None
      → (id : AccountId) → id ≡ account_of op.destination
      → IsStep fault old taken (map_after_credit id op.dest_asset op.dest_amount old.current)
      → (r : Result CarriedOfCall HopFault) (carried : CarriedOfCall) → r ≡ Ok carried
      → IsCarriedSo r taken now
      (received ctx op.send_asset op.path op.dest_asset (set_out op.dest_amount taken.current))
      → (given : Result (Result OperationResult OperationResult) E)
      → IfOk given (λ x. IsTried x ctx now new (receiving.given ctx op (carried_of carried now.current)))
      → IfOk given (λ x. IsTried x ctx old new (receiving.taken_and_given ctx op old.current))
  taken_and_given_so old taken now new fault none id id_is credit r carried ok path given its =
      let step : IsStep None old taken
      (map_after_credit (account_of op.destination) op.dest_asset op.dest_amount old.current) =
      subst (λ o. IsStep o old taken
      (map_after_credit (account_of op.destination) op.dest_asset op.dest_amount old.current))
      none
      (subst (λ x. IsStep fault old taken (map_after_credit x op.dest_asset op.dest_amount old.current)) id_is credit)
      in
      let way = subst (λ x. IsCarriedSo x taken now
      (received ctx op.send_asset op.path op.dest_asset (set_out op.dest_amount taken.current))) ok path in
      tried_after ctx old now new (receiving.given ctx op (carried_of carried now.current))
      (receiving.taken_and_given ctx op old.current) (kept_both old taken now step.1 way.1)
      (taken_then old taken now (carried_of carried now.current) step.0 way.0) given its

-- ---- PATH_PAYMENT_STRICT_SEND

module _ (ctx : Ctx) (op : PathPaymentStrictSendOp) where
  -- the destination took what came of it
  pub taken_so : (carried : CarriedOfCall) (old new : Undo) → pos 0 ≤ℤ carried.amount
      → int_lt carried.amount op.dest_min ≡ false → (fault : Option CreditFault) → fault ≡ None → (id : AccountId)
      → id ≡ account_of op.destination
      → IsStep fault old new (map_after_credit id op.dest_asset carried.amount old.current)
      → IsTried (Ok (sending.answer (sent_code.Success (arrived carried.atoms id op.dest_asset carried.amount)))) ctx
      old
      new (sending.taken ctx op (carried_of carried old.current))
  taken_so carried old new low enough fault none id id_is its =
      let from = carried_of carried old.current in
      let n = unsigned_abs_nonnegative carried.amount low in
      let step : IsStep None old new
      (map_after_credit (account_of op.destination) op.dest_asset carried.amount old.current) =
      subst (λ o. IsStep o old new
      (map_after_credit (account_of op.destination) op.dest_asset carried.amount old.current))
      none
      (subst (λ x. IsStep fault old new (map_after_credit x op.dest_asset carried.amount old.current)) id_is its) in (
        record {
          result = sending.answer (sent_code.Success
              (arrived carried.atoms (account_of op.destination) op.dest_asset (pos from.amount)));
          entries = new.current;
          ctx = ctx;
          moves = path_moves ctx (account_of op.destination) op.send_asset op.send_amount carried.atoms op.dest_asset
              (pos from.amount);
        },
        (λ i. unless_refused ((int_lt (n i) op.dest_min, sending.answer sent_code.UnderDestmin) ∷ [])
            (after_step (map_after_credit (account_of op.destination) op.dest_asset (n i) old.current)
            sending.credit_result
            (sending.done ctx op from)))
            ∙ (λ i. unless_refused ((enough i, sending.answer sent_code.UnderDestmin) ∷ [])
            (after_step (step.0 i) sending.credit_result (sending.done ctx op from))),
        (λ i. sending.answer (sent_code.Success (arrived carried.atoms (id_is i) op.dest_asset (sym n i)))),
        step.1,
        refl,
      )

  -- the source gave the amount, and it was sent along the path
  given_then : (old given now : Undo) (carried : Carried)
      → map_after_debit ctx ctx.op_source op.send_asset op.send_amount old.current ≡ Ok given.current
      → sent ctx op.send_asset op.path op.dest_asset (set_out op.send_amount given.current) ≡ Ok carried
      → sending.given_and_taken ctx op old.current ≡ sending.taken ctx op carried
  given_then old given now carried step path =
      (λ i. after_step (step i) sending.debit_result (λ m. sending.after_path
      (sent ctx op.send_asset op.path op.dest_asset (set_out op.send_amount m)) (sending.taken ctx op)))
      ∙ (λ i. sending.after_path (path i) (sending.taken ctx op))

  pub given_and_taken_so : {E : Type 0} (old given now new : Undo) (fault : Option DebitFault) → fault ≡ None
      → IsStep fault old given (map_after_debit ctx ctx.op_source op.send_asset op.send_amount old.current)
      → (r : Result CarriedOfCall HopFault) (carried : CarriedOfCall) → r ≡ Ok carried
      → IsCarriedSo r given now (sent ctx op.send_asset op.path op.dest_asset (set_out op.send_amount given.current))
      → (taken : Result (Result OperationResult OperationResult) E)
      → IfOk taken (λ x. IsTried x ctx now new (sending.taken ctx op (carried_of carried now.current)))
      → IfOk taken (λ x. IsTried x ctx old new (sending.given_and_taken ctx op old.current))
  given_and_taken_so old given now new fault none debit r carried ok path taken its =
      let step = subst (λ o. IsStep o old given
      (map_after_debit ctx ctx.op_source op.send_asset op.send_amount old.current)) none debit in
      let way = subst (λ x. IsCarriedSo x given now
      (sent ctx op.send_asset op.path op.dest_asset (set_out op.send_amount given.current))) ok path in
      tried_after ctx old now new (sending.taken ctx op (carried_of carried now.current))
      (sending.given_and_taken ctx op old.current) (kept_both old given now step.1 way.1)
      (given_then old given now (carried_of carried now.current) step.0 way.0) taken its
