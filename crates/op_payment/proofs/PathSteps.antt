-- Payments along paths, step by step.
use Rattle.entry_map.specs.EntryMap.{EntryMap}
use Rattle.ledger_types.proofs.Arithmetic.{natural_at_most_trans, nonnegative_from_int_le}
use Rattle.ledger_types.specs.Ids.{account_of}
use Rattle.ledger_types.specs.declared.asset.Asset.{Asset}
use Rattle.ledger_types.specs.declared.claim_atom.ClaimAtom.{ClaimAtom}
use Rattle.ledger_types.specs.declared.ids.AccountId.{AccountId}
use Rattle.legal_rules.specs.Legal.{view}
use Rattle.legal_rules.specs.Owing.{AreEntriesLegal}
use Rattle.op_form.specs.Amounts.{map_after_credit, map_after_debit}
use Rattle.op_form.specs.Done.{Attempt, Done}
use Rattle.op_form.specs.declared.amounts.CreditFault.{CreditFault}
use Rattle.op_form.specs.declared.amounts.DebitFault.{DebitFault}
use Rattle.op_payment.proofs.Amounts.{amount_given, amount_taken}
use Rattle.op_payment.specs.PathPayment.{arrived, is_path_valid, path_moves}
use Rattle.op_payment.specs.Paths.{Carried, received, sent, set_out}
use Rattle.op_payment.specs.declared.hop_fault.HopFault.{HopFault}
use Rattle.op_types.specs.declared.operation_result.OperationResult.{OperationResult}
use Rattle.op_types.specs.declared.payment_ops.PathPaymentStrictReceiveOp.{PathPaymentStrictReceiveOp}
use Rattle.op_types.specs.declared.payment_ops.PathPaymentStrictSendOp.{PathPaymentStrictSendOp}
use Rattle.op_types.specs.declared.payment_results.PathPaymentStrictReceiveResult.{PathPaymentStrictReceiveResult}
use Rattle.op_types.specs.declared.payment_results.PathPaymentStrictSendResult.{PathPaymentStrictSendResult}
use Rattle.sponsor_rules.specs.declared.context.Ctx.{Ctx}
use Rattle.std.proofs.Common.{refl, subst}
use Rattle.std.proofs.lemmas.Bool.{or_parts}
use Rattle.std.specs.Prelude.{All, Err, List, Ok, Result, int_le, length, not, pos, ℤ, ◌||◌, ◌≡◌, ◌≤ℤ◌, ◌≤◌}
use Rattle.op_form.proofs.AmountSteps.{credit_holds, debit_holds}
use Rattle.sponsor_rules.proofs.Entries.{Invariant}
use Rattle.op_form.proofs.Steps.{AllPass, Answering, Ends, IsBareReceive, IsBareSend, past, past_step}
use Rattle.op_form.proofs.Walks.{Before, Leaves, Left, Logic, made_holds, succeeded}
use Rattle.trade_cross.proofs.Crossables.{crossable_of}
use Rattle.trade_cross.specs.Crossable.{IsCrossable}
use Rattle.op_payment.proofs.PathsHold.{IsOnWay, IsOnWayIf, before_path, most_after, most_before, most_in_paths}
use Rattle.op_payment.proofs.PathsHold.{past_path}
use Rattle.op_payment.proofs.PathsHold.{received_on_way, sent_on_way, sets_out}
use Rattle.op_form.specs.declared.amounts.CreditFault.TheVariants as credit
use Rattle.op_form.specs.declared.amounts.DebitFault.TheVariants as debit
use Rattle.op_payment.specs.PathReceive as receiving
use Rattle.op_payment.specs.PathSend as sending
use Rattle.op_payment.specs.declared.hop_fault.HopFault.TheVariants as fault
use Rattle.op_types.specs.declared.operation_result.OperationResultTr.TheVariants as tr
use Rattle.op_types.specs.declared.payment_results.PathPaymentStrictReceiveResult.TheVariants as got_code
use Rattle.op_types.specs.declared.payment_results.PathPaymentStrictSendResult.TheVariants as sent_code

-- what a payment along a path names can be reported
pub record IsPathNamed (v : Invariant) (first : Asset) (path : List Asset) (last : Asset) : Type 0 where
  pub from : v.of.Named first
  pub between : All v.of.Named path
  pub few : v.Asks → length path ≤ 5
  pub to : v.of.Named last

-- where a path ends, as it is answered
abbrev pub DoesArriveBy : Logic → (List ClaimAtom → OperationResult) → Type 0
DoesArriveBy w answer =
    (atoms : List ClaimAtom) → (w.inv.Asks → length atoms ≤ most_in_paths) → All w.inv.Reported atoms
    → w.answers.Answer (answer atoms)

-- ---- where paths go

module _ (ctx : Ctx) (m new : EntryMap) (legal : AreEntriesLegal ctx.id_pool m) (id : AccountId) (held : Asset) (n : ℤ)
    (low : pos 0 ≤ℤ n) where
  taken_crossable : map_after_credit id held n m ≡ Ok new → IsCrossable new
  taken_crossable is = crossable_of (view m) ctx.id_pool _ new
      ((amount_taken ctx ctx.id_pool m legal id n low new held is).shifts (view m) _ legal)

  given_crossable : map_after_debit ctx id held n m ≡ Ok new → IsCrossable new
  given_crossable is = crossable_of (view m) ctx.id_pool _ new
      ((amount_given ctx ctx.id_pool m legal id n low new held is).shifts (view m) _ legal)

-- ---- PATH_PAYMENT_STRICT_RECEIVE

module _ (x : Answering) where
  got : (c : PathPaymentStrictReceiveResult) → IsBareReceive c → x.Answer (receiving.answer c)
  got c bare = x.bare (tr.PathPaymentStrictReceive c) bare

  got_credit : (found : CreditFault) → x.Answer (receiving.credit_result found)
  got_credit credit.NoLine = got got_code.NoTrust tt
  got_credit credit.NotAuthorized = got got_code.NotAuthorized tt
  got_credit credit.Full = got got_code.LineFull tt

  got_debit : (found : DebitFault) → x.Answer (receiving.debit_result found)
  got_debit debit.NoLine = got got_code.SrcNoTrust tt
  got_debit debit.NotAuthorized = got got_code.SrcNotAuthorized tt
  got_debit debit.Short = got got_code.Underfunded tt

  got_path : (found : HopFault) → x.Answer (receiving.path_result found)
  got_path fault.CrossSelf = got got_code.OfferCrossSelf tt
  got_path fault.TooMany = x.exceeded
  got_path fault.TooFew = got got_code.TooFewOffers tt

  past_received : (Q : Done → Type 0) (way : Result Carried HopFault) (next : Carried → Attempt)
      → ((carried : Carried) → way ≡ Ok carried → Ends x Q (next carried)) → Ends x Q (receiving.after_path way next)
  past_received Q (Err found) next go = record { ends = got_path found }
  past_received Q (Ok carried) next go = go carried refl

-- what is received, where so much came from so far
abbrev pub received_so : Ctx → PathPaymentStrictReceiveOp → Carried → EntryMap → Done
received_so ctx op carried new =
    succeeded ctx
    (receiving.answer (got_code.Success
    (arrived carried.atoms (account_of op.destination) op.dest_asset op.dest_amount)))
    new (path_moves ctx (account_of op.destination) op.send_asset (pos carried.amount) carried.atoms op.dest_asset
    op.dest_amount)

pub receive_steps : (x : Answering) (Q : Done → Type 0) (ctx : Ctx) (op : PathPaymentStrictReceiveOp) (m : EntryMap)
    → ((taken : EntryMap) (carried : Carried) (new : EntryMap) → AllPass (receiving.asked_tests op)
    → map_after_credit (account_of op.destination) op.dest_asset op.dest_amount m ≡ Ok taken
    → received ctx op.send_asset op.path op.dest_asset (set_out op.dest_amount taken) ≡ Ok carried
    → map_after_debit ctx ctx.op_source op.send_asset (pos carried.amount) carried.entries ≡ Ok new
    → Q (received_so ctx op carried new))
    → Ends x Q (receiving.path_payment_strict_receive ctx op m)
receive_steps x Q ctx op m done =
    past (receiving.asked_tests op) _ (got x got_code.Malformed tt, tt)
    (λ pass. past (receiving.destination_tests op m) (receiving.taken_and_given ctx op m)
    (got x got_code.NoDestination tt, tt)
    (λ there. past_step (map_after_credit (account_of op.destination) op.dest_asset op.dest_amount m)
    receiving.credit_result _ (got_credit x)
    (λ taken is. past_received x Q
    (received ctx op.send_asset op.path op.dest_asset (set_out op.dest_amount taken)) (receiving.given ctx op)
    (λ carried along. past (receiving.cost_tests op carried.amount) _ (got x got_code.OverSendmax tt, tt)
    (λ enough. past_step (map_after_debit ctx ctx.op_source op.send_asset (pos carried.amount) carried.entries)
    receiving.debit_result (receiving.done ctx op carried) (got_debit x)
    (λ new also. record { ends = done taken carried new pass is along also }))))))

pub received_low : (op : PathPaymentStrictReceiveOp) → AllPass (receiving.asked_tests op) → pos 0 ≤ℤ op.dest_amount
received_low op pass =
    let amounts = or_parts (int_le op.send_max (pos 0) || int_le op.dest_amount (pos 0))
    (not (is_path_valid op.send_asset op.path op.dest_asset)) pass.0 in
    nonnegative_from_int_le op.dest_amount
    (or_parts (int_le op.send_max (pos 0)) (int_le op.dest_amount (pos 0)) amounts.0).1

pub path_received : (w : Logic) (ctx : Ctx) (op : PathPaymentStrictReceiveOp) (m : EntryMap) → Before w ctx m
    → (w.inv.Asks → AreEntriesLegal ctx.id_pool m) → IsPathNamed w.inv op.send_asset op.path op.dest_asset
    → DoesArriveBy w (λ atoms. receiving.answer (got_code.Success
    (arrived atoms (account_of op.destination) op.dest_asset op.dest_amount)))
    → Leaves w (receiving.path_payment_strict_receive ctx op m)
path_received w ctx op m before legal named arrives =
    receive_steps w.answers (Left w) ctx op m (λ taken carried new pass is along also.
    let way : IsOnWay w.inv (most_after 0 op.path) carried =
    subst (IsOnWayIf w.inv (most_after 0 op.path)) along
    (received_on_way w.inv ctx op.send_asset op.path op.dest_asset 0 (set_out op.dest_amount taken) named.from
    named.between named.to (sets_out w.inv op.dest_amount taken (made_holds w.inv _ taken is
    (credit_holds w.inv (account_of op.destination) op.dest_amount m before.entries op.dest_asset))
    (λ asks. taken_crossable ctx m taken (legal asks) (account_of op.destination) op.dest_asset op.dest_amount
    (received_low op pass) is))) in
    record {
      entries = made_holds w.inv _ new also
          (debit_holds w.inv ctx.op_source (pos carried.amount) carried.entries way.entries ctx op.send_asset);
      context = before.context;
      answer = arrives carried.atoms (λ asks. natural_at_most_trans (length carried.atoms) (most_after 0 op.path)
          most_in_paths way.few (past_path op.path (named.few asks))) way.reported;
    })

-- ---- PATH_PAYMENT_STRICT_SEND

module _ (x : Answering) where
  sent_bare : (c : PathPaymentStrictSendResult) → IsBareSend c → x.Answer (sending.answer c)
  sent_bare c bare = x.bare (tr.PathPaymentStrictSend c) bare

  sent_credit : (found : CreditFault) → x.Answer (sending.credit_result found)
  sent_credit credit.NoLine = sent_bare sent_code.NoTrust tt
  sent_credit credit.NotAuthorized = sent_bare sent_code.NotAuthorized tt
  sent_credit credit.Full = sent_bare sent_code.LineFull tt

  sent_debit : (found : DebitFault) → x.Answer (sending.debit_result found)
  sent_debit debit.NoLine = sent_bare sent_code.SrcNoTrust tt
  sent_debit debit.NotAuthorized = sent_bare sent_code.SrcNotAuthorized tt
  sent_debit debit.Short = sent_bare sent_code.Underfunded tt

  sent_path : (found : HopFault) → x.Answer (sending.path_result found)
  sent_path fault.CrossSelf = sent_bare sent_code.OfferCrossSelf tt
  sent_path fault.TooMany = x.exceeded
  sent_path fault.TooFew = sent_bare sent_code.TooFewOffers tt

  past_sent : (Q : Done → Type 0) (way : Result Carried HopFault) (next : Carried → Attempt)
      → ((carried : Carried) → way ≡ Ok carried → Ends x Q (next carried)) → Ends x Q (sending.after_path way next)
  past_sent Q (Err found) next go = record { ends = sent_path found }
  past_sent Q (Ok carried) next go = go carried refl

-- what is sent, where so much came of it
abbrev pub sent_so : Ctx → PathPaymentStrictSendOp → Carried → EntryMap → Done
sent_so ctx op carried new =
    succeeded ctx
    (sending.answer (sent_code.Success (arrived carried.atoms (account_of op.destination) op.dest_asset
    (pos carried.amount)))) new
    (path_moves ctx (account_of op.destination) op.send_asset op.send_amount carried.atoms op.dest_asset
    (pos carried.amount))

pub send_steps : (x : Answering) (Q : Done → Type 0) (ctx : Ctx) (op : PathPaymentStrictSendOp) (m : EntryMap)
    → ((given : EntryMap) (carried : Carried) (new : EntryMap) → AllPass (sending.asked_tests op)
    → map_after_debit ctx ctx.op_source op.send_asset op.send_amount m ≡ Ok given
    → sent ctx op.send_asset op.path op.dest_asset (set_out op.send_amount given) ≡ Ok carried
    → map_after_credit (account_of op.destination) op.dest_asset (pos carried.amount) carried.entries ≡ Ok new
    → Q (sent_so ctx op carried new))
    → Ends x Q (sending.path_payment_strict_send ctx op m)
send_steps x Q ctx op m done =
    past (sending.asked_tests op) _ (sent_bare x sent_code.Malformed tt, tt)
    (λ pass. past (sending.destination_tests op m) (sending.given_and_taken ctx op m)
    (sent_bare x sent_code.NoDestination tt, tt)
    (λ there. past_step (map_after_debit ctx ctx.op_source op.send_asset op.send_amount m) sending.debit_result _
    (sent_debit x)
    (λ given is. past_sent x Q (sent ctx op.send_asset op.path op.dest_asset (set_out op.send_amount given))
    (sending.taken ctx op)
    (λ carried along. past (sending.least_tests op carried.amount) _ (sent_bare x sent_code.UnderDestmin tt, tt)
    (λ enough. past_step
    (map_after_credit (account_of op.destination) op.dest_asset (pos carried.amount) carried.entries)
    sending.credit_result (sending.done ctx op carried) (sent_credit x)
    (λ new also. record { ends = done given carried new pass is along also }))))))

pub sent_low : (op : PathPaymentStrictSendOp) → AllPass (sending.asked_tests op) → pos 0 ≤ℤ op.send_amount
sent_low op pass =
    let amounts = or_parts (int_le op.send_amount (pos 0) || int_le op.dest_min (pos 0))
    (not (is_path_valid op.send_asset op.path op.dest_asset)) pass.0 in
    nonnegative_from_int_le op.send_amount
    (or_parts (int_le op.send_amount (pos 0)) (int_le op.dest_min (pos 0)) amounts.0).0

pub path_sent : (w : Logic) (ctx : Ctx) (op : PathPaymentStrictSendOp) (m : EntryMap) → Before w ctx m
    → (w.inv.Asks → AreEntriesLegal ctx.id_pool m) → IsPathNamed w.inv op.send_asset op.path op.dest_asset
    → ((amount : ℤ) → DoesArriveBy w (λ atoms. sending.answer (sent_code.Success
    (arrived atoms (account_of op.destination) op.dest_asset amount))))
    → Leaves w (sending.path_payment_strict_send ctx op m)
path_sent w ctx op m before legal named arrives =
    send_steps w.answers (Left w) ctx op m (λ given carried new pass is along also.
    let way : IsOnWay w.inv (most_before 0 op.path) carried =
    subst (IsOnWayIf w.inv (most_before 0 op.path)) along
    (sent_on_way w.inv ctx op.send_asset op.path op.dest_asset 0 (set_out op.send_amount given) named.from
    named.between named.to (sets_out w.inv op.send_amount given (made_holds w.inv _ given is
    (debit_holds w.inv ctx.op_source op.send_amount m before.entries ctx op.send_asset))
    (λ asks. given_crossable ctx m given (legal asks) ctx.op_source op.send_asset op.send_amount (sent_low op pass)
    is))) in
    record {
      entries = made_holds w.inv _ new also
          (credit_holds w.inv (account_of op.destination) (pos carried.amount) carried.entries way.entries
          op.dest_asset);
      context = before.context;
      answer = arrives (pos carried.amount) carried.atoms (λ asks. natural_at_most_trans (length carried.atoms)
          (most_before 0 op.path) most_in_paths way.few (before_path op.path (named.few asks))) way.reported;
    })
