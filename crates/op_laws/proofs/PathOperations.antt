-- Payments along paths are lawful.
use Rattle.op_laws.proofs.Prelude.{◌≡◌, refl, sym, ap, subst, ◌∙◌, ℕ, List, [], ◌∷◌, ◌++◌, Ok}
use Rattle.op_laws.proofs.Prelude.{ℤ, pos, neg_ℤ, ◌≤ℤ◌, unsigned_abs, AccountId, ClaimAtom, account_of}
use Rattle.op_laws.proofs.Prelude.{EntryMap, Ctx, none_more, map_after_credit, map_after_debit, Done}
use Rattle.op_laws.proofs.Prelude.{arrived, path_moves, Carried, set_out, received, sent}
use Rattle.op_laws.proofs.Prelude.{path_payment_strict_receive, path_payment_strict_send, unless_issuer}
use Rattle.op_laws.proofs.Prelude.{IsLawful, AreLawful, IsUnderway, natural_nonnegative}
use Rattle.op_laws.proofs.Prelude.{unsigned_abs_nonnegative}
use Rattle.op_flags.specs.op_types.declared.payment_ops.PathPaymentStrictReceiveOp.{PathPaymentStrictReceiveOp}
use Rattle.op_flags.specs.op_types.declared.payment_ops.PathPaymentStrictSendOp.{PathPaymentStrictSendOp}
use Rattle.op_flags.specs.op_types.declared.payment_results.PathPaymentStrictReceiveResult.TheVariants as path
use Rattle.op_flags.specs.op_types.declared.payment_results.PathPaymentStrictSendResult.TheVariants as path_sent
use Rattle.op_payment.specs.PathReceive as receive
use Rattle.op_payment.specs.PathSend as send
use Rattle.op_laws.proofs.Amounts.{amount_taken, amount_given}
use Rattle.op_laws.proofs.Carrying.{IsCarried}
use Rattle.op_laws.proofs.Hopping.{path_back, path_on}
use Rattle.op_laws.proofs.Lawful.{shifted_after}
use Rattle.op_laws.proofs.PathPayments.{received_lawful, sent_lawful}
use Rattle.op_form.proofs.Steps.{done_so, anything}
use Rattle.op_payment.proofs.PathSteps.{receive_steps, send_steps, received_so, sent_so, received_low, sent_low}

nothing_after : (l : List ClaimAtom) → l ++ [] ≡ l
nothing_after [] = refl
nothing_after (first ∷ l) = ap (λ (k : List ClaimAtom). first ∷ k) (nothing_after l)

module _ (ctx : Ctx) (op : PathPaymentStrictReceiveOp) (m : EntryMap) (under : IsUnderway ctx m)
    (amount : pos 0 ≤ℤ op.dest_amount) where
  abbrev got_by : AccountId
  got_by = account_of op.destination

  abbrev needed : ℕ
  needed = unsigned_abs op.dest_amount

  -- what the operation leaves and moves, where so much arrives
  abbrev received_of : Carried → EntryMap → ℤ → Done
  received_of carried new n = record {
    result = receive.answer (path.Success (arrived carried.atoms got_by op.dest_asset op.dest_amount));
    entries = new;
    ctx = ctx;
    moves = path_moves ctx got_by op.send_asset (pos carried.amount) carried.atoms op.dest_asset n;
  }

  -- all steps were made
  received_done : (taken : EntryMap) → map_after_credit got_by op.dest_asset op.dest_amount m ≡ Ok taken
      → (carried : Carried)
      → received ctx op.send_asset op.path op.dest_asset (set_out op.dest_amount taken) ≡ Ok carried
      → (new : EntryMap)
      → map_after_debit ctx ctx.op_source op.send_asset (pos carried.amount) carried.entries ≡ Ok new
      → IsLawful ctx m (received_so ctx op carried new)
  received_done taken took carried along new gave =
      let all = unsigned_abs_nonnegative op.dest_amount amount in
      let one = amount_taken ctx ctx.id_pool m under.settled.legal got_by (pos needed)
      (natural_nonnegative needed) taken op.dest_asset
      (subst (λ n. map_after_credit got_by op.dest_asset n m ≡ Ok taken) (sym all) took) in
      let legal = shifted_after ctx m under none_more (λ x. unless_issuer x op.dest_asset got_by (pos needed)) taken
      one.shifts in
      let back = path_back ctx ctx.id_pool op.send_asset op.path op.dest_asset (set_out op.dest_amount taken) carried
      legal along in
      let two = amount_given ctx ctx.id_pool carried.entries back.went.legal ctx.op_source (pos carried.amount)
      (natural_nonnegative carried.amount) new op.send_asset gave in
      let atoms : back.atoms ≡ carried.atoms = sym (back.listed ∙ nothing_after back.atoms) in
      let went = subst (λ (l : List ClaimAtom).
      IsCarried ctx.id_pool ctx.base_reserve op.send_asset carried.amount op.dest_asset needed taken carried.entries l)
      atoms back.went.carried in
      subst (λ n. IsLawful ctx m (received_of carried new n)) all
      (received_lawful ctx got_by op.send_asset carried.amount carried.atoms op.dest_asset needed m taken
      carried.entries new under (received_of carried new op.dest_amount).result one went two)

pub path_receive_is_lawful : AreLawful path_payment_strict_receive
path_receive_is_lawful ctx op m done under exists is =
    done_so anything (IsLawful ctx m) (path_payment_strict_receive ctx op m) done
    (receive_steps anything (IsLawful ctx m) ctx op m (λ taken carried new pass took along gave.
    received_done ctx op m under (received_low op pass) taken took carried along new gave)) is

module _ (ctx : Ctx) (op : PathPaymentStrictSendOp) (m : EntryMap) (under : IsUnderway ctx m)
    (amount : pos 0 ≤ℤ op.send_amount) where
  abbrev sent_to : AccountId
  sent_to = account_of op.destination

  abbrev all_sent : ℕ
  all_sent = unsigned_abs op.send_amount

  -- what the operation leaves and moves, where so much sets out
  abbrev sent_of : Carried → EntryMap → ℤ → Done
  sent_of carried new n = record {
    result = send.answer (path_sent.Success (arrived carried.atoms sent_to op.dest_asset (pos carried.amount)));
    entries = new;
    ctx = ctx;
    moves = path_moves ctx sent_to op.send_asset n carried.atoms op.dest_asset (pos carried.amount);
  }

  -- all steps were made
  sent_done : (given : EntryMap) → map_after_debit ctx ctx.op_source op.send_asset op.send_amount m ≡ Ok given
      → (carried : Carried)
      → sent ctx op.send_asset op.path op.dest_asset (set_out op.send_amount given) ≡ Ok carried
      → (new : EntryMap)
      → map_after_credit sent_to op.dest_asset (pos carried.amount) carried.entries ≡ Ok new
      → IsLawful ctx m (sent_so ctx op carried new)
  sent_done given gave carried along new took =
      let all = unsigned_abs_nonnegative op.send_amount amount in
      let one = amount_given ctx ctx.id_pool m under.settled.legal ctx.op_source (pos all_sent)
      (natural_nonnegative all_sent) given
      op.send_asset
      (subst (λ n. map_after_debit ctx ctx.op_source op.send_asset n m ≡ Ok given) (sym all) gave) in
      let legal = shifted_after ctx m under none_more
      (λ x. unless_issuer x op.send_asset ctx.op_source (neg_ℤ (pos all_sent))) given one.shifts in
      let on = path_on ctx ctx.id_pool op.send_asset op.path op.dest_asset (set_out op.send_amount given) carried legal
      along in
      let two = amount_taken ctx ctx.id_pool carried.entries on.went.legal sent_to (pos carried.amount)
      (natural_nonnegative carried.amount) new op.dest_asset took in
      let went = subst (λ (l : List ClaimAtom).
      IsCarried ctx.id_pool ctx.base_reserve op.send_asset all_sent op.dest_asset carried.amount given carried.entries
      l)
      (sym on.listed) on.went.carried in
      subst (λ n. IsLawful ctx m (sent_of carried new n)) all
      (sent_lawful ctx sent_to op.send_asset all_sent carried.atoms op.dest_asset carried.amount m given
      carried.entries new under (sent_of carried new op.send_amount).result one went two)

pub path_send_is_lawful : AreLawful path_payment_strict_send
path_send_is_lawful ctx op m done under exists is =
    done_so anything (IsLawful ctx m) (path_payment_strict_send ctx op m) done
    (send_steps anything (IsLawful ctx m) ctx op m (λ given carried new pass gave along took.
    sent_done ctx op m under (sent_low op pass) given gave carried along new took)) is
