-- Where paths may go: legal entries can be crossed once an account took or gave an amount, and balances are in their
-- ranges wherever books can be crossed.
use Rattle.op_payment.proofs.Prelude.{◌≡◌, subst, ℕ, Option, None, ℤ, pos, ◌≤ℤ◌, AccountId, Asset, EntryMap, Undo, Ctx}
use Rattle.op_payment.proofs.Prelude.{view, AreEntriesLegal, account_legal, line_legal, IsCrossable, CreditFault}
use Rattle.op_payment.proofs.Prelude.{DebitFault, map_after_credit, map_after_debit, BalancesAreInRange, IsStep}
use Rattle.trade_cross.proofs.Crossables.{crossable_of}
use Rattle.op_payment.proofs.Amounts.{amount_given, amount_taken}

pub crossable_in_range : (m : EntryMap) → IsCrossable m → BalancesAreInRange m
crossable_in_range m k = record {
  accounts = record {
    in_range = λ id a exists. (account_legal k.view k.id_pool k.owed k.sum m id a k.legal exists).range.range;
  };
  lines = λ id held t exists. (line_legal k.view k.id_pool k.owed k.sum m id held t k.legal exists).range.range;
}

module _ (ctx : Ctx) (old new : Undo) (legal : AreEntriesLegal ctx.id_pool old.current) (id : AccountId) (held : Asset)
    (n : ℤ) (low : pos 0 ≤ℤ n) where
  pub taken_crossable : (fault : Option CreditFault) → fault ≡ None
      → IsStep fault old new (map_after_credit id held n old.current) → IsCrossable new.current
  taken_crossable fault none its =
      let step = subst (λ o. IsStep o old new (map_after_credit id held n old.current)) none its in
      crossable_of (view old.current) ctx.id_pool _ new.current
      ((amount_taken ctx ctx.id_pool old.current legal id n low new.current held step.0).shifts (view old.current) _
      legal)

  pub given_crossable : (fault : Option DebitFault) → fault ≡ None
      → IsStep fault old new (map_after_debit ctx id held n old.current) → IsCrossable new.current
  given_crossable fault none its =
      let step = subst (λ o. IsStep o old new (map_after_debit ctx id held n old.current)) none its in
      crossable_of (view old.current) ctx.id_pool _ new.current
      ((amount_given ctx ctx.id_pool old.current legal id n low new.current held step.0).shifts (view old.current) _
      legal)
