-- PAYMENT is lawful.
use Rattle.op_laws.proofs.Prelude as prelude
use prelude.{◌≡◌, refl, sym, subst, ◌∙◌, true, not, [], ◌∷◌, Ok, ℤ, pos, neg_ℤ, int_le, ◌+ℤ◌, ◌≤ℤ◌}
use prelude.{is_eq, AccountId, Asset, account_of, asset_cmp, is_valid_asset, EntryMap, Ctx}
use prelude.{is_same_account, same_account, of_asset, map_after_credit, map_after_debit, is_native, is_issued_by}
use prelude.{Move, OfAccount}
use prelude.{payment, payment_move, payment_tests, IsLawful, AreLawful, issued, IsUnderway}
use prelude.{unless_issuer, shifts_as, shifts_both, none_more, leaves_itself, leaves_both}
use prelude.{nonnegative_from_int_le, and_parts, or_parts}
use Rattle.op_flags.specs.ledger_types.declared.asset.Asset.TheVariants as asset
use Rattle.op_flags.specs.op_types.declared.payment_ops.PaymentOp.{PaymentOp}
use Rattle.op_flags.specs.op_types.declared.payment_results.PaymentResult.TheVariants as pay
use Rattle.op_payment.specs.Payment.{answer}
use Rattle.op_laws.proofs.Amounts.{amount_taken, amount_given}
use Rattle.op_laws.proofs.IssuedMoves.{same_issuer, issued_so, issued_by_move}
use Rattle.op_laws.proofs.Lawful.{lawful_here, lawful_with, shifted_after}
use Rattle.op_laws.proofs.Lumens.{lumens_move, itself_described, none_issued}
use Rattle.op_laws.proofs.Described.{more_for, account_location, moved, move_describes}
use Rattle.op_laws.proofs.MoveSums.{move_issues}
use Rattle.op_form.proofs.Steps.{done_so, anything, AllPass}
use Rattle.op_form.proofs.Walks.{succeeded}
use Rattle.op_payment.proofs.PaymentSteps.{payment_steps, paid_so}

-- ---- what a payment gives and issues

-- an account pays another one an amount of an asset
abbrev pub asset_move : (from to : AccountId) → Asset → ℤ → Move
asset_move from to held n = record { from = OfAccount from; to = OfAccount to; asset = held; amount = n }

-- what one takes and another gives is what the move issues, of whatever asset
pub paid_issued : (x held : Asset) (from to : AccountId) (n : ℤ)
    → (unless_issuer x held to n +ℤ unless_issuer x held from (neg_ℤ n)) ≡ issued x (asset_move from to held n ∷ [])
paid_issued x held from to n =
    move_issues (is_eq (asset_cmp x held)) (is_issued_by held from) (is_issued_by held to) n
    ∙ (λ i. of_asset x held (issued_so (same_issuer held from i) (same_issuer held to i) n))
    ∙ issued_by_move x held (OfAccount from) (OfAccount to) n

-- ---- the operation

native_is : (held : Asset) → is_native held ≡ true → held ≡ asset.Native
native_is asset.Native is = refl
native_is (asset.Alphanum4 code issuer) is = absurd (cc)
native_is (asset.Alphanum12 code issuer) is = absurd (cc)

module _ (ctx : Ctx) (op : PaymentOp) (m : EntryMap) (under : IsUnderway ctx m) (low : pos 0 ≤ℤ op.amount) where
  abbrev from : AccountId
  from = ctx.op_source

  abbrev to : AccountId
  to = account_of op.destination

  to_itself : op.asset ≡ asset.Native → to ≡ from → IsLawful ctx m (paid_so ctx op m)
  to_itself native same =
      let its_move : payment_move ctx op ≡ lumens_move from to op.amount =
      λ i. record (payment_move ctx op) { asset = native i } in
      subst (λ x. IsLawful ctx m (succeeded ctx (answer pay.Success) m (x ∷ []))) (sym its_move)
      (lawful_here ctx m under none_more (answer pay.Success) m (lumens_move from to op.amount ∷ [])
      (λ v sum legal. legal) (leaves_itself ctx.base_reserve m under.settled.legal.keyed)
      (itself_described from to op.amount same) (none_issued from to op.amount))

  taken_given : (taken given : EntryMap) → map_after_credit to op.asset op.amount m ≡ Ok taken
      → map_after_debit ctx from op.asset op.amount taken ≡ Ok given → IsLawful ctx m (paid_so ctx op given)
  taken_given taken given is also =
      let one = amount_taken ctx ctx.id_pool m under.settled.legal to op.amount low taken op.asset is in
      let now_legal = shifted_after ctx m under none_more (λ x. unless_issuer x op.asset to op.amount) taken one.shifts
      in
      let two = amount_given ctx ctx.id_pool taken now_legal from op.amount low given op.asset also in
      let more = moved op.asset (OfAccount from) (OfAccount to) op.amount in
      lawful_with ctx m under more (answer pay.Success) given (payment_move ctx op ∷ [])
      (shifts_as ctx.id_pool
      (λ x. unless_issuer x op.asset to op.amount +ℤ unless_issuer x op.asset from (neg_ℤ op.amount))
      (λ x. issued x (payment_move ctx op ∷ [])) m given (λ x. paid_issued x op.asset from to op.amount)
      (shifts_both ctx.id_pool (λ x. unless_issuer x op.asset to op.amount)
      (λ x. unless_issuer x op.asset from (neg_ℤ op.amount)) m taken given one.shifts two.shifts))
      (leaves_both ctx.base_reserve (more_for op.asset (OfAccount to) op.amount)
      (more_for op.asset (OfAccount from) (neg_ℤ op.amount)) m taken given one.left two.left)
      (move_describes op.asset (OfAccount from) (OfAccount to) op.amount (account_location op.asset from)
      (account_location op.asset to))

low_of : (op : PaymentOp) → AllPass (payment_tests op) → pos 0 ≤ℤ op.amount
low_of op pass =
    nonnegative_from_int_le op.amount (or_parts (int_le op.amount (pos 0)) (not (is_valid_asset op.asset)) pass.0).0

pub payment_is_lawful : AreLawful payment
payment_is_lawful ctx op m done under exists is =
    done_so anything (IsLawful ctx m) (payment ctx op m) done (payment_steps anything (IsLawful ctx m) ctx op m
    (λ pass itself. let both = and_parts (is_native op.asset)
    (is_same_account (account_of op.destination) ctx.op_source)
    itself in
    to_itself ctx op m under (low_of op pass) (native_is op.asset both.0)
    (same_account (account_of op.destination) ctx.op_source both.1))
    (λ taken given pass first also. taken_given ctx op m under (low_of op pass) taken given first also)) is
