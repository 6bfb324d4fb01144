-- CLAWBACK is lawful.
use Rattle.op_laws.proofs.Prelude as prelude
use prelude.{◌≡◌, sym, ap, ◌∙◌, true, false, not, ◌||◌, ◌∷◌, [], arith, ints, ℤ, pos, neg_ℤ, int_le}
use prelude.{AccountId, Asset, account_of, is_valid_asset, with_line, line_available}
use prelude.{is_same_account, same_account, of_asset, is_issued_by, line_asset_of, OfAccount}
use prelude.{IsLawful, AreLawful, issued, in_line, line_given, shifts_as, leaves_as}
use prelude.{int_lt_false, nonnegative_from_int_le, not-false, or_parts}
use Rattle.op_flags.specs.ledger_types.declared.asset.Asset.TheVariants as asset
use Rattle.op_flags.specs.op_types.declared.trust_results.ClawbackResult.TheVariants as claw
use Rattle.op_flags.specs.op_form.Amounts.{with_less}
use Rattle.op_claim.specs.Clawback as spec
use Rattle.op_laws.proofs.IssuedMoves.{same_both_ways, same_issuer, issued_so, issued_by_move}
use Rattle.op_laws.proofs.Lawful.{lawful_with}
use Rattle.op_laws.proofs.LineFlags.{issued_is}
use Rattle.op_laws.proofs.Payment.{asset_move}
use Rattle.op_laws.proofs.Described.{account_location, moved, move_describes, redeemed_more, line_more}
use Rattle.op_form.proofs.Steps.{done_so, anything}
use Rattle.op_claim.proofs.ClaimSteps.{clawback_steps}

-- an asset has one issuer
other_issuer : (held : Asset) (id other : AccountId) → is_issued_by held id ≡ true → is_same_account other id ≡ false
    → is_issued_by held other ≡ false
other_issuer asset.Native id other is apart = absurd (cc)
other_issuer (asset.Alphanum4 code issuer) id other is apart =
    ap (λ x. is_same_account x other) (same_account issuer id is) ∙ same_both_ways id other ∙ apart
other_issuer (asset.Alphanum12 code issuer) id other is apart =
    ap (λ x. is_same_account x other) (same_account issuer id is) ∙ same_both_ways id other ∙ apart

redeemed : (n : ℤ) → neg_ℤ n ≡ issued_so false true n
redeemed n = omega (arith, ints)

-- what goes back to its issuer is redeemed
redeemed_move : (x held : Asset) (from to : AccountId) (n : ℤ) → is_issued_by held to ≡ true
    → is_issued_by held from ≡ false
    → of_asset x held (neg_ℤ n) ≡ issued x (asset_move from to held n ∷ [])
redeemed_move x held from to n issuer other =
    ap (λ k. of_asset x held k) (redeemed n)
    ∙ (λ i. of_asset x held (issued_so (sym other i) (sym issuer i) n))
    ∙ (λ i. of_asset x held (issued_so (same_issuer held from i) (same_issuer held to i) n))
    ∙ issued_by_move x held (OfAccount from) (OfAccount to) n

pub clawback_is_lawful : AreLawful spec.clawback
clawback_is_lawful ctx op m done under exists is =
    let src = ctx.op_source in
    let from = account_of op.from in
    let held = op.asset in
    let none = int_le op.amount (pos 0) in
    let bad = not (is_valid_asset held) in
    let foreign = not (is_issued_by held src) in
    done_so anything (IsLawful ctx m) (spec.clawback ctx op m) done (clawback_steps anything (IsLawful ctx m) ctx op m
    (λ t pass there may.
    let fourth = or_parts (none || bad || foreign) (is_same_account from src) pass.0 in
    let third = or_parts (none || bad) foreign fourth.0 in
    let second = or_parts none bad third.0 in
    let issuer = not-false (is_issued_by held src) third.1 in
    let issued_asset = issued_is held src issuer in
    let low = nonnegative_from_int_le op.amount second.0 in
    let new = with_line m from (line_asset_of held) (with_less op.amount) in
    let given = line_given ctx.id_pool ctx.base_reserve m under.settled.legal from held issued_asset t there op.amount
    low
    (int_lt_false (line_available t) op.amount may.1.0) in
    let other = other_issuer held src from issuer fourth.1 in
    let all = moved held (OfAccount from) (OfAccount src) op.amount in
    lawful_with ctx m under all (spec.answer claw.Success) new (spec.clawback_move ctx op ∷ [])
    (shifts_as ctx.id_pool (λ x. of_asset x held (neg_ℤ op.amount)) (λ x. issued x (spec.clawback_move ctx op ∷ [])) m
    new (λ x. redeemed_move x held from src op.amount issuer other) given.shifts)
    (leaves_as ctx.base_reserve (in_line from held (neg_ℤ op.amount)) all m new given.left
    (λ k x. line_more held issued_asset from (neg_ℤ op.amount) other k x
    ∙ redeemed_more held (OfAccount from) (OfAccount src) op.amount (sym (same_issuer held src) ∙ issuer) k x))
    (move_describes held (OfAccount from) (OfAccount src) op.amount (account_location held from)
    (account_location held src)))) is
