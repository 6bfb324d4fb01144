use Rattle.image_rules.proofs.Prelude.{◌≡◌, ◌-◌, refl, sym, subst, ◌∙◌, arith, get_or, IsBelow, Signer}
use Rattle.std.proofs.lemmas.List.{get_or_default}
use Rattle.image_rules.proofs.Rising.{rising_of}
use Rattle.image_rules.proofs.signers.do_rise.Goals as goal

pub returns-then-not-is_below : goal.returns-then-not-is_below
returns-then-not-is_below c =
    let signers = c.args.signers.now in
    let index = c.loop-index.index in
    let lower = c.index-signers-index.result in
    let upper = c.index-signers-index-in-loop-index.result in (
      λ no. absurd (cc),
      λ all.
          let pair : IsBelow (get_or signers (index - 1) lower) (get_or signers index lower) =
          all (index - 1) index lower (omega arith) (omega arith) in
          let same : get_or signers index lower ≡ upper =
          get_or_default signers index lower upper (omega arith) ∙ sym c.index-signers-index-in-loop-index.is in
          let below : IsBelow lower upper = subst (λ (x : Signer). IsBelow x upper) (sym c.index-signers-index.is)
          (subst (IsBelow (get_or signers (index - 1) lower)) same pair) in
          let holds = c.is_below.ensures.1 below in cc,
    )

pub returns : goal.returns
returns c = (λ _. rising_of c.args.signers.now (λ k d lt. c.loop-index.invariant k d (omega arith)), λ _. refl)
