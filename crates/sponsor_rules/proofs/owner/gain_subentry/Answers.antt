use Rattle.sponsor_rules.proofs.Prelude.{arith, Sponsored}
use Rattle.sponsor_rules.proofs.owner.gain_subentry.Goals as goal

pub pay_more-requires : goal.pay_more-requires
pay_more-requires c =
    let same = c.in_ok-raise.ensures.kept Sponsored (λ e. absurd (cc e)) in
    let fits = c.requires.sponsored in
    omega arith
