use Rattle.tx_apply.proofs.Prelude.{subst, operation_body}
use Rattle.tx_apply.proofs.Within.{balance_claimants_few}
use Rattle.tx_apply.proofs.fit.number_fits.Goals as goal

pub claimants_fit-requires : goal.claimants_fit-requires
claimants_fit-requires c =
    balance_claimants_few c.in-CreateClaimableBalance.op
    (subst operation_body.within c.in-CreateClaimableBalance.is c.requires)
