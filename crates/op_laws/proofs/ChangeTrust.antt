-- CHANGE_TRUST is lawful, whatever the line is in.
use Rattle.op_laws.proofs.Prelude.{◌≡◌, Ok, EntryMap, HasAccount, Ctx, Done, trust_in, change_trust, IsLawful}
use Rattle.op_laws.proofs.Prelude.{AreLawfulWhere, IsLimitFit, IsUnderway}
use Rattle.op_flags.specs.ledger_types.declared.asset.Asset.TheVariants as asset
use Rattle.op_flags.specs.ledger_types.declared.asset.ChangeTrustAsset.{ChangeTrustAsset}
use Rattle.op_flags.specs.ledger_types.declared.asset.ChangeTrustAsset.TheVariants as asked
use Rattle.op_flags.specs.op_types.declared.trust_ops.ChangeTrustOp.{ChangeTrustOp}
use Rattle.op_laws.proofs.ShareTrust.{share_trust_is_lawful}
use Rattle.op_laws.proofs.TrustLines.{asset_trust_is_lawful}

module _ (ctx : Ctx) (op : ChangeTrustOp) (m : EntryMap) (done : Done) (fit : IsLimitFit op) (under : IsUnderway ctx m)
    (exists : HasAccount m ctx.op_source) where
  by_line : (line : ChangeTrustAsset) → trust_in ctx op m line ≡ Ok done → IsLawful ctx m done
  by_line asked.Native is = asset_trust_is_lawful ctx m done under exists op.limit fit asset.Native is
  by_line (asked.Alphanum4 code issuer) is =
      asset_trust_is_lawful ctx m done under exists op.limit fit (asset.Alphanum4 code issuer) is
  by_line (asked.Alphanum12 code issuer) is =
      asset_trust_is_lawful ctx m done under exists op.limit fit (asset.Alphanum12 code issuer) is
  by_line (asked.PoolShare params) is = share_trust_is_lawful ctx m done under exists op.limit fit params is

pub change_trust_is_lawful : AreLawfulWhere IsLimitFit change_trust
change_trust_is_lawful ctx op m done fit under exists is = by_line ctx op m done fit under exists op.line is
