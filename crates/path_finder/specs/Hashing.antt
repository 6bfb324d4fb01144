-- How a candidate is hashed, and that the same assets are hashed alike.
use Rattle.std.specs.Prelude.{◌≡◌, true, ◌++◌}
use Rattle.std.specs.Bool.{Decides}
use Rattle.std.specs.Cmp.{IsEquivalence}
use Rattle.std.specs.Hash as writes
use Rattle.std.specs.Hash.{HashWrites, Alike, same_Alike}
use Rattle.std.proofs.Common.{subst}
use Rattle.std.proofs.lemmas.Cmp.{eq_by_cmp_equiv}
use Rattle.ledger_types.specs.declared.asset.Asset.{Asset}
use Rattle.ledger_types.specs.declared.asset.Asset.TheVariants as asset
use Rattle.ledger_types.proofs.KeyOrdering.{assets_total, same_assets}
use Rattle.op_payment.specs.Paths.{is_same_asset}

-- its code and its issuer
abbrev pub hash_input : Asset → HashWrites
hash_input asset.Native = writes.u8 0
hash_input (asset.Alphanum4 code issuer) = writes.slice writes.u8 code ++ writes.slice writes.u8 issuer.0
hash_input (asset.Alphanum12 code issuer) = writes.slice writes.u8 code ++ writes.slice writes.u8 issuer.0

pub same_equivalence : IsEquivalence is_same_asset
same_equivalence = eq_by_cmp_equiv assets_total

pub same_decides : (a b : Asset) → Decides (is_same_asset a b) (a ≡ b)
same_decides a b = (same_assets a b, λ e. subst (λ x. is_same_asset a x ≡ true) e (same_equivalence.refl a))

pub hashed_alike : Alike is_same_asset hash_input
hashed_alike = same_Alike hash_input same_decides
