use Rattle.signer_check.proofs.Prelude.{◌∙◌}
use Rattle.signer_check.specs.declared.kind.SignerKind.TheVariants as kinds
use Rattle.signer_check.proofs.KindsCounted.{after_hash, after_last, ended, second, third}
use Rattle.signer_check.proofs.reaching.missing_after_all.Goals as goal

pub returns-in_err-missing-clause-missing : goal.returns-in_err-missing-clause-missing
returns-in_err-missing-clause-missing c =
    let hash = c.args.hash.now in
    let before = c.args.signatures.now in
    let signers = c.args.signers.now in
    let need = c.args.needed in
    let at = after_hash hash before signers need c.missing_after_hash.result c.missing_after_hash.ensures in
    c.from_residual.ensures ∙ (ended hash before signers need c.missing_after_hash.result _ before
    c.in_err-missing.was at).0

pub returns-in_err-missing-clause-used : goal.returns-in_err-missing-clause-used
returns-in_err-missing-clause-used c =
    let hash = c.args.hash.now in
    let before = c.args.signatures.now in
    let signers = c.args.signers.now in
    let need = c.args.needed in
    let at = after_hash hash before signers need c.missing_after_hash.result c.missing_after_hash.ensures in
    (ended hash before signers need c.missing_after_hash.result _ before
    c.in_err-missing.was at).1

pub returns-in_err-missing-2-clause-missing : goal.returns-in_err-missing-2-clause-missing
returns-in_err-missing-2-clause-missing c =
    let hash = c.args.hash.now in
    let before = c.args.signatures.now in
    let signers = c.args.signers.now in
    let need = c.args.needed in
    let hashed = second hash before signers need c.missing_after_hash.result c.missing_after_kind.result
    c.in_ok-missing.missing c.missing_after_kind.new.signatures c.missing_after_hash.ensures c.in_ok-missing.was
    c.missing_after_kind.ensures.missing c.missing_after_kind.ensures.used in
    c.from_residual-in_err-missing-2.ensures
    ∙ (ended hash before signers need c.missing_after_kind.result _ c.missing_after_kind.new.signatures
    c.in_err-missing-2.was hashed).0

pub returns-in_err-missing-2-clause-used : goal.returns-in_err-missing-2-clause-used
returns-in_err-missing-2-clause-used c =
    let hash = c.args.hash.now in
    let before = c.args.signatures.now in
    let signers = c.args.signers.now in
    let need = c.args.needed in
    let hashed = second hash before signers need c.missing_after_hash.result c.missing_after_kind.result
    c.in_ok-missing.missing c.missing_after_kind.new.signatures c.missing_after_hash.ensures c.in_ok-missing.was
    c.missing_after_kind.ensures.missing c.missing_after_kind.ensures.used in
    (ended hash before signers need c.missing_after_kind.result _ c.missing_after_kind.new.signatures
    c.in_err-missing-2.was hashed).1

pub returns-in_err-missing-3-clause-missing : goal.returns-in_err-missing-3-clause-missing
returns-in_err-missing-3-clause-missing c =
    let hash = c.args.hash.now in
    let before = c.args.signatures.now in
    let signers = c.args.signers.now in
    let need = c.args.needed in
    let hashed = second hash before signers need c.missing_after_hash.result c.missing_after_kind.result
    c.in_ok-missing.missing c.missing_after_kind.new.signatures c.missing_after_hash.ensures c.in_ok-missing.was
    c.missing_after_kind.ensures.missing c.missing_after_kind.ensures.used in
    let at = third hash before signers need c.missing_after_kind.result c.missing_after_kind-2.result
    c.in_ok-missing-2.missing c.missing_after_kind.new.signatures c.missing_after_kind-2.new.signatures hashed
    c.in_ok-missing-2.was c.missing_after_kind-2.ensures.missing c.missing_after_kind-2.ensures.used in
    c.from_residual-in_err-missing-3.ensures
    ∙ (ended hash before signers need c.missing_after_kind-2.result _ c.missing_after_kind-2.new.signatures
    c.in_err-missing-3.was at).0

pub returns-in_err-missing-3-clause-used : goal.returns-in_err-missing-3-clause-used
returns-in_err-missing-3-clause-used c =
    let hash = c.args.hash.now in
    let before = c.args.signatures.now in
    let signers = c.args.signers.now in
    let need = c.args.needed in
    let hashed = second hash before signers need c.missing_after_hash.result c.missing_after_kind.result
    c.in_ok-missing.missing c.missing_after_kind.new.signatures c.missing_after_hash.ensures c.in_ok-missing.was
    c.missing_after_kind.ensures.missing c.missing_after_kind.ensures.used in
    let at = third hash before signers need c.missing_after_kind.result c.missing_after_kind-2.result
    c.in_ok-missing-2.missing c.missing_after_kind.new.signatures c.missing_after_kind-2.new.signatures hashed
    c.in_ok-missing-2.was c.missing_after_kind-2.ensures.missing c.missing_after_kind-2.ensures.used in
    (ended hash before signers need c.missing_after_kind-2.result _ c.missing_after_kind-2.new.signatures
    c.in_err-missing-3.was at).1

pub returns-clause-missing : goal.returns-clause-missing
returns-clause-missing c =
    let hash = c.args.hash.now in
    let before = c.args.signatures.now in
    let signers = c.args.signers.now in
    let need = c.args.needed in
    let hashed = second hash before signers need c.missing_after_hash.result c.missing_after_kind.result
    c.in_ok-missing.missing c.missing_after_kind.new.signatures c.missing_after_hash.ensures c.in_ok-missing.was
    c.missing_after_kind.ensures.missing c.missing_after_kind.ensures.used in
    let at = third hash before signers need c.missing_after_kind.result c.missing_after_kind-2.result
    c.in_ok-missing-2.missing c.missing_after_kind.new.signatures c.missing_after_kind-2.new.signatures hashed
    c.in_ok-missing-2.was c.missing_after_kind-2.ensures.missing c.missing_after_kind-2.ensures.used in
    (after_last hash before signers need kinds.SignedPayload c.missing_after_kind-2.result c.missing_after_kind-3.result
    c.in_ok-missing-3.missing c.missing_after_kind-2.new.signatures c.missing_after_kind-3.new.signatures
    c.in_ok-missing-3.was at c.missing_after_kind-3.ensures.missing c.missing_after_kind-3.ensures.used).0

pub returns-clause-used : goal.returns-clause-used
returns-clause-used c =
    let hash = c.args.hash.now in
    let before = c.args.signatures.now in
    let signers = c.args.signers.now in
    let need = c.args.needed in
    let hashed = second hash before signers need c.missing_after_hash.result c.missing_after_kind.result
    c.in_ok-missing.missing c.missing_after_kind.new.signatures c.missing_after_hash.ensures c.in_ok-missing.was
    c.missing_after_kind.ensures.missing c.missing_after_kind.ensures.used in
    let at = third hash before signers need c.missing_after_kind.result c.missing_after_kind-2.result
    c.in_ok-missing-2.missing c.missing_after_kind.new.signatures c.missing_after_kind-2.new.signatures hashed
    c.in_ok-missing-2.was c.missing_after_kind-2.ensures.missing c.missing_after_kind-2.ensures.used in
    (after_last hash before signers need kinds.SignedPayload c.missing_after_kind-2.result c.missing_after_kind-3.result
    c.in_ok-missing-3.missing c.missing_after_kind-2.new.signatures c.missing_after_kind-3.new.signatures
    c.in_ok-missing-3.was at c.missing_after_kind-3.ensures.missing c.missing_after_kind-3.ensures.used).1
