use Rattle.signer_check.proofs.Prelude.{get_or, refl, sym, ap, ◌∙◌, arith, set-get_or}
use Rattle.signer_check.proofs.Prelude.{counted_by_signatures, missing_after, until_reached, used_for, left_of}
use Rattle.signer_check.proofs.Indices.{all_left}
use Rattle.signer_check.proofs.Turns.{holds_unmatched, holds_end, holds_on, holds_all}
use Rattle.signer_check.proofs.reaching.missing_after_kind.Goals as goal
use Rattle.signer_check.proofs.reaching.missing_after_kind.Goals.{in-Some+in_ok-missing, in_default}

pub loop-signature-init : goal.loop-signature-init
loop-signature-init c =
    let signatures = c.args.signatures.now in
    let kind = c.args.kind in
    let all = all_left 21 c.args.signers.now c.requires in
    record {
      reached = ap (λ left. missing_after c.args.needed (counted_by_signatures kind 0 signatures left)) all;
      using = ap (λ left. used_for (until_reached c.args.needed 0 (counted_by_signatures kind 0 signatures left))
          signatures) all;
    }

pub loop-signature-preserved : goal.loop-signature-preserved
loop-signature-preserved c =
    let kind = c.args.kind in
    let all = counted_by_signatures kind 0 c.args.signatures.now c.args.signers.now in
    let end = missing_after c.args.needed all in
    let used = used_for (until_reached c.args.needed 0 all) c.args.signatures.now in
    let now = c.loop-signature.signature-items in
    let index = c.loop-signature.signature-index in
    let left = left_of c.loop-signature.counted c.args.signers.now in
    let after = left_of c.count_signer.new.counted c.args.signers.now in
    elim c.match-count_signer.branch [
      | in-Some+in_ok-missing w ↦
          rw (w.missing-is, w.signature-items-is)
          (holds_on kind end used c.loop-signature.missing w.in_ok-missing.missing now index left after
          (get_or now index c.signature-item.result) c.signature-item.result w.in-Some.signer.now
          (omega arith) refl w.in-Some.ensures.signer w.in-Some.ensures.others
          (sym w.in_ok-missing.was ∙ w.missing_with.ensures) c.loop-signature.invariant)
      | in_default w ↦
          rw (w.missing-is, w.signature-items-is, set-get_or now index c.signature-item.result)
          (holds_unmatched kind end used c.loop-signature.missing now index left after
          (get_or now index c.signature-item.result) c.signature-item.result
          (omega arith) refl w.in_default.ensures.signer w.in_default.ensures.others c.loop-signature.invariant)
    ]

pub returns-in_err-missing-clause-missing : goal.returns-in_err-missing-clause-missing
returns-in_err-missing-clause-missing c =
    let kind = c.args.kind in
    let all = counted_by_signatures kind 0 c.args.signatures.now c.args.signers.now in
    let now = c.loop-signature.signature-items in
    let index = c.loop-signature.signature-index in
    c.from_residual.ensures
    ∙ (holds_end kind (missing_after c.args.needed all)
    (used_for (until_reached c.args.needed 0 all) c.args.signatures.now) c.loop-signature.missing now index
    (left_of c.loop-signature.counted c.args.signers.now) (left_of c.count_signer.new.counted c.args.signers.now)
    (get_or now index c.signature-item.result) c.signature-item.result c.in-Some.signer.now
    (omega arith) refl c.in-Some.ensures.signer c.in-Some.ensures.others
    (sym c.in_err-missing.was ∙ c.missing_with.ensures) c.loop-signature.invariant).0

pub returns-in_err-missing-clause-used : goal.returns-in_err-missing-clause-used
returns-in_err-missing-clause-used c =
    let kind = c.args.kind in
    let all = counted_by_signatures kind 0 c.args.signatures.now c.args.signers.now in
    let now = c.loop-signature.signature-items in
    let index = c.loop-signature.signature-index in
    (holds_end kind (missing_after c.args.needed all)
    (used_for (until_reached c.args.needed 0 all) c.args.signatures.now) c.loop-signature.missing now index
    (left_of c.loop-signature.counted c.args.signers.now) (left_of c.count_signer.new.counted c.args.signers.now)
    (get_or now index c.signature-item.result) c.signature-item.result c.in-Some.signer.now
    (omega arith) refl c.in-Some.ensures.signer c.in-Some.ensures.others
    (sym c.in_err-missing.was ∙ c.missing_with.ensures) c.loop-signature.invariant).1

pub returns-clause-missing : goal.returns-clause-missing
returns-clause-missing c =
    let all = counted_by_signatures c.args.kind 0 c.args.signatures.now c.args.signers.now in
    (holds_all c.args.kind (missing_after c.args.needed all)
    (used_for (until_reached c.args.needed 0 all) c.args.signatures.now) c.loop-signature.missing
    c.loop-signature.signature-items c.loop-signature.signature-index
    (left_of c.loop-signature.counted c.args.signers.now) (omega arith) c.loop-signature.invariant).0

pub returns-clause-used : goal.returns-clause-used
returns-clause-used c =
    let all = counted_by_signatures c.args.kind 0 c.args.signatures.now c.args.signers.now in
    (holds_all c.args.kind (missing_after c.args.needed all)
    (used_for (until_reached c.args.needed 0 all) c.args.signatures.now) c.loop-signature.missing
    c.loop-signature.signature-items c.loop-signature.signature-index
    (left_of c.loop-signature.counted c.args.signers.now) (omega arith) c.loop-signature.invariant).1
