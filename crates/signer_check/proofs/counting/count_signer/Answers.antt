use Rattle.signer_check.proofs.Prelude.{[], rules, ◌<◌, Some, sym, ap, ◌∙◌, arith, option_copied, option_map, Signer}
use Rattle.signer_check.proofs.Prelude.{Ed25519, Match, left_of, left_after}
use Rattle.signer_check.proofs.Indices.{matched_at, matched_nothing, index_within}
use Rattle.signer_check.proofs.counting.count_signer.Goals as goal

-- what an index past the end would give
abbrev past : Signer
past = record { key = Ed25519 []; weight = 0 }

pub returns-in_err-index-clause-signer : goal.returns-in_err-index-clause-signer
returns-in_err-index-clause-signer c =
    let none =
    matched_nothing c.args.kind c.args.signature.now c.args.counted.now c.args.signers.now
    (sym c.in_err-index.was ∙ c.first_index.ensures) in
    ap option_copied c.from_residual.ensures ∙ sym (ap (option_map (λ (m : Match). m.signer)) none)

pub returns-in_err-index-clause-others : goal.returns-in_err-index-clause-others
returns-in_err-index-clause-others c =
    let none =
    matched_nothing c.args.kind c.args.signature.now c.args.counted.now c.args.signers.now
    (sym c.in_err-index.was ∙ c.first_index.ensures) in
    sym (ap (left_after (left_of c.args.counted.now c.args.signers.now)) none)

pub bounds-counted-index : goal.bounds-counted-index
bounds-counted-index c =
    let within =
    index_within c.args.kind c.args.signature.now past c.args.counted.now c.args.signers.now c.in_ok-index.index
    (sym c.in_ok-index.was ∙ c.first_index.ensures) in
    omega (arith, within.1)

pub offset_bounds-signers-index : goal.offset_bounds-signers-index
offset_bounds-signers-index c =
    let within =
    index_within c.args.kind c.args.signature.now past c.args.counted.now c.args.signers.now c.in_ok-index.index
    (sym c.in_ok-index.was ∙ c.first_index.ensures) in
    let small : c.in_ok-index.index < 21 = omega (arith, within.1) in
    search rules

pub bounds-signers-index : goal.bounds-signers-index
bounds-signers-index c =
    (index_within c.args.kind c.args.signature.now past c.args.counted.now c.args.signers.now c.in_ok-index.index
    (sym c.in_ok-index.was ∙ c.first_index.ensures)).0

pub returns-clause-signer : goal.returns-clause-signer
returns-clause-signer c =
    let found =
    matched_at c.args.kind c.args.signature.now c.index-signers-index.result c.args.counted.now c.args.signers.now
    (Some c.in_ok-index.index) (sym c.in_ok-index.was ∙ c.first_index.ensures) in
    ap Some c.index-signers-index.is ∙ sym (ap (option_map (λ (m : Match). m.signer)) found)

pub returns-clause-others : goal.returns-clause-others
returns-clause-others c =
    let found =
    matched_at c.args.kind c.args.signature.now past c.args.counted.now c.args.signers.now (Some c.in_ok-index.index)
    (sym c.in_ok-index.was ∙ c.first_index.ensures) in
    sym (ap (left_after (left_of c.args.counted.now c.args.signers.now)) found)
