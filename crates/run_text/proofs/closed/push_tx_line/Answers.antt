use Rattle.std.proofs.Common.{[], ◌∷◌, ◌++◌, ap, ◌∙◌, rules, FitsSigned, w64}
use Rattle.std.specs.Prelude.{codes}
use Rattle.std.specs.Fmt.{signed_decimal}
use Rattle.std.proofs.lemmas.Int.{to_z-of_z}
use Rattle.op_types.specs.Codes.{outcome_code}
use Rattle.run_outcome.specs.Lines.{spaced, hash_text, tx_line}
use Rattle.run_text.proofs.Written.{then_text}
use Rattle.run_text.proofs.closed.push_tx_line.Goals as goal

pub returns : goal.returns
unfolding tx_line
returns c =
    let out = c.args.text.now.items in
    let digest = hash_text c.args.pair.now.transaction_hash in
    let fee = c.args.pair.now.result.fee_charged in
    let fits : FitsSigned w64 fee = search rules in
    let code = spaced (signed_decimal (outcome_code c.args.pair.now.result.outcome)) in
    let b = then_text out (codes "tx ") c.extend_from_slice.new.self.items c.push_hash.new.text.items digest
    c.in_ok-push_hash.ensures c.in_ok-extend_from_slice.ensures.items in
    let d = then_text out (codes "tx " ++ digest) c.push_hash.new.text.items c.push_signed_word.new.text.items
    (spaced (signed_decimal fee))
    (c.in_ok-push_signed_word.ensures
    ∙ ap (λ z. c.push_hash.new.text.items ++ spaced (signed_decimal z)) (to_z-of_z w64 fee fits)) b in
    let e = then_text out (codes "tx " ++ digest ++ spaced (signed_decimal fee)) c.push_signed_word.new.text.items
    c.push_code_word.new.text.items code c.in_ok-push_code_word.ensures d in
    then_text out (codes "tx " ++ digest ++ spaced (signed_decimal fee) ++ code) c.push_code_word.new.text.items
    c.push.new.self.items (10 ∷ []) c.in_ok-push.ensures.items e
