use Rattle.entry_slots.proofs.Prelude.{◌≡◌, ℕ, suc, ◌+◌, ◌<◌, sym, ap, ◌∙◌, arith, None, Option, map, take, length}
use Rattle.entry_slots.proofs.Prelude.{List, [], ◌∷◌, ◌++◌, AccountId, Signer}
use Rattle.std.proofs.Math.Seq.{take-suc}
use Rattle.std.proofs.lemmas.List.{map-append}
use Rattle.entry_map.specs.ledger_types.declared.signer.SignerKey.TheVariants.{Ed25519}
use Rattle.entry_slots.proofs.account_extensions.no_sponsors.Goals as goal

abbrev no_sponsor : Signer → Option AccountId
no_sponsor signer = None

one_more : (signers : List Signer) (i : ℕ) → i < length signers
    → map no_sponsor (take (i + 1) signers) ≡ map no_sponsor (take i signers) ++ None ∷ []
one_more signers i within =
    let next : i + 1 ≡ suc i = omega arith in
    ap (λ k. map no_sponsor (take k signers)) next
    ∙ ap (map no_sponsor) (take-suc signers i (record { key = Ed25519 []; weight = 0 }) within)
    ∙ map-append no_sponsor _ _

pub loop-signer-preserved : goal.loop-signer-preserved
loop-signer-preserved c =
    c.in_ok-push.ensures.ok
    ∙ ap (λ sponsors. sponsors ++ None ∷ []) c.loop-signer.invariant
    ∙ sym (one_more c.as_slice-signer-items.result.now c.loop-signer._signer-index c.loop-signer-test.true)
