-- An input of `verify` has one verdict.
use Rattle.std.proofs.Common.{◌≡◌, ℕ, List, [], ◌∷◌, Ok, Err, refl, sym, ap, subst, ◌∙◌}
use Rattle.xdr_core.specs.declared.fault.XdrFault.{XdrFault}
use Rattle.xdr_core.specs.Position.{Reading, start_of}
use Rattle.archive_files.specs.declared.form.StatedHistory.{StatedHistory}
use Rattle.archive_files.specs.Form.{stated_history}
use Rattle.archive_files.proofs.Verdicts as verdicts
use Rattle.run_outcome.specs.Outcome.{Outcome}
use Rattle.run_outcome.specs.VerifyRun.{IsVerdict, IsVerdictAt, IsVerdictOf, verdict_outcome}
use Rattle.reports.specs.HistoryInput.{IsChain}

at_one : (h : StatedHistory) (at : ℕ) (rest : List ℕ) (a b : Outcome) → IsVerdictAt h at rest a
    → IsVerdictAt h at rest b → a ≡ b
at_one h at (byte ∷ rest) a b e e' = e ∙ sym e'
at_one h at [] a b (one, is, some, e) (other, is', some', e') =
    e ∙ ap verdict_outcome (verdicts.verdicts_are_one h.history h.before h.first one other is is' some some') ∙ sym e'

of_one : (r : Reading XdrFault StatedHistory) (a b : Outcome) → IsVerdictOf r a → IsVerdictOf r b → a ≡ b
of_one (Err wrong) a b e e' = e ∙ sym e'
of_one (Ok x) a b is is' = at_one x.0 x.1.at x.1.rest a b is is'

pub verdicts_are_one : (input : List ℕ) (a b : Outcome) → IsVerdict input a → IsVerdict input b → a ≡ b
verdicts_are_one input = of_one (stated_history.read (start_of input))

-- a chain has the verdict that it is one
pub chain_verdict : (text : List ℕ) (chain : IsChain text) → IsVerdict text (verdict_outcome (Ok chain.verified))
chain_verdict text chain =
    subst (λ (r : Reading XdrFault StatedHistory). IsVerdictOf r (verdict_outcome (Ok chain.verified)))
    (sym chain.is.1) (Ok chain.verified, chain.holds, (λ e. cc), refl)
