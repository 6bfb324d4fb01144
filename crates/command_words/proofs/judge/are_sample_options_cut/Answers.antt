use Rattle.command_words.proofs.Prelude.{◌≡◌, ◌∙◌, ℕ, sym, subst, inl, inr, List, true≢false, AreSeedAndLedgers}
use Rattle.command_words.proofs.Judging.{parts_of}
use Rattle.command_words.proofs.judge.are_sample_options_cut.Goals as goal

moved : (one other one' other' : List (List ℕ)) → one ≡ one' → other ≡ other' → AreSeedAndLedgers one other
    → AreSeedAndLedgers one' other'
moved one other one' other' e e' are = subst (λ o. AreSeedAndLedgers o other') e (subst (AreSeedAndLedgers one) e' are)

pub returns-then-are_seed_and_ledgers : goal.returns-then-are_seed_and_ledgers
returns-then-are_seed_and_ledgers c =
    let cut = c.split_at in
    let told = cut.ensures in
    let parts = parts_of c.args.words.now cut.result.0.now cut.result.1.now c.args.at told.front told.back in
    let first = c.are_seed_and_ledgers in (
      (λ t. (c.if-words-at.false, inl (moved _ _ _ _ parts.0 parts.1 (first.ensures.0 t)))),
      (λ it. c.if-are_seed_and_ledgers.true),
    )

pub returns-else-are_seed_and_ledgers : goal.returns-else-are_seed_and_ledgers
returns-else-are_seed_and_ledgers c =
    let cut = c.split_at in
    let told = cut.ensures in
    let parts = parts_of c.args.words.now cut.result.0.now cut.result.1.now c.args.at told.front told.back in
    let first = c.are_seed_and_ledgers in
    let second = c.are_seed_and_ledgers-else-are_seed_and_ledgers in (
      (λ t. (c.if-words-at.false, inr (moved _ _ _ _ parts.1 parts.0 (second.ensures.0 t)))),
      (λ it. elim it.1 [
        | inl are ↦
            let is = first.ensures.1 (moved _ _ _ _ (sym parts.0) (sym parts.1) are) in
            absurd (true≢false (sym is ∙ c.if-are_seed_and_ledgers.false))
        | inr are ↦ second.ensures.1 (moved _ _ _ _ (sym parts.1) (sym parts.0) are)
      ]),
    )
