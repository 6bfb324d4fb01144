use Rattle.command_words.proofs.Prelude.{◌≡◌, ◌≤◌, ◌∙◌, sym, subst, inl, inr, length, true≢false, string_bytes}
use Rattle.command_words.proofs.Prelude.{length-map, words_of}
use Rattle.command_words.proofs.Judging.{cut_options, options_cut}
use Rattle.command_words.proofs.judge.are_sample_options.Goals as goal

pub returns-then-are_sample_options_cut : goal.returns-then-are_sample_options_cut
returns-then-are_sample_options_cut c =
    let first = c.are_sample_options_cut in
    let is = c.if-are_sample_options_cut.true in
    ((λ t. options_cut 1 (words_of c.args.words.now) (first.ensures.0 is).1), (λ it. is))

pub returns-else-are_sample_options_cut : goal.returns-else-are_sample_options_cut
returns-else-are_sample_options_cut c =
    let words = words_of c.args.words.now in
    let long : length words ≡ length c.args.words.now = length-map c.args.words.now string_bytes in
    let first = c.are_sample_options_cut in
    let second = c.are_sample_options_cut-else-are_sample_options_cut in (
      (λ t. options_cut 2 words (second.ensures.0 t).1),
      (λ it. elim (cut_options it.0 it.1 words it.2) [
        | inl cut ↦
            let is = first.ensures.1 (subst (λ n. 1 ≤ n) long cut.0, cut.1) in
            absurd (true≢false (sym is ∙ c.if-are_sample_options_cut.false))
        | inr cut ↦ second.ensures.1 (subst (λ n. 2 ≤ n) long cut.0, cut.1)
      ]),
    )
