use Rattle.command_words.proofs.Prelude.{◌∙◌, ℕ, sym, ap, inl, inr, List, Result, ParsesUnsigned, ExplainsUnsignedError}
use Rattle.command_words.proofs.Prelude.{HasUnsignedDigitsIfOk, unwrap_or, found_of, one_text-rows}
use Rattle.std.specs.declared.num.ParseIntError.{ParseIntError}
use Rattle.command_words.proofs.Numbers.{number_found}
use Rattle.command_words.proofs.values.number_in.Goals as goal

-- what `from_str` of `u32` gives
abbrev IsParsed : List ℕ → Result ℕ ParseIntError → Type 0
IsParsed text r = ParsesUnsigned 32 10 text r × ExplainsUnsignedError 10 text r × HasUnsignedDigitsIfOk text r

pub returns : goal.returns
returns c = λ number finds.
    let rows = one_text-rows (found_of c.args.values.now) c.args.name.now in
    let read = c.get_one in
    elim finds [
      | inl found ↦
          let value = read.ensures.value found.0 (rows ∙ found.1) in
          c.unwrap_or.ensures
          ∙ number_found IsParsed (λ text r h. h.0) found.0 number found.2 found.3 found.4 read.result value
      | inr none ↦
          c.unwrap_or.ensures ∙ (ap (λ o. unwrap_or o 0) (read.ensures.none (rows ∙ none.0)) ∙ sym none.1)
    ]
