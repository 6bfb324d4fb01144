use Rattle.command_words.proofs.Prelude.{◌≡◌, ◌∙◌, ap, inl, List, ℕ, Some, None}
use Rattle.std.specs.Result.{result_ok}
use Rattle.std.proofs.lemmas.Option.{same_Some}
use Rattle.hex.specs.Hex.{decode_sized}
use Rattle.command_words.proofs.WatchTexts.{key_sized}
use Rattle.command_words.proofs.watch_values.found_watch.Goals as goal

none_some : (x : List ℕ) → None ≡ Some x → ⊥
none_some x e = cc

pub returns-in_err-account : goal.returns-in_err-account
returns-in_err-account c = λ asked finds.
    let text = c.text_in.ensures finds.1.0 finds.1.1 in
    let read = c.from_hex.ensures ∙ (ap (λ t. decode_sized t 32) text ∙ key_sized finds.1.0 asked.account finds.1.2) in
    absurd (none_some asked.account (c.in_err-account.ensures.value ∙ ap result_ok read))

pub returns : goal.returns
returns c = λ asked finds.
    let text = c.text_in.ensures finds.1.0 finds.1.1 in
    let read = c.from_hex.ensures ∙ (ap (λ t. decode_sized t 32) text ∙ key_sized finds.1.0 asked.account finds.1.2) in
    let key : c.in_ok-account.account ≡ asked.account =
    same_Some _ _ (c.in_ok-account.ensures.value ∙ ap result_ok read) in
    let passphrase = c.text_in-2.ensures asked.passphrase finds.0 in
    let readers = c.number_in.ensures asked.readers (inl finds.2) in
    λ i. record { passphrase = passphrase i; account = key i; readers = readers i }
