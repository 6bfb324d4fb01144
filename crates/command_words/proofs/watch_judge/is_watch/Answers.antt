use Rattle.command_words.proofs.Prelude.{◌∙◌, sym, subst, true≢false, words_of}
use Rattle.command_words.specs.WatchOptions.{IsCountText, IsKeyText}
use Rattle.command_words.proofs.Judging.{never_true}
use Rattle.command_words.proofs.WatchTexts.{asked_by, count_in, key_in, texts_in, texts_one}
use Rattle.command_words.proofs.watch_judge.is_watch.Goals as goal

pub returns-then-is_key_text : goal.returns-then-is_key_text
returns-then-is_key_text c =
    let words = words_of c.args.words.now in
    let texts = c.in-Some.texts in (
      (λ t.
          let key = c.is_key_text.ensures.0 c.if-is_key_text.true in
          let count = c.is_count_text.ensures.0 t in (
            _,
            asked_by texts.network.now texts.account.now texts.readers.now key.0 count.0 words c.in-Some.ensures key.1
                count.1,
          )),
      (λ it.
          let same = texts_one _ texts.network.now _ texts.account.now _ texts.readers.now words
          (texts_in words it.0 it.1) c.in-Some.ensures in
          c.is_count_text.ensures.1 (it.0.readers, subst (IsCountText it.0.readers) same.2 (count_in words it.0 it.1))),
    )

pub returns-else-is_key_text : goal.returns-else-is_key_text
returns-else-is_key_text c =
    let words = words_of c.args.words.now in
    let texts = c.in-Some.texts in (
      (λ t. absurd (true≢false (sym t ∙ c.if-is_key_text.false))),
      (λ it.
          let same = texts_one _ texts.network.now _ texts.account.now _ texts.readers.now words
          (texts_in words it.0 it.1) c.in-Some.ensures in
          c.is_key_text.ensures.1 (it.0.account, subst (IsKeyText it.0.account) same.1 (key_in words it.0 it.1))),
    )

pub returns-in-None : goal.returns-in-None
returns-in-None c =
    never_true (λ it. c.in-None.ensures _ _ _ (texts_in (words_of c.args.words.now) it.0 it.1))
