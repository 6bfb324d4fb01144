use Rattle.command_words.proofs.WatchTexts.{key_iff}
use Rattle.command_words.proofs.watch_judge.is_key_text.Goals as goal

pub returns : goal.returns
returns c = key_iff c.args.text.now c.from_hex.result c.is_ok.result c.from_hex.ensures c.is_ok.ensures.value
