use Rattle.std.proofs.Common.{ℕ, Option, Vec, Global, sym, ap, subst, ◌∙◌, map}
use Rattle.std.specs.Prelude.{MatchOption}
use Rattle.xdr_entries.specs.Keys.{ledger_key}
use Rattle.bucket_items.specs.KeyText.{IsKeyText}
use Rattle.bucket_core.specs.Encoded.{IsEncoded}
use Rattle.bucket_levels.specs.Levels.{pair_of}
use Rattle.bucket_levels.specs.Meaning.{entry_by, files_of}
use Rattle.level_pages.proofs.Unencoded.{unsaid}
use Rattle.level_pages.proofs.newest.find_entry.Goals as goal

pub returns-in-None : goal.returns-in-None
returns-in-None c = λ m represent.
    let k = c.args.key.now in
    let none : IsEncoded ledger_key k → ⊥ =
    subst (λ (o : Option (Vec ℕ Global)). MatchOption o (IsEncoded ledger_key k → ⊥) (λ t. IsKeyText t.items k))
    c.in-None.is c.in_ok-text.ensures in
    sym (represent k ∙ ap entry_by (unsaid (files_of (map pair_of c.args.pairs.now)) k c.keys_are_encoded.ensures none))
