use Rattle.bucket_core.proofs.Prelude.{ap, ◌∙◌, option_map, change_at, item_of, Contents, ledger_key}
use Rattle.std.proofs.Common.{rules}
use Rattle.bucket_core.specs.Encoded.{IsEncoded}
use Rattle.bucket_core.proofs.Unencoded.{nothing_said}
use Rattle.bucket_core.proofs.bucket.Bucket.find.Goals as goal

pub returns-in-None : goal.returns-in-None
returns-in-None c =
    let key = c.args.key.now in
    let none : IsEncoded ledger_key key → ⊥ = search (rules, c.in_ok-text.ensures, c.in-None.is) in
    nothing_said _ key c.self.invariant.stated.file.has none
    ∙ ap (λ (contents : Contents). option_map (λ change. item_of (key, change)) (change_at contents key)) c.self.view_is
