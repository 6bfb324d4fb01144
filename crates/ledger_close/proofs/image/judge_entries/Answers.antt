use Rattle.ledger_close.proofs.Prelude.{rules, ◌≡◌, Some, None, Option, sym, subst, Err, list_hash, ImageFault}
use Rattle.ledger_close.proofs.Prelude.{IsFirstBroken, entry_rules, ImageRule, AreJudged}
use Rattle.ledger_close.proofs.Judged.{by_rule}
use Rattle.ledger_close.proofs.image.judge_entries.Goals as goal

pub returns-in-None : goal.returns-in-None
returns-in-None c =
    let hash : list_hash c.args.levels.now.pairs ≡ c.args.header.now.bucket_list_hash = search rules in
    let broken : IsFirstBroken c.args.header.now c.args.entries.now entry_rules None =
    subst (λ (o : Option ImageRule). IsFirstBroken c.args.header.now c.args.entries.now entry_rules o) c.in-None.is
    c.in_ok-first_broken.ensures in
    (hash, broken)

pub returns-in-Some : goal.returns-in-Some
returns-in-Some c =
    let hash : list_hash c.args.levels.now.pairs ≡ c.args.header.now.bucket_list_hash = search rules in
    let broken : IsFirstBroken c.args.header.now c.args.entries.now entry_rules (Some c.in-Some.rule) =
    subst (λ (o : Option ImageRule). IsFirstBroken c.args.header.now c.args.entries.now entry_rules o) c.in-Some.is
    c.in_ok-first_broken.ensures in
    subst (λ (f : ImageFault). AreJudged c.args.header.now c.args.levels.now.pairs c.args.entries.now (Err f))
    (sym c.broken-in-Some.ensures)
    (by_rule c.args.header.now c.args.levels.now.pairs c.args.entries.now c.in-Some.rule hash broken)
