use Rattle.std.proofs.Common.{Option, sym, subst, ◌∙◌}
use Rattle.ledger_types.specs.declared.key.LedgerKey.{LedgerKey}
use Rattle.ledger_types.specs.declared.bucket.BucketEntry.{BucketEntry}
use Rattle.level_pages.specs.Next.{IsLeast}
use Rattle.level_pages.proofs.Leasts.{newer_least, older_first}
use Rattle.level_pages.proofs.next.lesser.Goals as goal

pub returns-in-Greater : goal.returns-in-Greater
returns-in-Greater c = λ f g k h i.
    older_first f g k c.in-Some.a c.in-Some-older.b
    (subst (λ (o : Option (LedgerKey × BucketEntry)). IsLeast f k o) c.in-Some.is h)
    (subst (λ (o : Option (LedgerKey × BucketEntry)). IsLeast g k o) c.in-Some-older.is i)
    (sym (c.order.ensures c.in-Some-older.b.0 c.key.ensures) ∙ c.in-Greater.is)

pub returns-in_default : goal.returns-in_default
returns-in_default c = λ f g k h i.
    newer_least f g k c.in-Some.a c.in-Some-older.b
    (subst (λ (o : Option (LedgerKey × BucketEntry)). IsLeast f k o) c.in-Some.is h)
    (subst (λ (o : Option (LedgerKey × BucketEntry)). IsLeast g k o) c.in-Some-older.is i)
    (λ gt. c.in_default.not-Greater
    (c.order.ensures c.in-Some-older.b.0 c.key.ensures ∙ gt))
