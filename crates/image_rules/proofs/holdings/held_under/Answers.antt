use Rattle.image_rules.proofs.Prelude.{◌≡◌, ◌≢◌, ◌↔◌, refl, subst, Bool, [], ◌∷◌, Option, Some, None, All, All-nil}
use Rattle.image_rules.proofs.Prelude.{All-cons, All-head}
use Rattle.image_rules.proofs.Prelude.{IsTrue, get, LedgerEntry, LedgerKey}
use Rattle.std.specs.Option.{is_some}
use Rattle.entry_slots.specs.Lines.{line_of}
use Rattle.close_rules.specs.legal_rules.Legal.{IsAuthorized}
use Rattle.image_rules.proofs.holdings.held_under.Goals as goal

is_there : (o : Option LedgerEntry) (b : Bool) → b ≡ is_some o → IsTrue b ↔ (o ≢ None)
is_there None b is = (λ said. absurd (cc), λ never. absurd (never refl))
is_there (Some e) b is = (λ said none. cc, λ some. is)

one_key : (P : LedgerKey → Type 0) (b : Bool) (k : LedgerKey) → IsTrue b ↔ P k → IsTrue b ↔ All P (k ∷ [])
one_key P b k holds = (
  λ said. All-cons P k [] (holds.0 said) (All-nil P),
  λ all. holds.1 (All-head P k [] all),
)

pub returns : goal.returns
returns c =
    let m = c.args.entries.now in
    let k = c.args.key.now in
    let found = c.in_ok-found.ensures.found in
    record {
      there = one_key (λ q. get m q ≢ None) c.is_some.result k
          (subst (λ (o : Option LedgerEntry). IsTrue c.is_some.result ↔ (o ≢ None)) found
          (is_there c.in_ok-found.found c.is_some.result c.is_some.ensures));
      authorized = one_key (λ q. IsAuthorized (line_of (get m q))) c.is_authorized.result k
          (subst (λ (o : Option LedgerEntry). IsTrue c.is_authorized.result ↔ IsAuthorized (line_of o)) found
          c.is_authorized.ensures);
    }
