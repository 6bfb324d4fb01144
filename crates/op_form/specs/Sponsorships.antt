-- The sponsorships that are open (CAP-0033).
use Rattle.std.specs.Prelude.{Bool}
use Rattle.std.specs.List.{list_any}
use Rattle.ledger_types.specs.declared.ids.AccountId.{AccountId}
use Rattle.sponsor_rules.specs.declared.context.Ctx.{Ctx}
use Rattle.sponsor_rules.specs.Payers.{is_same_account}

-- an account is the sponsor of an open sponsorship
unfoldable pub is_open_sponsor : Ctx → AccountId → Bool
is_open_sponsor ctx id = list_any (λ sponsorship. is_same_account sponsorship.sponsor id) ctx.sponsorships
