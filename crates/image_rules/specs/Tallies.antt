-- What entries count in each aggregate, and in which they agree with it.
use Rattle.std.specs.Prelude.{◌≡◌, ◌↔◌, Bool, true, false, IsTrue}
use Rattle.ledger_types.specs.declared.entry.LedgerEntry.{LedgerEntry}
use Rattle.entry_map.specs.EntryMap.{EntryMap}
use Rattle.close_rules.specs.legal_rules.Legal.{IsAggregated}
use Rattle.image_rules.specs.declared.aggregates.Aggregate.{Aggregate}
use Rattle.image_rules.specs.declared.aggregates.Aggregate.TheVariants as aggregate
use Rattle.image_rules.specs.declared.agreement.Agreement.{Agreement}
use Rattle.image_rules.specs.declared.tallies.Tallies.{Tallies}
use Rattle.image_rules.specs.Counts.{CountMap}
use Rattle.image_rules.specs.Aggregates.{Agrees, kind_of}

abbrev pub tally_in : Tallies → Aggregate → CountMap
tally_in tallies aggregate.Subentries = tallies.subentries
tally_in tallies aggregate.Sponsoring = tallies.sponsoring
tally_in tallies aggregate.Sponsored = tallies.sponsored
tally_in tallies aggregate.Selling = tallies.selling
tally_in tallies aggregate.Buying = tallies.buying
tally_in tallies aggregate.Shares = tallies.shares
tally_in tallies aggregate.ShareLines = tallies.share_lines
tally_in tallies aggregate.Uses = tallies.uses

abbrev pub agrees_in : Agreement → Aggregate → Bool
agrees_in agreement aggregate.Subentries = agreement.subentries
agrees_in agreement aggregate.Sponsoring = agreement.sponsoring
agrees_in agreement aggregate.Sponsored = agreement.sponsored
agrees_in agreement aggregate.Selling = agreement.selling
agrees_in agreement aggregate.Buying = agreement.buying
agrees_in agreement aggregate.Shares = agreement.shares
agrees_in agreement aggregate.ShareLines = agreement.share_lines
agrees_in agreement aggregate.Uses = agreement.uses

-- the answer on an entry where those before it agreed, and false where one didn't
abbrev pub StillAgrees : CountMap → Aggregate → LedgerEntry → (before answer : Bool) → Type 0
StillAgrees counts which e true answer = Agrees counts which e answer
StillAgrees counts which e false answer = answer ≡ false

-- an agreement says of each aggregate whether all entries state what is counted for them
pub record IsAgreement (m : EntryMap) (agreement : Agreement) : Type 0 where
  pub each : (which : Aggregate) → IsTrue (agrees_in agreement which) ↔ IsAggregated (kind_of which) m
