-- What changes do to a ledger's entries.
use Rattle.std.specs.Prelude.{◌≡◌, ℕ, List}
use Rattle.entry_map.specs.declared.batch.Batch.{Batch}
use Rattle.entry_map.specs.EntryMap.{EntryMap, IsKeyed}
use Rattle.entry_map.specs.Batch.{IsBatch}
use Rattle.entry_changes.specs.Next.{AreNextEntries}
use Rattle.change_stream.specs.declared.change.Change.{Change}
use Rattle.change_stream.specs.Changes.{Applies, Misfits, reversed, AreChangesOf}

-- what a list of changes made of a map, the reversed list undoes, the numbers of last changes too
abbrev pub ReverseUndoes : Type 0
ReverseUndoes = (before after : EntryMap) (cs : List Change) → Applies before cs after
    → Applies after (reversed cs) before

-- The changes of a close are those of its batch.
pub record AreCloseChanges (seq : ℕ) (before worked after : EntryMap) (batch : Batch) (cs : List Change) : Type 0 where
  pub keyed_before : IsKeyed before
  pub keyed_after : IsKeyed after
  pub next : AreNextEntries seq before worked after
  pub batch_is : IsBatch before after batch
  pub changes : AreChangesOf before batch cs

-- they lead from the entries before the close to those after it
abbrev pub ChangesLead : Type 0
ChangesLead = (seq : ℕ) (before worked after : EntryMap) (batch : Batch) (cs : List Change)
    → AreCloseChanges seq before worked after batch cs → Applies before cs after

-- and reversed they lead back
abbrev pub ChangesLeadBack : Type 0
ChangesLeadBack = (seq : ℕ) (before worked after : EntryMap) (batch : Batch) (cs : List Change)
    → AreCloseChanges seq before worked after batch cs → Applies after (reversed cs) before

-- applying is a function, and so is the first change that doesn't fit, and there is only one of the two
abbrev pub AppliesToOne : Type 0
AppliesToOne = (m n o : EntryMap) (cs : List Change) → Applies m cs n → Applies m cs o → n ≡ o

abbrev pub MisfitsOnce : Type 0
MisfitsOnce = (m : EntryMap) (cs : List Change) (i j : ℕ) → Misfits m cs i → Misfits m cs j → i ≡ j

abbrev pub AppliesOrMisfits : Type 0
AppliesOrMisfits = (m n : EntryMap) (cs : List Change) (i : ℕ) → Applies m cs n → Misfits m cs i → ⊥
