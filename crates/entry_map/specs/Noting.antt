-- How the changed keys are noted, one after another.
use Rattle.std.specs.Prelude.{◌≡◌, ◌≢◌, ◌↔◌, ◌⊎◌, true, ◌||◌, Option, Some, None, List, [], ◌∷◌, ◌++◌, Contains}
use Rattle.std.specs.Prelude.{option_to_list}
use Rattle.std.specs.FinMap.{contains_key}
use Rattle.ledger_types.specs.declared.key.LedgerKey.{LedgerKey}
use Rattle.ledger_types.specs.declared.entry.LedgerEntry.{LedgerEntry}
use Rattle.ledger_types.specs.Keys.{key_of}
use Rattle.entry_map.specs.declared.batch.Batch.{Batch}
use Rattle.entry_map.specs.EntryMap.{EntryMap}
use Rattle.entry_map.specs.KeyMaps.{AreRising}
use Rattle.entry_map.specs.Layers.{LayerMap, is_changed}
use Rattle.entry_map.specs.Batch.{parts_of, IsNew, IsChanged, IsGone}

-- ks are the keys that one of the layers changed, in their order
pub record AreChangedKeys (ls : List LayerMap) (top : LayerMap) (ks : List LedgerKey) : Type 0 where
  pub rises : AreRising ks
  pub all : (q : LedgerKey) → Contains ks q ↔ ((contains_key top q || is_changed ls q) ≡ true)

abbrev pub no_changes : Batch
no_changes = record { init = []; live = []; dead = [] }

-- a batch after a key that had the entry `before` and has the entry `after`
abbrev pub IsNoted : Option LedgerEntry → Option LedgerEntry → LedgerKey → Batch → Batch → Type 0
IsNoted None None k old new = new ≡ old
IsNoted None (Some e) k old new = new ≡ record { init = old.init ++ e ∷ []; live = old.live; dead = old.dead }
IsNoted (Some was) None k old new = new ≡ record { init = old.init; live = old.live; dead = old.dead ++ k ∷ [] }
IsNoted (Some was) (Some e) k old new =
    ((parts_of was ≡ parts_of e) × (new ≡ old))
    ⊎ ((parts_of was ≢ parts_of e) × (new ≡ record { init = old.init; live = old.live ++ e ∷ []; dead = old.dead }))

-- the one value that has the key k and of which P holds, or none where there is none
abbrev pub Answers : {X : Type 0} → (X → LedgerKey) → (X → Type 0) → LedgerKey → Option X → Type 0
Answers {X} key P k o = (x : X) → (o ≡ Some x) ↔ ((key x ≡ k) × P x)

-- a list takes the value that has the key k and of which P holds, if there is one
abbrev pub Takes : {X : Type 0} → (X → LedgerKey) → (X → Type 0) → LedgerKey → List X → List X → Type 0
Takes {X} key P k old new = (o : Option X) × Answers key P k o × (new ≡ old ++ option_to_list o)

-- a batch takes what changed at a key
pub record IsNotedAt (before after : EntryMap) (k : LedgerKey) (old new : Batch) : Type 0 where
  pub init : Takes key_of (IsNew before after) k old.init new.init
  pub live : Takes key_of (IsChanged before after) k old.live new.live
  pub dead : Takes (λ q. q) (IsGone before after) k old.dead new.dead
