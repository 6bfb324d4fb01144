-- Entries that state what is counted for them, as far as they were gone through.
use Rattle.image_rules.proofs.Prelude.{◌≡◌, ◌↔◌, refl, ℕ, ◌+◌, ◌≤◌, Bool, true, false, Some, length, slice_get}
use Rattle.image_rules.proofs.Prelude.{entries, values}
use Rattle.image_rules.proofs.Prelude.{LedgerEntry, EntryMap, IsKeyed, Aggregate, kind_of, CountMap, AreCounts}
use Rattle.image_rules.proofs.Prelude.{AreOwned, IsAggregated, IsTrue, StillAgrees, LedgerEntryBody, LedgerKey, own_count}
use Rattle.image_rules.proofs.Prelude.{get_or, ◌<◌, inl, inr, arith, length-map}
use Rattle.std.specs.Option.{is_some}
use Rattle.std.specs.Prelude.{None, ◌⊎◌}
use Rattle.std.proofs.lemmas.Option.{slice_get_cases}
use Rattle.ledger_types.specs.declared.entry.LedgerEntryBody.TheVariants as body
use Rattle.entry_map.specs.Book.{offer_in}
use Rattle.image_rules.specs.Aggregates.{AgreesIn}
use Rattle.image_rules.proofs.Listed.{holds_at, holds_more, holds_of_all}
use Rattle.image_rules.proofs.Aggregated.{IsRightKeyed, aggregated_of_right, right_of_aggregated, right_of_answer}
use Rattle.image_rules.proofs.Aggregated.{answer_of_right}
use Rattle.image_rules.proofs.Surveying.{AreTested, tested_all}

module _ (which : Aggregate) (m : EntryMap) where
  agreed_more : (counts : CountMap) (i : ℕ) (e : LedgerEntry) (old new : Bool) → AreCounts which m counts
      → IsKeyed m → slice_get (values m) i ≡ Some e → AreTested (IsRightKeyed which m) m i old
      → StillAgrees counts which e old new → AreTested (IsRightKeyed which m) m (i + 1) new
  agreed_more counts i e true true counted keyed at before agrees =
      holds_more (IsRightKeyed which m) m i e before at
      (keyed, right_of_answer which m counts i e true counted keyed at agrees refl)
  agreed_more counts i e true false counted keyed at before agrees =
      λ all.
      let answer = answer_of_right which m counts i e false counted keyed at agrees
      (holds_at (IsRightKeyed which m) m i e all at).1 in cc
  agreed_more counts i e false true counted keyed at before is = absurd (cc)
  agreed_more counts i e false false counted keyed at before is = before

  -- an offer states nothing
  offer_agrees : (counts : CountMap) (own : ℕ) (b : LedgerEntryBody) → is_some (offer_in b) ≡ true
      → AgreesIn counts which own b true
  offer_agrees counts own (body.Account account) is = absurd (cc)
  offer_agrees counts own (body.TrustLine line) is = absurd (cc)
  offer_agrees counts own (body.Offer offer) is = refl
  offer_agrees counts own (body.Data entry) is = refl
  offer_agrees counts own (body.ClaimableBalance balance) is = refl
  offer_agrees counts own (body.LiquidityPool pool) is = absurd (cc)

  pub offer_passed : (counts : CountMap) (e : LedgerEntry) (b : Bool) → is_some (offer_in e.body) ≡ true
      → StillAgrees counts which e b b
  offer_passed counts e true is = offer_agrees counts (own_count which e) e.body is
  offer_passed counts e false is = refl

  abbrev StillAgreesAt : CountMap → ℕ → (old new : Bool) → Type 0
  StillAgreesAt counts i old new =
      (e : LedgerEntry) → slice_get (values m) i ≡ Some e → StillAgrees counts which e old new

  agreed_by : (counts : CountMap) (i : ℕ) (old new : Bool) → AreCounts which m counts → IsKeyed m
      → i < length (entries m) → StillAgreesAt counts i old new → AreTested (IsRightKeyed which m) m i old
      → ((x : LedgerEntry) × (i < length (values m)) × (slice_get (values m) i ≡ Some x)
      × (get_or (values m) i x ≡ x)) ⊎ ((length (values m) ≤ i) × (slice_get (values m) i ≡ None))
      → AreTested (IsRightKeyed which m) m (i + 1) new
  agreed_by counts i old new counted keyed lt agrees before (inl found) =
      agreed_more counts i found.0 old new counted keyed found.2 before (agrees found.0 found.2)
  agreed_by counts i old new counted keyed lt agrees before (inr past) =
      let same = length-map (entries m) (λ (x : LedgerKey × LedgerEntry). x.1) in
      absurd (omega (arith, same, lt, past.0))

  -- the entry at an index was gone through
  pub agreed_next : (counts : CountMap) (i : ℕ) (old new : Bool) → AreCounts which m counts → IsKeyed m
      → i < length (entries m) → StillAgreesAt counts i old new → AreTested (IsRightKeyed which m) m i old
      → AreTested (IsRightKeyed which m) m (i + 1) new
  agreed_next counts i old new counted keyed lt agrees before =
      agreed_by counts i old new counted keyed lt agrees before (slice_get_cases (values m) i).1

  pub agreed_all : (n : ℕ) (b : Bool) → length (entries m) ≤ n → AreOwned m → IsKeyed m
      → AreTested (IsRightKeyed which m) m n b → IsTrue b ↔ IsAggregated (kind_of which) m
  agreed_all n b le owned keyed tested =
      let all = tested_all (IsRightKeyed which m) m n b le tested in (
        λ said. aggregated_of_right which m owned (all.0 said),
        λ aggregated. all.1 (holds_of_all (IsRightKeyed which m) m n le
            (λ j e lt at. (keyed, right_of_aggregated which m j e keyed at aggregated))),
      )
