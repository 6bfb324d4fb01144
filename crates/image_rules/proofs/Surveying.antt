-- What a walk over the entries of a map finds before an index.
use Rattle.image_rules.proofs.Prelude as prelude
use prelude.{◌≡◌, ◌≢◌, ◌↔◌, refl, sym, ap, subst, ◌∙◌, ℕ, ◌+◌, ◌<◌, ◌≤◌, Bool, true, false, Option, None, length}
use prelude.{IsTrue}
use prelude.{arith, ℤ, pos, slice_get, Some, entries, values, get, LedgerEntry, LedgerEntryBody, LedgerHeader}
use prelude.{LedgerKey}
use prelude.{EntryMap, EachEntry, total, pools_in, AreOffersApart, offer_with, AreInRange, count_at, IsCountOf}
use prelude.{counted_else, Aggregate, AreCounts, AreTerms, id_among, Brings, tally_in, Survey, held, IsKeyed, key_of}
use prelude.{◌*◌, neg_ℤ, ◌+ℤ◌, ◌≤ℤ◌, ints, to_z-of_z, w64}
use Rattle.std.proofs.Common.{negsuc, of_z, to_z}
use Rattle.std.specs.Int.{w128}
use Rattle.std.specs.BTreeSet.{BTreeSet}
use Rattle.ledger_types.specs.declared.asset.Asset.TheVariants as asset
use Rattle.close_rules.specs.legal_rules.Bounds.{AreSubentriesFew, DoReservesFit, IsFilledOrEmpty}
use Rattle.image_rules.specs.Surveys as spec
use Rattle.image_rules.proofs.Aggregated.{keyed_each}
use Rattle.image_rules.proofs.Bounded.{terms_in}
use Rattle.image_rules.proofs.Distinct.{none_among, brought_twice, brought_once, apart_of_all}
use Rattle.image_rules.proofs.Listed.{HoldsBefore, holds_none, holds_more, holds_of_all, holds_at, exists_at}
use Rattle.image_rules.proofs.Listed.{sum_before}
use Rattle.image_rules.proofs.Listed.{sum_more, sum_of_all}

-- ---- a test of each entry

-- the entries before an index pass a test, or not all entries do
abbrev pub AreTested : (LedgerEntry → Type 0) → EntryMap → ℕ → Bool → Type 0
AreTested P m i true = HoldsBefore P m i
AreTested P m i false = EachEntry (λ k e. P e) m → ⊥

pub tested_none : (P : LedgerEntry → Type 0) (m : EntryMap) (b : Bool) → IsTrue b → AreTested P m 0 b
tested_none P m true said = holds_none P m
tested_none P m false said = absurd (cc)

pub tested_more : (P : LedgerEntry → Type 0) (m : EntryMap) (i : ℕ) (e : LedgerEntry) (old new : Bool)
    → AreTested P m i old → slice_get (values m) i ≡ Some e → IsTrue new ↔ (IsTrue old × P e)
    → AreTested P m (i + 1) new
tested_more P m i e true true before at both = holds_more P m i e before at (both.0 refl).1
tested_more P m i e true false before at both =
    λ all. let both_true = both.1 (refl, holds_at P m i e all at) in cc
tested_more P m i e false true before at both = let no = (both.0 refl).0 in absurd (cc)
tested_more P m i e false false before at both = before

-- a test of an entry that was made beside another one
pub tested_too : (a b both : Bool) (P : Type 0) → IsTrue both ↔ (IsTrue a × IsTrue b) → IsTrue b ↔ P
    → IsTrue both ↔ (IsTrue a × P)
tested_too a b both P parts test = (
  λ said. let p = parts.0 said in (p.0, test.0 p.1),
  λ p. parts.1 (p.0, test.1 p.1),
)

pub tested_all : (P : LedgerEntry → Type 0) (m : EntryMap) (n : ℕ) (b : Bool) → length (entries m) ≤ n
    → AreTested P m n b → IsTrue b ↔ EachEntry (λ k e. P e) m
tested_all P m n true le all = (λ _. holds_of_all P m n le all, λ _. refl)
tested_all P m n false le never = (λ no. absurd (cc), λ all. absurd (never all))

-- ---- ids of offers

abbrev pub AreApartBefore : EntryMap → ℕ → BTreeSet ℤ → Bool → Type 0
AreApartBefore m i ids true = (id : ℤ) → sum_before (offer_with id) m i ≡ id_among ids id
AreApartBefore m i ids false = AreOffersApart m → ⊥

pub apart_more : (m : EntryMap) (i : ℕ) (e : LedgerEntry) (ids later : BTreeSet ℤ) (old new : Bool)
    → AreApartBefore m i ids old → slice_get (values m) i ≡ Some e → spec.AreStillApart old ids later e.body new
    → AreApartBefore m (i + 1) later new
apart_more m i e ids later true true before at brings = brought_once m ids later i e before at brings
apart_more m i e ids later true false before at brings = brought_twice m ids later i e before at brings
apart_more m i e ids later false true before at is = absurd (cc)
apart_more m i e ids later false false before at is = before

pub apart_all : (m : EntryMap) (n : ℕ) (ids : BTreeSet ℤ) (b : Bool) → length (entries m) ≤ n
    → AreApartBefore m n ids b → IsTrue b ↔ AreOffersApart m
apart_all m n ids true le all = (λ _. apart_of_all m ids n le all, λ _. refl)
apart_all m n ids false le never = (λ no. absurd (cc), λ apart. absurd (never apart))

-- ---- all of it

-- the entries before an index were walked over
pub record IsSurveyed (h : LedgerHeader) (m : EntryMap) (i : ℕ) (s : Survey) : Type 0 where
  pub ranges : HoldsBefore (spec.KeepsRanges h m) m i
  pub owned : AreTested (spec.HasNeeded m) m i s.owned
  pub apart : AreApartBefore m i s.ids s.apart
  pub few : AreTested (λ e. AreSubentriesFew e.body) m i s.few
  pub fitting : AreTested (λ e. DoReservesFit e.body) m i s.fitting
  pub filled : AreTested (λ e. IsFilledOrEmpty e.body) m i s.filled
  pub known : spec.IsKnown m s.known
  pub tallies : (which : Aggregate) (k : LedgerKey) → IsCountOf (count_at (tally_in s.tallies which) k)
      (sum_before (counted_else (pools_in m) which k) m i)

module _ (h : LedgerHeader) (m : EntryMap) where
  known_none : (known : Option prelude.AccountId) → known ≡ None → spec.IsKnown m known
  known_none known none = subst (spec.IsKnown m) (sym none) tt

  pub surveyed_none : (s : Survey) → spec.IsEmptySurvey s → IsSurveyed h m 0 s
  surveyed_none s none = record {
    ranges = holds_none (spec.KeepsRanges h m) m;
    owned = tested_none (spec.HasNeeded m) m s.owned none.owned;
    apart = subst (AreApartBefore m 0 s.ids) (sym none.apart) (none_among s.ids none.ids);
    few = tested_none (λ e. AreSubentriesFew e.body) m s.few none.few;
    fitting = tested_none (λ e. DoReservesFit e.body) m s.fitting none.fitting;
    filled = tested_none (λ e. IsFilledOrEmpty e.body) m s.filled none.filled;
    known = known_none s.known none.known;
    tallies = λ which k. record { exact = 0; is = refl; capped = none.tallies which k };
  }

  pub surveyed_more : (i : ℕ) (e : LedgerEntry) (old new : Survey) → IsSurveyed h m i old
      → slice_get (values m) i ≡ Some e → spec.KeepsRanges h m e → spec.IsWalkedOver m e old new
      → IsSurveyed h m (i + 1) new
  surveyed_more i e old new before at ranges walked = record {
    ranges = holds_more (spec.KeepsRanges h m) m i e before.ranges at ranges;
    owned = tested_more (spec.HasNeeded m) m i e old.owned new.owned before.owned at walked.owned;
    apart = apart_more m i e old.ids new.ids old.apart new.apart before.apart at walked.apart;
    few = tested_more (λ x. AreSubentriesFew x.body) m i e old.few new.few before.few at walked.few;
    fitting = tested_more (λ x. DoReservesFit x.body) m i e old.fitting new.fitting before.fitting at walked.fitting;
    filled = tested_more (λ x. IsFilledOrEmpty x.body) m i e old.filled new.filled before.filled at walked.filled;
    known = walked.known;
    tallies = λ which k. subst (IsCountOf (count_at (tally_in new.tallies which) k))
        (sym (sum_more (counted_else (pools_in m) which k) m i e at))
        (walked.tallies which k (sum_before (counted_else (pools_in m) which k) m i) (before.tallies which k));
  }

  pub ranges_of : EachEntry (λ k e. spec.KeepsRanges h m e) m → AreInRange h m
  ranges_of all = record {
    entries = λ k e there. (all k e there).range;
    dated = λ k e there. (all k e there).dated;
    authorized = λ k e there. (all k e there).authorized;
  }

  pub kept_of : AreInRange h m → (i : ℕ) (e : LedgerEntry) → slice_get (values m) i ≡ Some e → spec.KeepsRanges h m e
  kept_of ranges i e at = holds_at (spec.KeepsRanges h m) m i e (λ k x there. record {
    range = ranges.entries k x there;
    dated = ranges.dated k x there;
    authorized = ranges.authorized k x there;
  }) at

  pub terms_at : (e : LedgerEntry) → spec.KeepsRanges h m e → AreTerms e.body
  terms_at e kept = terms_in h.id_pool e.body kept.range.body

  pub there_at : (i : ℕ) (e : LedgerEntry) → IsKeyed m → slice_get (values m) i ≡ Some e → get m (key_of e) ≢ None
  there_at i e keyed at none = let there = exists_at m i e (keyed_each m keyed) at in cc

  pub surveyed_all : (n : ℕ) (s : Survey) (lumens : ℤ) → length (entries m) ≤ n → IsSurveyed h m n s
      → lumens ≡ sum_before (held asset.Native) m n → spec.IsSurvey h m s lumens
  surveyed_all n s lumens le all is = record {
    ranges = ranges_of (holds_of_all (spec.KeepsRanges h m) m n le all.ranges);
    owned = tested_all (spec.HasNeeded m) m n s.owned le all.owned;
    apart = apart_all m n s.ids s.apart le all.apart;
    few = tested_all (λ e. AreSubentriesFew e.body) m n s.few le all.few;
    fitting = tested_all (λ e. DoReservesFit e.body) m n s.fitting le all.fitting;
    filled = tested_all (λ e. IsFilledOrEmpty e.body) m n s.filled le all.filled;
    lumens = is ∙ sum_of_all (held asset.Native) m n le;
    tallies = λ which k. subst (IsCountOf (count_at (tally_in s.tallies which) k))
        (sum_of_all (counted_else (pools_in m) which k) m n le) (all.tallies which k);
  }

-- ---- the sum of lumens

-- one amount of 64 bits more, of n that were before
pub lumens_more : (n : ℕ) (a f v h s next : ℤ) → n < 18446744073709551616
    → neg_ℤ (pos (9223372036854775808 * n)) ≤ℤ a → a ≤ℤ pos (9223372036854775808 * n)
    → negsuc 9223372036854775807 ≤ℤ v → v ≤ℤ pos 9223372036854775807 → f ≡ to_z w64 (of_z w64 v) → h ≡ v → a ≡ s
    → next ≡ (s +ℤ h) → to_z w128 (of_z w128 (a +ℤ to_z w128 (of_z w128 f))) ≡ next
lumens_more n a f v h s next few low high least greatest is_f is_h is_a is_next = grind (arith, ints, to_z-of_z)
