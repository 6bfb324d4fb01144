-- One more path is considered: the best of those before it becomes the best of those with it.
use Rattle.std.specs.Prelude.{◌≤ℤ◌, int_lt}
use Rattle.path_finder.proofs.Order.{not_below_itself, less_costs, not_less, up_to, above, itself_costs}
use Rattle.path_finder.proofs.Prelude.{◌≡◌, refl, sym, ap, subst, ◌∙◌, List, Bool, true, false, ◌⊎◌, inl, inr, ℤ}
use Rattle.path_finder.proofs.Prelude.{Option, Some, None, if◌then◌else◌, Asset, Found, is_less, sort_key, IsCheapest}
use Rattle.path_finder.proofs.Prelude.{IsCheapestOrNone, better}

some_is : {X : Type 0} (a b : X) → Some a ≡ Some b → a ≡ b
some_is a b h = cc

some_none : {X : Type 0} (a : X) → Some a ≡ None → ⊥
some_none a h = absurd (cc)

module _ (cost_of : List Asset → Option ℤ) (candidates : List Asset) (Old New : List Asset → Type 0) where
  -- the paths are the same
  pub cheapest_of_same : ((q : List Asset) → Old q → New q) → ((q : List Asset) → New q → Old q)
      → (best : Option Found) → IsCheapestOrNone cost_of candidates Old best
      → IsCheapestOrNone cost_of candidates New best
  cheapest_of_same on back None h = λ q its. h q (back q its)
  cheapest_of_same on back (Some b) h = record {
    among = on b.path h.among;
    costs = h.costs;
    least = λ q cost its. h.least q cost (back q its);
    first = λ q its. h.first q (back q its);
  }

  module _ (p : List Asset) (new : New p) (on : (q : List Asset) → Old q → New q)
      (only : (q : List Asset) → New q → Old q ⊎ (q ≡ p))
      (later : (q : List Asset) → Old q → is_less (sort_key candidates p) (sort_key candidates q) ≡ false) where
    -- it has no cost
    without_cost : (best : Option Found) → cost_of p ≡ None → IsCheapestOrNone cost_of candidates Old best
        → IsCheapestOrNone cost_of candidates New best
    without_cost None none h = λ q its. elim (only q its) [
      | inl old ↦ h q old
      | inr same ↦ ap cost_of same ∙ none
    ]
    without_cost (Some b) none h = record {
      among = on b.path h.among;
      costs = h.costs;
      least = λ q cost its e. elim (only q its) [
        | inl old ↦ h.least q cost old e
        | inr same ↦ absurd (some_none cost (sym e ∙ ap cost_of same ∙ none))
      ];
      first = λ q its e. elim (only q its) [
        | inl old ↦ h.first q old e
        | inr same ↦ absurd (some_none b.cost (sym e ∙ ap cost_of same ∙ none))
      ];
    }

    module _ (k : ℤ) (costs : cost_of p ≡ Some k) where
      its_cost : (q : List Asset) (cost : ℤ) → q ≡ p → cost_of q ≡ Some cost → k ≡ cost
      its_cost q cost same e = some_is k cost (sym costs ∙ ap cost_of (sym same) ∙ e)

      not_later : (q : List Asset) → q ≡ p → is_less (sort_key candidates q) (sort_key candidates p) ≡ false
      not_later q same =
          ap (λ x. is_less (sort_key candidates x) (sort_key candidates p)) same
          ∙ not_below_itself (sort_key candidates p)

      -- it is the first with a cost
      first_found : IsCheapestOrNone cost_of candidates Old None
          → IsCheapest cost_of candidates New (record { path = p; cost = k })
      first_found h = record {
        among = new;
        costs = costs;
        least = λ q cost its e. elim (only q its) [
          | inl old ↦ absurd (some_none cost (sym e ∙ h q old))
          | inr same ↦ itself_costs k cost (its_cost q cost same e)
        ];
        first = λ q its e. elim (only q its) [
          | inl old ↦ absurd (some_none k (sym e ∙ h q old))
          | inr same ↦ not_later q same
        ];
      }

      -- it costs less than the best one
      taken : (b : Found) → int_lt k b.cost ≡ true → IsCheapest cost_of candidates Old b
          → IsCheapest cost_of candidates New (record { path = p; cost = k })
      taken b less h = record {
        among = new;
        costs = costs;
        least = λ q cost its e. elim (only q its) [
          | inl old ↦ up_to k b.cost cost (less_costs k b.cost less) (h.least q cost old e)
          | inr same ↦ itself_costs k cost (its_cost q cost same e)
        ];
        first = λ q its e. elim (only q its) [
          | inl old ↦ absurd (above k b.cost (less_costs k b.cost less) (h.least q k old e))
          | inr same ↦ not_later q same
        ];
      }

      -- it doesn't
      left : (b : Found) → int_lt k b.cost ≡ false → IsCheapest cost_of candidates Old b
          → IsCheapest cost_of candidates New b
      left b less h = record {
        among = on b.path h.among;
        costs = h.costs;
        least = λ q cost its e. elim (only q its) [
          | inl old ↦ h.least q cost old e
          | inr same ↦ subst (λ n. b.cost ≤ℤ n) (its_cost q cost same e) (not_less k b.cost less)
        ];
        first = λ q its e. elim (only q its) [
          | inl old ↦ h.first q old e
          | inr same ↦
              ap (λ x. is_less (sort_key candidates x) (sort_key candidates b.path)) same ∙ later b.path h.among
        ];
      }

      by_test : (b : Found) (t : Bool) → int_lt k b.cost ≡ t → IsCheapest cost_of candidates Old b
          → IsCheapestOrNone cost_of candidates New
          (if t then Some (record { path = p; cost = k }) else Some b)
      by_test b true less h = taken b less h
      by_test b false less h = left b less h

      with_cost : (best : Option Found) → IsCheapestOrNone cost_of candidates Old best
          → IsCheapestOrNone cost_of candidates New (better best p (Some k))
      with_cost None h = first_found h
      with_cost (Some b) h = by_test b (int_lt k b.cost) refl h

    by_cost : (best : Option Found) (cost : Option ℤ) → cost_of p ≡ cost
        → IsCheapestOrNone cost_of candidates Old best → IsCheapestOrNone cost_of candidates New (better best p cost)
    by_cost best None e h = without_cost best e h
    by_cost best (Some k) e h = with_cost k e best h

    pub considered : (best : Option Found) → IsCheapestOrNone cost_of candidates Old best
        → IsCheapestOrNone cost_of candidates New (better best p (cost_of p))
    considered best h = by_cost best (cost_of p) refl h
