-- A ledger has at most one answer to an input: its fault is the first, and its cheapest path is one.
use Rattle.std.proofs.Common.{◌≡◌, refl, sym, ap, ◌∙◌, ℕ, List, [], ◌∷◌, Option, Some, None, Result, Ok, Err, arith}
use Rattle.std.proofs.Common.{inl, inr, subst, length, ◌≤◌}
use Rattle.run_outcome.specs.close_rules.State.{ClosingState}
use Rattle.run_outcome.specs.Outcome.{Outcome}
use Rattle.run_outcome.specs.PathRun.{IsPathAnswer, IsPathFound, IsPathAnswerAt, IsPathAnswerOf, path_outcome}
use Rattle.run_outcome.specs.PathRun.{query_context}
use Rattle.xdr_core.specs.Position.{Reading, start_of}
use Rattle.xdr_core.specs.declared.fault.XdrFault.{XdrFault}
use Rattle.path_finder.specs.declared.query.PathQuery.{PathQuery}
use Rattle.path_finder.specs.declared.query.PathFault.{PathFault}
use Rattle.path_finder.specs.declared.query.PathFault.TheVariants as fault
use Rattle.path_finder.specs.declared.query.Found.{Found}
use Rattle.path_finder.specs.Query.{bad_index, candidates_of, max_candidates}
use Rattle.path_finder.specs.Costs.{cost_of}
use Rattle.path_finder.specs.Cheapest.{CheapestPathsAreOne}
use Rattle.path_finder.specs.Encoding.{path_query}
use Rattle.reports.specs.Answering.{AnswersAreOne, IsValidQuery}

-- a query with a fault at a part has none without it
no_fault : {X : Type 0} (o : Option ℕ) (index : ℕ) → o ≡ None → o ≡ Some index → X
no_fault o index none some = absurd (cc)

same_index : (o : Option ℕ) (i j : ℕ) → o ≡ Some i → o ≡ Some j → i ≡ j
same_index o i j one other = cc

module _ (least : CheapestPathsAreOne) (s : ClosingState) (query : PathQuery) where
  one_found : (a b : Result (Option Found) PathFault) → IsPathFound s query a → IsPathFound s query b → a ≡ b
  one_found (Ok x) (Ok y) one other =
      ap Ok (least (cost_of (query_context s.header query) query s.entries) (candidates_of query) x y one.1 other.1)
  one_found (Ok x) (Err (fault.BadQuery index)) one other =
      no_fault (bad_index query) index one.0.0 other.0
  one_found (Ok x) (Err (fault.TooMany given)) one other =
      absurd (omega (arith, one.0.1, other.0.1, other.0.2))
  one_found (Ok x) (Err fault.NoMemory) one other = absurd (other.2 refl)
  one_found (Err (fault.BadQuery index)) (Ok y) one other = no_fault (bad_index query) index other.0.0 one.0
  one_found (Err (fault.BadQuery i)) (Err (fault.BadQuery j)) one other =
      ap (λ n. Err (fault.BadQuery n)) (same_index (bad_index query) i j one.0 other.0)
  one_found (Err (fault.BadQuery index)) (Err (fault.TooMany given)) one other =
      no_fault (bad_index query) index other.0.0 one.0
  one_found (Err (fault.BadQuery index)) (Err fault.NoMemory) one other = absurd (other.2 refl)
  one_found (Err (fault.TooMany given)) (Ok y) one other =
      absurd (omega (arith, other.0.1, one.0.1, one.0.2))
  one_found (Err (fault.TooMany given)) (Err (fault.BadQuery index)) one other =
      no_fault (bad_index query) index one.0.0 other.0
  one_found (Err (fault.TooMany i)) (Err (fault.TooMany j)) one other =
      ap (λ n. Err (fault.TooMany n)) (one.0.1 ∙ sym other.0.1)
  one_found (Err (fault.TooMany given)) (Err fault.NoMemory) one other = absurd (other.2 refl)
  one_found (Err fault.NoMemory) b one other = absurd (one.2 refl)

  one_at : (at : ℕ) (rest : List ℕ) (a b : Outcome) → IsPathAnswerAt s query at rest a
      → IsPathAnswerAt s query at rest b → a ≡ b
  one_at at (byte ∷ rest) a b one other = one ∙ sym other
  one_at at [] a b (x, finds, one) (y, also, other) =
      one ∙ ap path_outcome (one_found x y finds also) ∙ sym other

one_of : CheapestPathsAreOne → (s : ClosingState) (r : Reading XdrFault PathQuery) (a b : Outcome)
    → IsPathAnswerOf s r a → IsPathAnswerOf s r b → a ≡ b
one_of least s (Err wrong) a b one other = one ∙ sym other
one_of least s (Ok x) a b one other = one_at least s x.0 x.1.at x.1.rest a b one other

pub answers_are_one : CheapestPathsAreOne → AnswersAreOne
answers_are_one least s bytes a b (inl (long, one)) (inl (also, other)) = one ∙ sym other
answers_are_one least s bytes a b (inl (long, one)) (inr (short, other)) = absurd (omega (arith, long, short))
answers_are_one least s bytes a b (inr (short, one)) (inl (long, other)) = absurd (omega (arith, long, short))
answers_are_one least s bytes a b (inr (short, one)) (inr (also, other)) =
    one_of least s (path_query.read (start_of bytes)) a b one other

-- ---- a query with which nothing is wrong

found_to : (s : ClosingState) (query : PathQuery) (found : Result (Option Found) PathFault) → bad_index query ≡ None
    → length (candidates_of query) ≤ max_candidates → IsPathFound s query found
    → (x : Option Found) × (found ≡ Ok x)
found_to s query (Ok x) valid few is = (x, refl)
found_to s query (Err (fault.BadQuery index)) valid few is = no_fault (bad_index query) index valid is.0
found_to s query (Err (fault.TooMany given)) valid few is = absurd (omega (arith, few, is.0.1, is.0.2))
found_to s query (Err fault.NoMemory) valid few is = absurd (is.2 refl)

-- it is answered by what the ledger finds
pub valid_answer : (s : ClosingState) (bytes : List ℕ) (asked : IsValidQuery bytes) (o : Outcome)
    → IsPathAnswer s bytes o
    → (found : Option Found) × IsPathFound s asked.query (Ok found) × (o ≡ path_outcome (Ok found))
valid_answer s bytes asked o (inl (long, is)) = absurd (omega (arith, long, asked.few))
valid_answer s bytes asked o (inr (short, of)) =
    let at = subst (λ (r : Reading XdrFault PathQuery). IsPathAnswerOf s r o) asked.reads of in
    let found = found_to s asked.query at.0 asked.valid asked.candidates at.1 in (
      found.0,
      subst (λ (r : Result (Option Found) PathFault). IsPathFound s asked.query r) found.1 at.1,
      at.2 ∙ ap path_outcome found.1,
    )
