-- No transaction of a sample has an ACCOUNT_MERGE.
use Rattle.sample_laws.proofs.Prelude.{◌≡◌, ℕ, zero, suc, ◌+◌, false, List, [], ◌∷◌, map, refl, ◌==◌, ◌||◌, ◌&&◌}
use Rattle.sample_laws.proofs.Prelude.{All-from_recursion, nat_le, ◌%◌, All, AllByRecursion, range_with_len}
use Rattle.sample_laws.proofs.Prelude.{LedgerHeader, TransactionEnvelope, is_merge, MergesNone, issuer_turn, drawn_turn}
use Rattle.sample_laws.proofs.Prelude.{issuer_operations, other_operation, envelope_of, is_claim}
use Rattle.sample_ledger.proofs.ledger_types_proofs.Booleans.{if_either}
use Rattle.sample_ledger.specs.op_types.declared.operation.Operation.{Operation}
use Rattle.sample_ledger.specs.op_types.declared.operation.OperationBody.{OperationBody}
use Rattle.account_laws.specs.tx_apply.Operations.{operations_of}
use Rattle.sample_ledger.specs.Records as spec

abbrev IsNone : OperationBody → Type 0
IsNone body = is_merge body ≡ false

abbrev AreNone : List Operation → Type 0
AreNone operations = AllByRecursion (λ (o : Operation). IsNone o.body) operations

abbrev IsNoneOf : Operation → Type 0
IsNoneOf o = IsNone o.body

turn_is_none : (seed k : ℕ) → IsNoneOf (issuer_turn seed k)
unfolding issuer_turn
turn_is_none seed k =
    if_either IsNoneOf (k % 10 == 0) _ _ refl
    (if_either IsNoneOf (k % 10 == 5) _ _ refl (if_either IsNoneOf (is_claim k) _ _ refl refl))

drawn_is_none : (seed v : ℕ) → IsNone (drawn_turn seed v)
unfolding drawn_turn
drawn_is_none seed v =
    if_either IsNone (v % 5 == 0) _ _ refl
    (if_either IsNone (v % 5 == 1) _ _ refl
    (if_either IsNone (v % 5 == 2) _ _ refl (if_either IsNone (v % 5 == 3) _ _ refl refl)))

payments_are_none : (seed : ℕ) (tos : List ℕ)
    → AreNone (map (λ to. spec.own (spec.payment seed to (spec.usd seed) 1000000000)) tos)
payments_are_none seed [] = tt
payments_are_none seed (to ∷ tos) = (refl, payments_are_none seed tos)

issued_are_none : (seed k : ℕ) → AreNone (issuer_operations seed k)
unfolding issuer_operations
issued_are_none seed k =
    if_either AreNone (k == 1) _ _ (refl, tt)
    (if_either AreNone (k == 2) _ _ (payments_are_none seed (range_with_len 1 8))
    (if_either AreNone ((k == 3) || (k == 4)) _ _ (refl, tt)
    (if_either AreNone (k == 5) _ _ (refl, (refl, (refl, tt))) (turn_is_none seed k, tt))))

other_is_none : (seed k account : ℕ) → IsNone (other_operation seed k account)
unfolding other_operation
other_is_none seed k account =
    if_either IsNone (k == 1) _ _ refl
    (if_either IsNone (k == 3) _ _ refl
    (if_either IsNone ((k == 4) && (account == 1)) _ _ refl
    (if_either IsNone (nat_le k 5) _ _ refl (drawn_is_none seed _))))

all_are_none : (seed k account : ℕ) → AreNone (spec.operations_of seed k account)
unfolding spec.operations_of
all_are_none seed k account =
    if_either AreNone (account == 0) _ _ (issued_are_none seed k) (other_is_none seed k account, tt)

abbrev AreNoneOf : TransactionEnvelope → Type 0
AreNoneOf entire = All (λ (o : Operation). is_merge o.body ≡ false) (operations_of entire)

envelope_is_none : (seed k account : ℕ) → AreNoneOf (envelope_of seed k account)
unfolding envelope_of
envelope_is_none seed k account = All-from_recursion _ (spec.operations_of seed k account) (all_are_none seed k account)

envelopes_are_none : (seed k from n : ℕ) → AllByRecursion AreNoneOf (map (envelope_of seed k) (range_with_len from n))
envelopes_are_none seed k from zero = tt
envelopes_are_none seed k from (suc n) = (envelope_is_none seed k from, envelopes_are_none seed k (from + 1) n)

pub merges_none : (seed k : ℕ) (header : LedgerHeader) → MergesNone (spec.set_of seed k header)
merges_none seed k header =
    All-from_recursion AreNoneOf (map (envelope_of seed k) (range_with_len 0 9)) (envelopes_are_none seed k 0 9)
