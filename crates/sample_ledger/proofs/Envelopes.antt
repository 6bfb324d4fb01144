-- Each transaction of a record is short, and so is the record.
use Rattle.sample_ledger.proofs.Prelude as prelude
use prelude.{ℕ, zero, suc, ◌+◌, ◌*◌, ◌<◌, ◌≤◌, ◌^◌, List, [], ◌∷◌, length, map, pos, arith, ◌==◌, ◌&&◌, ◌||◌, nat_le}
use prelude.{◌%◌, ◌/◌, codes, range_with_len, sha256, var, list_of, LedgerHeader, Operation, OperationBody}
use prelude.{muxed_account, operation, operation_fields, decorated_signature, signature_fields, memo}
use prelude.{memo_part, memo_arms, memo_none, transaction_tail, preconditions, preconditions_part, preconditions_arms}
use prelude.{no_conditions, transaction, transaction_fields}
use prelude.{transaction_v1_envelope, v1_fields, transaction_envelope, envelope_part, envelope_arms, envelope_v1}
use prelude.{transaction_set, set_fields, stellar_value, value_fields, ledger_close_value_signature, close_record}
use prelude.{record_fields, hash_of_set, u32, secret, account_count, issuer_turn, drawn_turn, issuer_operations}
use prelude.{other_operation, operations_of, signers_of, envelope_of, is_claim, if_either}
use Rattle.std.proofs.Common.{Bool, None, Option, false, subst, sym}
use Rattle.std.specs.Prelude.{drop}
use Rattle.op_types.specs.declared.vouch.Vouch.{Vouch}
use Rattle.xdr_core.specs.Dependent.{choice, known}
use Rattle.xdr_header.specs.Records.{HasForm, head_fields, number_after, record_head, record_rest, unequal}
use Rattle.op_types.specs.declared.preconditions.Preconditions.TheVariants as conditions
use Rattle.op_types.specs.declared.transaction.Memo.TheVariants as memos
use Rattle.sample_ledger.specs.Records as spec
use Rattle.sample_ledger.proofs.Lengths.{hint_len, secret_len}
use Rattle.sample_ledger.proofs.Few.{few_operations}
use Rattle.sample_ledger.proofs.Bytes.{bytes_listed, hint_fits, secret_fits}
use Rattle.sample_ledger.proofs.Parts.{muxed_short, hash_short, usd_short, native_short, amount_short}
use Rattle.sample_ledger.proofs.Bodies as bodies
use Rattle.sample_ledger.proofs.Bodies.{IsShortBody}
use Rattle.sample_ledger.proofs.Short as short
use Rattle.sample_ledger.proofs.Short.{IsShort, AreShort}

-- ---- operations

abbrev IsShortOperation : Operation → Type 0
IsShortOperation o = IsShort operation 243 o

abbrev AreShortOperations : List Operation → Type 0
AreShortOperations os = AreShort operation 243 os

own_short : (body : OperationBody) → IsShortBody body → IsShortOperation (spec.own body)
unfolding operation
own_short body done =
    short.longer 243 (short.short_struct operation_fields (short.short_both (short.short_none muxed_account) done))
    (omega arith)

by_short : (seed account : ℕ) (body : OperationBody) → account < account_count → IsShortBody body
    → IsShortOperation (spec.by seed account body)
unfolding operation
by_short seed account body below done =
    short.short_struct operation_fields (short.short_both (short.short_some (muxed_short seed account below)) done)

turn_short : (seed k : ℕ) → IsShortOperation (issuer_turn seed k)
unfolding issuer_turn
turn_short seed k =
    if_either IsShortOperation (k % 10 == 0) _ _
    (own_short _ (bodies.claw_back_short seed (1 + k / 10 % 8) (omega arith)))
    (if_either IsShortOperation (k % 10 == 5) _ _ (own_short _ (bodies.claimable_short seed))
    (if_either IsShortOperation (is_claim k) _ _ (by_short seed 7 _ (omega arith) (bodies.claim_short seed k))
    (own_short _ (bodies.payment_short seed (1 + k % 8) (spec.usd seed) 1000 (omega arith) (omega arith)
    (usd_short seed)))))

drawn_short : (seed v : ℕ) → IsShortBody (drawn_turn seed v)
unfolding drawn_turn
drawn_short seed v =
    let amount = 1 + v / 8 % 1000 in
    let fits : amount < 2 ^ 63 = omega arith in
    let many : 1000 * amount < 2 ^ 63 = omega arith in
    let other = 1 + v / 8192 % 8 in
    let below : other < 9 = omega arith in
    let few : 900 + v / 65536 % 200 < 2 ^ 31 = omega arith in
    let usd = usd_short seed in
    if_either IsShortBody (v % 5 == 0) _ _ (bodies.payment_short seed other _ (1000 * amount) below many native_short)
    (if_either IsShortBody (v % 5 == 1) _ _ (bodies.payment_short seed other _ amount below fits usd)
    (if_either IsShortBody (v % 5 == 2) _ _ (bodies.sell_short _ _ amount _ fits few usd native_short)
    (if_either IsShortBody (v % 5 == 3) _ _ (bodies.sell_short _ _ amount _ fits few native_short usd)
    (bodies.send_path_short seed other amount below fits))))

gift_short : (seed : ℕ) → AreShortOperations (spec.gift seed)
gift_short seed =
    let name = codes "gift" in
    let given = bodies.data_short name (1 ∷ []) (omega arith) (bytes_listed name (omega arith)) (omega arith)
    (bytes_listed (1 ∷ []) (omega arith)) in (
      own_short _ (bodies.begin_short seed 8 (omega arith)),
      (by_short seed 8 _ (omega arith) given, (by_short seed 8 _ (omega arith) bodies.end_short, tt)),
    )

payments_short : (seed from n : ℕ) → from + n ≤ account_count
    → AreShortOperations
    (map (λ to. spec.own (spec.payment seed to (spec.usd seed) 1000000000)) (range_with_len from n))
payments_short seed from zero below = tt
payments_short seed from (suc n) below = (
  own_short _ (bodies.payment_short seed from (spec.usd seed) 1000000000 (omega arith) (omega arith) (usd_short seed)),
  payments_short seed (from + 1) n (omega arith),
)

issued_short : (seed k : ℕ) → AreShortOperations (issuer_operations seed k)
unfolding issuer_operations
issued_short seed k =
    if_either AreShortOperations (k == 1) _ _ (own_short _ bodies.domain_short, tt)
    (if_either AreShortOperations (k == 2) _ _ (payments_short seed 1 8 (omega arith))
    (if_either AreShortOperations ((k == 3) || (k == 4)) _ _ (own_short _ (bodies.note_short k), tt)
    (if_either AreShortOperations (k == 5) _ _ (gift_short seed) (turn_short seed k, tt))))

other_short : (seed k account : ℕ) → IsShortBody (other_operation seed k account)
unfolding other_operation
other_short seed k account =
    if_either IsShortBody (k == 1) _ _ (bodies.trust_usd_short seed)
    (if_either IsShortBody (k == 3) _ _ (bodies.trust_pool_short seed)
    (if_either IsShortBody ((k == 4) && (account == 1)) _ _ (bodies.deposit_short seed)
    (if_either IsShortBody (nat_le k 5) _ _ (bodies.note_short k) (drawn_short seed _))))

done_short : (seed k account : ℕ) → AreShortOperations (operations_of seed k account)
unfolding operations_of
done_short seed k account =
    if_either AreShortOperations (account == 0) _ _ (issued_short seed k)
    (own_short _ (other_short seed k account), tt)

-- ---- signatures

abbrev AreSigned : ℕ → List ℕ → Type 0
AreSigned seed signers = IsShort (list_of 20 decorated_signature) 160 (map (spec.signature seed) signers)

signature_short : (seed account : ℕ) → seed < 2 ^ 32 → account < account_count
    → IsShort decorated_signature 78 (spec.signature seed account)
unfolding decorated_signature
signature_short seed account fits below =
    let text = secret seed account in
    short.short_struct signature_fields (short.short_both
    (short.short_fixed 4 (drop 28 (sha256 text)) (hint_len text) (hint_fits text))
    (short.short_var 64 64 text (secret_len seed account fits below) (omega arith)
    (secret_fits seed account fits below)))

signed_once : (seed account : ℕ) → seed < 2 ^ 32 → account < account_count → AreSigned seed (account ∷ [])
signed_once seed account fits below =
    short.short_list 20 2 decorated_signature 78 _ (omega arith) (omega arith)
    (signature_short seed account fits below, tt)

signed_twice : (seed a b : ℕ) → seed < 2 ^ 32 → a < account_count → b < account_count → AreSigned seed (a ∷ b ∷ [])
signed_twice seed a b fits below also =
    short.short_list 20 2 decorated_signature 78 _ (omega arith) (omega arith)
    (signature_short seed a fits below, (signature_short seed b fits also, tt))

signers_short : (seed k account : ℕ) → seed < 2 ^ 32 → account < account_count → AreSigned seed (signers_of k account)
unfolding signers_of
signers_short seed k account fits below =
    if_either (AreSigned seed) (account == 0) _ _
    (if_either (AreSigned seed) (k == 5) _ _ (signed_twice seed 0 8 fits (omega arith) (omega arith))
    (if_either (AreSigned seed) (is_claim k) _ _ (signed_twice seed 0 7 fits (omega arith) (omega arith))
    (signed_once seed 0 fits (omega arith))))
    (signed_once seed account fits below)

-- ---- envelopes

memo_short : IsShort memo 4 memos.None
unfolding memo
memo_short = short.short_union memo_part memo_arms (short.short_arm memo_none short.short_empty)

no_conditions_short : IsShort preconditions 4 conditions.None
unfolding preconditions
no_conditions_short =
    short.short_union preconditions_part preconditions_arms (short.short_arm no_conditions short.short_empty)

transaction_short : (seed k account : ℕ) → k ≤ 20000 → account < account_count
    → IsShort transaction 2011 (spec.transaction_of seed k account)
unfolding transaction transaction_tail
transaction_short seed k account few below =
    let done = operations_of seed k account in
    short.short_struct transaction_fields (short.short_both (muxed_short seed account below)
    (short.short_both (short.short_u32 (100 * length done) (omega (arith, few_operations seed k account)))
    (short.short_both (amount_short k (omega arith))
    (short.short_both no_conditions_short (short.short_both memo_short
    (short.short_closed (pos 0)
    (short.short_list 100 8 operation 243 done (few_operations seed k account) (omega arith)
    (done_short seed k account))))))))

envelope_short : (seed k account : ℕ) → seed < 2 ^ 32 → k ≤ 20000 → account < account_count
    → IsShort transaction_envelope 2175 (envelope_of seed k account)
unfolding transaction_envelope transaction_v1_envelope envelope_of
envelope_short seed k account fits few below =
    short.short_union envelope_part envelope_arms (short.short_arm envelope_v1 (short.short_struct v1_fields
    (short.short_both (short.short_entire (transaction_short seed k account few below))
    (signers_short seed k account fits below))))

envelopes_short : (seed k from n : ℕ) → seed < 2 ^ 32 → k ≤ 20000 → from + n ≤ account_count
    → AreShort transaction_envelope 2175 (map (envelope_of seed k) (range_with_len from n))
envelopes_short seed k from zero fits few below = tt
envelopes_short seed k from (suc n) fits few below =
    (envelope_short seed k from fits few (omega arith), envelopes_short seed k (from + 1) n fits few (omega arith))

-- ---- sets and records

pub set_short : (seed k : ℕ) (header : LedgerHeader) → seed < 2 ^ 32 → k ≤ 20000
    → IsShort transaction_set 19614 (spec.set_of seed k header)
unfolding transaction_set
set_short seed k header fits few =
    short.short_struct set_fields (short.short_both (hash_short _)
    (short.short_list 4294967295 9 transaction_envelope 2175 _ (omega arith) (omega arith)
    (envelopes_short seed k 0 9 fits few (omega arith))))

-- a number of a sample's ledger isn't the first word of form 2
form_of : (k : ℕ) → k ≤ 20000 → HasForm (k + 1) false
form_of k few is = omega arith

head_short : (k : ℕ) → k ≤ 20000 → IsShort record_head 4 (k + 1, false)
head_short k few =
    let number : IsShort (number_after (k + 1)) 0 (k + 1) =
    subst (λ (b : Bool). IsShort (choice b u32 (known (k + 1))) 0 (k + 1)) (sym (unequal (k + 1) (form_of k few)))
    (short.short_known (k + 1)) in
    short.short_partial head_fields {n = 4} {v = (k + 1, false)} (form_of k few)
    (short.short_dependent {f = u32} number_after (short.short_u32 (k + 1) (omega arith)) number)

pub record_short : (seed k : ℕ) (header : LedgerHeader) → seed < 2 ^ 32 → k ≤ 20000
    → IsShort close_record 19669 (spec.record_of seed k header)
unfolding close_record stellar_value hash_of_set
record_short seed k header fits few =
    short.short_partial record_fields {n = 19669} {v = spec.record_of seed k header} tt
    (short.short_dependent {f = record_head} record_rest (head_short k few)
    (short.short_both (short.short_entire (set_short seed k header fits few))
    (short.short_both (short.short_entire (short.short_struct value_fields (short.short_both (hash_short _)
    (short.short_both (short.short_u64 (1000 + 5 * k) (omega arith))
    (short.short_both (short.short_list 6 0 (var 128) 0 [] (omega arith) (omega arith) tt)
    (short.no_extension (pos 1) ledger_close_value_signature))))))
    (short.short_known {V = Option (List Vouch)} None))))
