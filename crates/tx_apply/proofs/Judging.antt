-- What the checks of transactions leave.
use Rattle.tx_apply.proofs.Prelude.{◌≡◌, ◌≢◌, ℕ, ℤ, pos, ◌+ℤ◌, ◌≤ℤ◌, Bool, true, false, not, ◌||◌, List, [], ◌∷◌}
use Rattle.tx_apply.proofs.Prelude.{Option, Some, None, refl, sym, ◌∙◌, arith, ints, int_eq, AccountId, Hash}
use Rattle.tx_apply.proofs.Prelude.{AccountEntry, Operation}
use Rattle.tx_apply.proofs.Prelude.{Transaction, TransactionOutcome, EntryMap, account_at, first_fault, greatest_i64}
use Rattle.tx_apply.proofs.Prelude.{Ctx, map_after_removing_preauth, HeldSignature, IsSettled}
use Rattle.tx_apply.proofs.Prelude.{LeavesSettled, SeqNumsSettle, PreauthsSettle, source_of, map_without_preauths}
use Rattle.tx_apply.proofs.Prelude.{map_without_used, int_eq_true}
use Rattle.std.proofs.lemmas.Bool.Decides.{Decides-int_eq}
use Rattle.std.specs.Prelude.{int_le, int_lt, ◌<ℤ◌}
use Rattle.ledger_types.proofs.Arithmetic.{int_lt_false}
use Rattle.sponsor_rules.specs.SeqNums.{new_extension_v3}
use Rattle.tx_apply.specs.Preconditions.{min_seq_num_of}
use Rattle.tx_apply.specs.Checks as checks
use Rattle.tx_apply.proofs.Settling.{leaves_itself, leaves_twice}
use Rattle.ledger_types.proofs.Booleans.{if_some_none}

-- ---- signers that are used up

without_preauths : PreauthsSettle → (id_pool : ℕ) (hash : Hash) (source : AccountId) (operations : List Operation)
    (m : EntryMap) → IsSettled id_pool m → LeavesSettled id_pool m (map_without_preauths hash source operations m) []
unfolding map_without_preauths
without_preauths keep id_pool hash source [] m settled = leaves_itself id_pool m settled
without_preauths keep id_pool hash source (operation ∷ operations) m settled =
    let first = keep id_pool m (source_of source operation) hash settled in
    let between = map_after_removing_preauth (source_of source operation) hash m in
    leaves_twice id_pool id_pool m between (map_without_preauths hash source operations between) [] [] first
    (without_preauths keep id_pool hash source operations between first.settled)

pub without_used : PreauthsSettle → (id_pool : ℕ) (hash : Hash) (source : AccountId) (operations : List Operation)
    (m : EntryMap) → IsSettled id_pool m → LeavesSettled id_pool m (map_without_used hash source operations m) []
without_used keep id_pool hash source operations m settled =
    let first = keep id_pool m source hash settled in
    let between = map_after_removing_preauth source hash m in
    leaves_twice id_pool id_pool m between (map_without_preauths hash source operations between) [] [] first
    (without_preauths keep id_pool hash source operations between first.settled)

-- ---- the sequence number

int_apart : (a b : ℤ) → int_eq a b ≡ false → a ≢ b
int_apart a b h e = let bad : true ≡ false = sym ((Decides-int_eq a b).1 e) ∙ h in cc bad

not_false : (b : Bool) → not b ≡ false → b ≡ true
not_false true e = refl
not_false false e = absurd (cc)

neither : (a b : Bool) → (a || b) ≡ false → (a ≡ false) × (b ≡ false)
neither true b e = absurd (cc)
neither false b e = (refl, e)

next_is_greater : (last n greatest : ℤ) → last ≢ greatest → n ≡ (last +ℤ pos 1)
    → (last <ℤ n) × (last ≤ℤ greatest → n ≤ℤ greatest)
next_is_greater last n greatest apart is = (omega (arith, ints), λ high. omega (arith, ints))

int_le_false : (x y : ℤ) → int_le x y ≡ false → y <ℤ x
int_le_false x y test = grind (arith, ints)

-- a number that may follow the last one is greater, and within int64 where that is
greater : (least : Option ℤ) (last n : ℤ) → last ≢ greatest_i64 → checks.is_bad_seq_after least last n ≡ false
    → (last <ℤ n) × (last ≤ℤ greatest_i64 → n ≤ℤ greatest_i64)
greater None last n apart good =
    next_is_greater last n greatest_i64 apart
    (int_eq_true n (last +ℤ pos 1) (not_false (int_eq n (last +ℤ pos 1)) good))
greater (Some least) last n apart good =
    let parts = neither (int_lt last least || int_le n last) (int_lt greatest_i64 n) good in
    let first = neither (int_lt last least) (int_le n last) parts.0 in
    (int_le_false n last first.1, λ high. int_lt_false greatest_i64 n parts.1)

settled_by_source : SeqNumsSettle → (id_pool : ℕ) (ctx : Ctx) (tx : Transaction) (m : EntryMap)
    (source : Option AccountEntry) → IsSettled id_pool m → account_at m (checks.source_account tx) ≡ source
    → first_fault (checks.source_tests ctx tx source) ≡ None
    → LeavesSettled id_pool m (checks.map_after_seq_num ctx tx m) []
settled_by_source keep id_pool ctx tx m None settled e fault = absurd (cc)
settled_by_source keep id_pool ctx tx m (Some a) settled e fault =
    let starts = checks.is_starting_seq ctx tx.seq_num in
    let last = int_eq a.seq_num greatest_i64 in
    let parts = neither (starts || last) (checks.is_bad_seq_after (min_seq_num_of tx.cond) a.seq_num tx.seq_num)
    (if_some_none _ _ _ fault).0 in
    let apart = int_apart a.seq_num greatest_i64 (neither starts last parts.0).1 in
    let next = greater (min_seq_num_of tx.cond) a.seq_num tx.seq_num apart parts.1 in
    keep id_pool m (checks.source_account tx) a tx.seq_num (new_extension_v3 ctx) settled e next.0 next.1

-- no fault of either
no_fault : (own source : Option TransactionOutcome) → checks.fault_or own source ≡ None → source ≡ None
no_fault None source e = e
no_fault (Some fault) source e = absurd (cc)

-- the map with the sequence number used up, where there is no early fault
pub settled_after_seq_num : SeqNumsSettle → (pays : Bool) (base_fee id_pool : ℕ) (ctx : Ctx) (tx : Transaction)
    (m : EntryMap) → IsSettled id_pool m → checks.early_fault pays base_fee ctx tx m ≡ None
    → LeavesSettled id_pool m (checks.map_after_seq_num ctx tx m) []
settled_after_seq_num keep pays base_fee id_pool ctx tx m settled fault =
    settled_by_source keep id_pool ctx tx m _ settled refl (no_fault _ _ fault)

settled_by_fault : SeqNumsSettle → (pays : Bool) (base_fee id_pool : ℕ) (ctx : Ctx) (hash : Hash)
    (signatures : List HeldSignature) (tx : Transaction) (m : EntryMap) (fault : Option TransactionOutcome)
    → IsSettled id_pool m → checks.early_fault pays base_fee ctx tx m ≡ fault
    → LeavesSettled id_pool m (checks.judged_by pays ctx hash signatures tx m fault).entries []
settled_by_fault keep pays base_fee id_pool ctx hash signatures tx m (Some end) settled e =
    leaves_itself id_pool m settled
settled_by_fault keep pays base_fee id_pool ctx hash signatures tx m None settled e =
    settled_after_seq_num keep pays base_fee id_pool ctx tx m settled e

-- whatever the checks answer
pub settled_judged : SeqNumsSettle → (pays : Bool) (base_fee id_pool : ℕ) (ctx : Ctx) (hash : Hash)
    (signatures : List HeldSignature) (tx : Transaction) (m : EntryMap) → IsSettled id_pool m
    → LeavesSettled id_pool m (checks.judged pays base_fee ctx hash signatures tx m).entries []
settled_judged keep pays base_fee id_pool ctx hash signatures tx m settled =
    settled_by_fault keep pays base_fee id_pool ctx hash signatures tx m _ settled refl
