-- A record of a sample isn't refused for what it is, where its accounts exist and its number and time come next.
use Rattle.sample_laws.proofs.Prelude.{◌≡◌, ℕ, zero, suc, ◌+◌, ◌*◌, ◌<◌, ◌≤◌, Bool, true, false, cond, List, [], ◌∷◌}
use Rattle.sample_laws.proofs.Prelude.{map, Option, Some, None, refl, ap, ◌∙◌, arith, nat_eq, not, is_some, slice_get}
use Rattle.sample_laws.proofs.Prelude.{option_map, AllByRecursion, range_with_len, TransactionEnvelope, EntryMap}
use Rattle.sample_laws.proofs.Prelude.{HasAccount, ClosingState, record_fault, term_fault, upgrade_fault, set_fault}
use Rattle.sample_laws.proofs.Prelude.{account_id, envelope_of, record_of}
use Rattle.sample_ledger.specs.fee_rules.SetHash.{hash_of_set}
use Rattle.std.proofs.Common.{if◌then◌else◌, nat_le}
use Rattle.std.proofs.lemmas.Bool.Decides.{nat_tests}
use Rattle.std.proofs.lemmas.Slice.Eq.{bytes_eq-Decides}
use Rattle.std.specs.List.{find}
use Rattle.std.specs.Option.{option_or}
use Rattle.std.specs.Str.{bytes_eq}
use Rattle.account_laws.specs.tx_apply.Set.{lacks_fee_source, missing_among}
use Rattle.sample_ledger.specs.value_hashes.Hashes.{ledger_hash_of}
use Rattle.sample_ledger.specs.fee_rules.Turns.{apply_order_of}
use Rattle.sample_ledger.specs.close_rules.declared.close_fault.CloseFault.TheVariants as fault

-- where a sample is after its first k records
pub record IsNext (seed k : ℕ) (s : ClosingState) : Type 0 where
  pub seq : s.header.ledger_seq ≡ k + 1
  pub time : s.header.scp_value.close_time ≡ 1000 + 5 * k
  pub accounts : (account : ℕ) → account < 9 → HasAccount s.entries (account_id seed account)

-- ---- its terms

if_some_none_from : {F : Type 0} (b : Bool) (wrong : F) (rest : Option F) → b ≡ false → rest ≡ None
    → (if b then Some wrong else rest) ≡ None
if_some_none_from true wrong rest fails passed = absurd cc
if_some_none_from false wrong rest fails passed = passed

same_bytes : (bytes : List ℕ) → bytes_eq bytes bytes ≡ true
same_bytes bytes = (bytes_eq-Decides bytes bytes).1 refl

terms_pass : (seed k : ℕ) (s : ClosingState) → k < 20000 → IsNext seed k s
    → term_fault s (record_of seed (suc k) s.header) ≡ None
unfolding term_fault
terms_pass seed k s few next =
    let number : nat_eq s.header.ledger_seq 2147483647 ≡ false = grind (arith, nat_tests, next.seq) in
    let follows : nat_eq (suc k + 1) (s.header.ledger_seq + 1) ≡ true = grind (arith, nat_tests, next.seq) in
    let later : nat_le (1000 + 5 * suc k) s.header.scp_value.close_time ≡ false =
    grind (arith, nat_tests, next.time) in
    let closing = record_of seed (suc k) s.header in
    let previous = closing.tx_set.previous_ledger_hash in
    let digest = closing.scp_value.tx_set_hash in
    if_some_none_from _ fault.SeqEnd _ number
    (if_some_none_from _ (fault.WrongSeq (s.header.ledger_seq + 1) closing.ledger_seq) _ (ap not follows)
    (if_some_none_from _ (fault.WrongPrevious (ledger_hash_of s.header) previous) _ (ap not (same_bytes previous.0))
    (if_some_none_from _ (fault.WrongSetHash (hash_of_set closing.tx_set) digest) _ (ap not (same_bytes digest.0))
    (if_some_none_from _
    (fault.StaleTime s.header.scp_value.close_time closing.scp_value.close_time) None later refl))))

-- ---- its set

none_found : (p : ℕ → Bool) (xs : List ℕ) → ((x : ℕ) → p x ≡ false) → find p xs ≡ None
none_found p [] all = refl
none_found p (x ∷ xs) all = ap (λ b. cond b (Some x) (find p xs)) (all x) ∙ none_found p xs all

at_each_index : (m : EntryMap) (txs : List TransactionEnvelope)
    → AllByRecursion (λ entire. lacks_fee_source m (Some entire) ≡ false) txs → (index : ℕ)
    → lacks_fee_source m (slice_get txs index) ≡ false
at_each_index m [] all index = refl
at_each_index m (entire ∷ others) all zero = all.0
at_each_index m (entire ∷ others) all (suc index) = at_each_index m others all.1 index

has_source : (seed k account : ℕ) (m : EntryMap) → HasAccount m (account_id seed account)
    → lacks_fee_source m (Some (envelope_of seed k account)) ≡ false
unfolding envelope_of
has_source seed k account m there = ap (λ o. not (is_some o)) there.1

have_sources : (seed k from n : ℕ) (m : EntryMap)
    → ((account : ℕ) → account < from + n → HasAccount m (account_id seed account))
    → AllByRecursion (λ entire. lacks_fee_source m (Some entire) ≡ false)
    (map (envelope_of seed k) (range_with_len from n))
have_sources seed k from zero m there = tt
have_sources seed k from (suc n) m there = (
  has_source seed k from m (there from (omega arith)),
  have_sources seed k (from + 1) n m (λ account below. there account (omega (arith, below))),
)

set_passes : (seed k : ℕ) (s : ClosingState) → IsNext seed k s
    → set_fault s (record_of seed (suc k) s.header) ≡ None
unfolding set_fault missing_among
set_passes seed k s next =
    let txs = map (envelope_of seed (suc k)) (range_with_len 0 9) in
    ap (option_map fault.FeeSourceMissing)
    (none_found (λ index. lacks_fee_source s.entries (slice_get txs index))
    (apply_order_of (record_of seed (suc k) s.header).tx_set)
    (at_each_index s.entries txs (have_sources seed (suc k) 0 9 s.entries next.accounts)))

-- ---- all of it

upgrades_pass : (seed k : ℕ) (s : ClosingState) → upgrade_fault s (record_of seed (suc k) s.header) ≡ None
unfolding upgrade_fault
upgrades_pass seed k s = refl

pub unrefused : (seed k : ℕ) (s : ClosingState) → k < 20000 → IsNext seed k s
    → record_fault s (record_of seed (suc k) s.header) ≡ None
unfolding record_fault
unrefused seed k s few next =
    let closing = record_of seed (suc k) s.header in
    ap (λ first. option_or first (option_or (upgrade_fault s closing) (set_fault s closing)))
    (terms_pass seed k s few next)
    ∙ ap (λ first. option_or first (set_fault s closing)) (upgrades_pass seed k s) ∙ set_passes seed k s next
