-- Which signers count, and which signatures are used, worked out by hand. The contracts of `Checker` name these
-- definitions.
use Rattle.definition_rows.proofs.Prelude.{◌≡◌, refl, ℕ, List, [], ◌∷◌, ◌++◌, replicate, Bool, true, false, ◌&&◌, codes}
use Rattle.definition_rows.proofs.Prelude.{list_all, sha256, first_words, schedule, rounds, compress, hash_after}
use Rattle.definition_rows.proofs.Prelude.{digest_bytes, Hash, AccountEntry}
use Rattle.std.proofs.Common.{map}
use Rattle.ledger_types.specs.declared.signer.Signer.{Signer}
use Rattle.ledger_types.specs.declared.ids.AccountId.{AccountId}
use Rattle.ledger_types.specs.declared.signer.SignerKey.{SignerKey}
use Rattle.ledger_types.specs.declared.signer.SignerKey.TheVariants.{Ed25519, PreAuthTx, HashX, SignedPayload}
use Rattle.op_types.specs.declared.transaction.DecoratedSignature.{DecoratedSignature}
use Rattle.op_types.specs.declared.vouch.Vouch.{Vouch}
use Rattle.op_types.specs.declared.vouch.Vouch.TheVariants as vouching
use Rattle.signer_check.specs.declared.held.HeldSignature.{HeldSignature}
use Rattle.signer_check.specs.Weight.{held, succeeds, after_check, first_match, counted_by_signatures, reaches}
use Rattle.signer_check.specs.Weight.{until_reached, used_at, used_for, extra_succeeds, lone_succeeds}
use Rattle.definition_rows.proofs.Computed.{same_flags}
use Rattle.definition_rows.proofs.Rows.{hex}

abbrev transaction : Hash
transaction = record { 0 = replicate 32 7 }

-- SHA-256 of "one", by another program
abbrev one : Hash
one = record { 0 = hex "7692c3ad3540bb803c020b3aee66cd8887123234ea0c6e7143c0add73ff431ed" }

-- SHA-256 of "two", by another program
abbrev two : Hash
two = record { 0 = hex "3fc4ccfe745870e2c0d99f71f30ff0656c8dedd41cc1d7d3d376b0dbe685e2f3" }

abbrev signed_one : DecoratedSignature
signed_one = record { hint = hex "3ff431ed"; signature = codes "one" }

abbrev signed_two : DecoratedSignature
signed_two = record { hint = hex "e685e2f3"; signature = codes "two" }

-- the bytes of the account's own key, with their hint
abbrev signed_nine : DecoratedSignature
signed_nine = record { hint = replicate 4 9; signature = replicate 32 9 }

-- a preimage with the hint of another one
abbrev misled : DecoratedSignature
misled = record { hint = hex "e685e2f3"; signature = codes "one" }

-- a signer by the preimage of this hash
abbrev hash_x : Hash → (weight : ℕ) → Signer
hash_x digest weight = record { key = HashX digest; weight = weight }

-- an account with these signers, whose own key is 32 bytes of 9
abbrev signed_by : List Signer → AccountEntry → AccountEntry
signed_by signers any = record any {
  account_id = record { 0 = replicate 32 9 };
  thresholds = 1 ∷ 0 ∷ 0 ∷ 0 ∷ [];
  signers = signers;
}

abbrev all_used : List HeldSignature → Bool
all_used signatures = list_all (λ signature. signature.is_used) signatures

-- The only check of a transaction that has these signatures, beside these vouches, succeeds or not, and uses all of
-- them or not.
unfoldable yields_with : AccountEntry → List Vouch → List Signer → List DecoratedSignature → (need : ℕ)
    → (success use_of_all : Bool) → Bool
unfolding first_match counted_by_signatures reaches until_reached used_at used_for sha256 first_words schedule rounds
    compress hash_after digest_bytes hex
yields_with any vouches signers signatures need success use_of_all =
    let account = signed_by signers any in
    let shown = map (held transaction vouches) signatures in
    same_flags (succeeds transaction shown account need) success
    && same_flags (all_used (after_check transaction shown account need)) use_of_all

-- the same without vouches
unfoldable yields : AccountEntry → List Signer → List DecoratedSignature → (need : ℕ) → (success use_of_all : Bool)
    → Bool
unfolding yields_with
yields any signers signatures need success use_of_all = yields_with any [] signers signatures need success use_of_all

signatures_are_used_up_to_the_one_that_reaches_the_need : (any : AccountEntry)
    → (yields any (hash_x one 1 ∷ hash_x two 1 ∷ []) (signed_two ∷ signed_one ∷ []) 2 true true
    && yields any (hash_x one 1 ∷ hash_x two 1 ∷ []) (signed_two ∷ signed_one ∷ []) 1 true false
    && yields any (hash_x one 1 ∷ hash_x two 1 ∷ []) (signed_two ∷ signed_one ∷ []) 3 false true) ≡ true
unfolding yields
signatures_are_used_up_to_the_one_that_reaches_the_need any = refl

-- three checks: of an account with a signer by the second preimage, and twice of one with a signer by the first
a_signature_stays_used_and_can_count_for_several_accounts : (any : AccountEntry)
    → (
    let with_two = signed_by (hash_x two 1 ∷ []) any in
    let with_one = signed_by (hash_x one 1 ∷ []) any in
    let fresh = map (held transaction []) (signed_two ∷ signed_one ∷ []) in
    let first = after_check transaction fresh with_two 1 in
    let second = after_check transaction first with_one 1 in
    let third = after_check transaction second with_one 1 in
    succeeds transaction fresh with_two 1
    && same_flags (all_used first) false
    && succeeds transaction first with_one 1
    && all_used second
    && succeeds transaction second with_one 1
    && all_used third) ≡ true
unfolding yields
a_signature_stays_used_and_can_count_for_several_accounts any = refl

each_signer_counts_once : (any : AccountEntry)
    → (yields any (hash_x one 1 ∷ []) (signed_one ∷ signed_one ∷ []) 2 false false
    && yields any (hash_x one 1 ∷ hash_x one 1 ∷ []) (signed_one ∷ signed_one ∷ []) 2 true true) ≡ true
unfolding yields
each_signer_counts_once any = refl

a_weight_above_255_counts_as_255 : (any : AccountEntry)
    → (yields any (hash_x one 1000 ∷ []) (signed_one ∷ []) 255 true true
    && yields any (hash_x one 1000 ∷ []) (signed_one ∷ []) 256 false true) ≡ true
unfolding yields
a_weight_above_255_counts_as_255 any = refl

a_need_of_0_takes_one_signer : (any : AccountEntry)
    → (yields any (hash_x one 1 ∷ []) [] 0 false true
    && yields any (hash_x one 1 ∷ []) (signed_two ∷ []) 0 false false
    && yields any (hash_x one 1 ∷ []) (signed_one ∷ []) 0 true true) ≡ true
unfolding yields
a_need_of_0_takes_one_signer any = refl

-- a signer by the hash of the transaction
abbrev by_hash : Signer
by_hash = record { key = PreAuthTx transaction; weight = 2 }

a_signer_by_the_hash_counts_before_the_signatures : (any : AccountEntry)
    → (yields any (hash_x one 2 ∷ by_hash ∷ []) (signed_one ∷ []) 2 true false
    && yields any (hash_x one 2 ∷ by_hash ∷ []) (signed_one ∷ []) 4 true true) ≡ true
unfolding yields
a_signer_by_the_hash_counts_before_the_signatures any = refl

without_a_vouch_an_ed25519_key_matches_nothing : (any : AccountEntry)
    → (yields any (record { key = Ed25519 one.0; weight = 1 } ∷ []) (signed_one ∷ []) 1 false false
    && yields any [] (signed_nine ∷ []) 1 false false) ≡ true
unfolding yields
without_a_vouch_an_ed25519_key_matches_nothing any = refl

a_preimage_with_a_wrong_hint_matches_nothing : (any : AccountEntry)
    → yields any (hash_x one 1 ∷ []) (misled ∷ []) 1 false false ≡ true
unfolding yields
a_preimage_with_a_wrong_hint_matches_nothing any = refl

-- ---- vouches

abbrev nine : List ℕ
nine = replicate 32 9

-- the account's own key signed the transaction
abbrev own_vouch : Vouch
own_vouch = vouching.Hash nine transaction nine

-- a signer by this key
abbrev by_key : List ℕ → (weight : ℕ) → Signer
by_key key weight = record { key = Ed25519 key; weight = weight }

abbrev unhinted : DecoratedSignature
unhinted = record { hint = hex "09090908"; signature = nine }

a_vouch_counts_for_its_key_hash_and_signature_alone : (any : AccountEntry)
    → (yields_with any (own_vouch ∷ []) [] (signed_nine ∷ []) 1 true true
    && yields_with any (vouching.Hash one.0 transaction nine ∷ []) [] (signed_nine ∷ []) 1 false false
    && yields_with any (vouching.Hash nine one nine ∷ []) [] (signed_nine ∷ []) 1 false false
    && yields_with any (vouching.Hash nine transaction (replicate 31 9) ∷ []) [] (signed_nine ∷ []) 1 false false
    && yields_with any (vouching.Payload nine transaction.0 nine ∷ []) [] (signed_nine ∷ []) 1 false false
    && yields_with any (own_vouch ∷ []) [] (unhinted ∷ []) 1 false false) ≡ true
unfolding yields_with
a_vouch_counts_for_its_key_hash_and_signature_alone any = refl

unused_and_repeated_vouches_do_nothing : (any : AccountEntry)
    → (yields_with any (own_vouch ∷ own_vouch ∷ []) [] (signed_nine ∷ []) 2 false true
    && yields_with any (vouching.Hash one.0 transaction nine ∷ own_vouch ∷ []) [] (signed_nine ∷ []) 1 true true) ≡ true
unfolding yields_with
unused_and_repeated_vouches_do_nothing any = refl

-- two keys with one hint
abbrev first_key : List ℕ
first_key = replicate 28 1 ++ replicate 4 9

abbrev second_key : List ℕ
second_key = replicate 28 2 ++ replicate 4 9

-- one signature of both keys
abbrev of_both : List Vouch
of_both = vouching.Hash first_key transaction nine ∷ vouching.Hash second_key transaction nine ∷ []

a_signature_counts_one_of_the_keys_that_it_is_vouched_for : (any : AccountEntry)
    → (yields_with any of_both (by_key second_key 1 ∷ by_key first_key 1 ∷ []) (signed_nine ∷ []) 2 false true
    && yields_with any of_both (by_key second_key 1 ∷ by_key first_key 1 ∷ []) (signed_nine ∷ signed_nine ∷ []) 2 true
    true) ≡ true
unfolding yields_with
a_signature_counts_one_of_the_keys_that_it_is_vouched_for any = refl

a_listed_signer_counts_before_the_own_key : (any : AccountEntry)
    → yields_with any (own_vouch ∷ of_both) (by_key first_key 2 ∷ []) (signed_nine ∷ []) 2 true true ≡ true
unfolding yields_with
a_listed_signer_counts_before_the_own_key any = refl

-- the signature "one" is the preimage of a hash, and a signature of the key of the same bytes
abbrev of_one : List Vouch
of_one = vouching.Hash one.0 transaction (codes "one") ∷ []

a_signature_counts_a_signer_of_each_kind : (any : AccountEntry)
    → (yields_with any of_one (by_key one.0 1 ∷ hash_x one 1 ∷ []) (signed_one ∷ []) 2 true true
    && yields_with any of_one (by_key one.0 1 ∷ hash_x one 1 ∷ []) (signed_one ∷ signed_one ∷ []) 3 false false) ≡ true
unfolding yields_with
a_signature_counts_a_signer_of_each_kind any = refl

-- hash-x signers count before keys, so that here the second signature is the one that is used
hash_x_signers_count_before_keys : (any : AccountEntry)
    → (
    let account = signed_by (hash_x one 1 ∷ []) any in
    let shown = map (held transaction (own_vouch ∷ [])) (signed_nine ∷ signed_one ∷ []) in
    map (λ (signature : HeldSignature). signature.is_used) (after_check transaction shown account 1))
    ≡ false ∷ true ∷ []
unfolding yields_with
hash_x_signers_count_before_keys any = refl

a_vouch_counts_no_hash_x_signer : (any : AccountEntry)
    → yields_with any (own_vouch ∷ []) (hash_x (record { 0 = nine }) 1 ∷ []) (signed_nine ∷ []) 2 false true ≡ true
unfolding yields_with
a_vouch_counts_no_hash_x_signer any = refl

-- a signer by a payload that this key signed
abbrev by_payload : List ℕ → Signer
by_payload payload = record { key = SignedPayload nine payload; weight = 1 }

-- Its hint is 09090909 xor the last four bytes of the payload, after which zeros stand in for missing ones.
a_vouched_payload_counts_by_its_own_hint : (any : AccountEntry)
    → (yields_with any (vouching.Payload nine (codes "pay") nine ∷ []) (by_payload (codes "pay") ∷ [])
    (record { hint = hex "79687009"; signature = nine } ∷ []) 1 true true
    && yields_with any (vouching.Payload nine (codes "payload") nine ∷ []) (by_payload (codes "payload") ∷ [])
    (record { hint = hex "6566686d"; signature = nine } ∷ []) 1 true true
    && yields_with any (vouching.Payload nine (codes "pay") nine ∷ []) (by_payload (codes "pay") ∷ [])
    (record { hint = hex "70617900"; signature = nine } ∷ []) 1 false false
    && yields_with any (vouching.Payload nine (codes "pay") nine ∷ []) (by_payload (codes "pay") ∷ [])
    (record { hint = hex "09090909"; signature = nine } ∷ []) 1 false false) ≡ true
unfolding yields_with
a_vouched_payload_counts_by_its_own_hint any = refl

a_vouch_of_another_payload_counts_nothing : (any : AccountEntry)
    → (yields_with any (vouching.Payload nine (codes "paid") nine ∷ []) (by_payload (codes "pay") ∷ [])
    (record { hint = hex "79687009"; signature = nine } ∷ []) 1 false false
    && yields_with any (vouching.Payload one.0 (codes "pay") nine ∷ []) (by_payload (codes "pay") ∷ [])
    (record { hint = hex "79687009"; signature = nine } ∷ []) 1 false false) ≡ true
unfolding yields_with
a_vouch_of_another_payload_counts_nothing any = refl

-- ---- extra signers, and an account that doesn't exist

all_extra_signers_have_to_count : (
    let shown = map (held transaction (own_vouch ∷ [])) (signed_nine ∷ signed_one ∷ []) in
    extra_succeeds transaction shown (Ed25519 nine ∷ HashX one ∷ [])
    && same_flags (extra_succeeds transaction shown (Ed25519 nine ∷ HashX two ∷ [])) false
    && extra_succeeds transaction shown []) ≡ true
unfolding yields_with
all_extra_signers_have_to_count = refl

a_missing_account_needs_a_signature_of_its_key : (
    let id : AccountId = record { 0 = nine } in
    lone_succeeds transaction (map (held transaction (own_vouch ∷ [])) (signed_nine ∷ [])) id
    && same_flags (lone_succeeds transaction (map (held transaction []) (signed_nine ∷ [])) id) false) ≡ true
unfolding yields_with
a_missing_account_needs_a_signature_of_its_key = refl
