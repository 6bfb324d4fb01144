-- The first accounts are plain: nobody sponsors, and their subentries are their signers.
use Rattle.sample_laws.proofs.Prelude.{◌≡◌, ◌≢◌, ℕ, zero, suc, ◌<◌, ◌≤◌, true, false, [], ◌∷◌, Option, Some, None, pos}
use Rattle.sample_laws.proofs.Prelude.{refl, arith, ◌==◌, ints, All-nil, All-cons, if◌then◌else◌, AllPairs, Less}
use Rattle.sample_laws.proofs.Prelude.{AccountId, signer_key_cmp, IsPlainAccount, account_id, account_entry}
use Rattle.sample_laws.proofs.Prelude.{ledger_entry, signer_of, flags_of}
use Rattle.sample_ledger.specs.ledger_types.declared.signer.Signer.{Signer}
use Rattle.sample_ledger.specs.ledger_types.declared.signer.SignerKey.TheVariants as signer
use Rattle.legal_rules.specs.Dated.{IsAccountDated, IsKeyDated}
use Rattle.legal_rules.specs.valid_values.Texts.{is_valid_text}
use Rattle.legal_rules.specs.Ranges.{AreAccountFlags, AreSignersInRange, IsAccountInRange}

flags_in_range : (account : ℕ) → AreAccountFlags (flags_of account)
flags_in_range account = elim (account == 0) as (λ b. AreAccountFlags (if b then 10 else 0)) [
  | true ↦ record { known = omega arith; clawback = λ set. refl }
  | false ↦ record { known = omega arith; clawback = λ set. absurd (cc set) }
]

alone : (s : Signer) → AllPairs (λ (x y : Signer). signer_key_cmp x.key y.key ≡ Less) (s ∷ [])
alone s i zero d before within = absurd (omega (arith, before))
alone s i (suc j) d before within = absurd (omega (arith, within))

signer_in_range : (seed account : ℕ)
    → AreSignersInRange (account_id seed account) (signer_of seed account ∷ []) (None ∷ [])
signer_in_range seed account =
    let own = signer_of seed account in
    let weight : (1 ≤ own.weight) × (own.weight ≤ 255) = (omega arith, omega arith) in
    let other : own.key ≢ signer.Ed25519 (account_id seed account).0 = λ same. absurd cc in
    let unpaid : None ≢ Some (account_id seed account) = λ same. absurd cc in
    record {
      few = omega arith;
      rising = alone own;
      weights = All-cons (λ (s : Signer). (1 ≤ s.weight) × (s.weight ≤ 255)) own [] weight (All-nil _);
      others = All-cons (λ (s : Signer). s.key ≢ signer.Ed25519 (account_id seed account).0) own [] other (All-nil _);
      items = refl;
      paid_by_others = All-cons (λ (s : Option AccountId). s ≢ Some (account_id seed account)) None [] unpaid
          (All-nil _);
    }

account_in_range : (seed account : ℕ) → IsAccountInRange (account_entry seed account)
unfolding is_valid_text
account_in_range seed account = record {
  range = record {
    balance = omega (arith, ints);
    buying = omega (arith, ints);
    selling = omega (arith, ints);
    fits = omega (arith, ints);
  };
  seq_num = omega (arith, ints);
  greatest_seq_num = omega (arith, ints);
  flags = flags_in_range account;
  home_domain = refl;
  signers = signer_in_range seed account;
}

-- they record nothing of their sequence numbers, and their signers are hash-x
pub dated_account : (seed account version seq close_time : ℕ)
    → IsAccountDated version seq close_time (account_entry seed account)
dated_account seed account version seq close_time = record {
  third = tt;
  signers = All-cons (λ (s : Signer). IsKeyDated version s.key) (signer_of seed account) [] tt (All-nil _);
}

pub plain_account : (seed account : ℕ) → IsPlainAccount (ledger_entry seed account)
plain_account seed account = record {
  account = account_entry seed account;
  is = refl;
  unsponsored = refl;
  unbound = refl;
  subentries = refl;
  few = omega arith;
  range = account_in_range seed account;
}
