-- The accounts of a sample: what their keys and secrets are made from. Texts are ASCII, numbers in them are decimal.
use Rattle.std.specs.Prelude.{ℕ, pos, ◌==◌, if◌then◌else◌, List, [], ◌∷◌, ◌++◌, take, codes, None}
use Rattle.std.specs.List.{flat_map}
use Rattle.std.specs.Fmt.{decimal}
use Rattle.sha2.specs.Sha256.{sha256}
use Rattle.hash_ids.specs.Ids.{hash_of}
use Rattle.ledger_types.specs.declared.ids.AccountId.{AccountId}
use Rattle.ledger_types.specs.declared.ids.MuxedAccount.{MuxedAccount}
use Rattle.ledger_types.specs.declared.ids.MuxedAccount.TheVariants as muxed
use Rattle.ledger_types.specs.declared.signer.Signer.{Signer}
use Rattle.ledger_types.specs.declared.signer.SignerKey.TheVariants as signer
use Rattle.ledger_types.specs.declared.account.AccountEntry.{AccountEntry}
use Rattle.ledger_types.specs.declared.entry.LedgerEntry.{LedgerEntry}
use Rattle.ledger_types.specs.declared.entry.LedgerEntryBody.TheVariants as body

-- `sample KIND NUMBER ..`
abbrev pub sample_text : (kind : List ℕ) → (numbers : List ℕ) → List ℕ
sample_text kind numbers = codes "sample " ++ kind ++ flat_map (λ number. 32 ∷ decimal number) numbers

-- a key, of which the last byte is the account's number
abbrev pub key_bytes : (seed account : ℕ) → List ℕ
key_bytes seed account = take 31 (sha256 (sample_text (codes "account") (seed ∷ account ∷ []))) ++ account ∷ []

abbrev pub account_id : (seed account : ℕ) → AccountId
account_id seed account = record { 0 = key_bytes seed account }

abbrev pub muxed_account : (seed account : ℕ) → MuxedAccount
muxed_account seed account = muxed.Ed25519 (key_bytes seed account)

-- what signs for the account
abbrev pub secret : (seed account : ℕ) → List ℕ
secret seed account = sample_text (codes "secret") (seed ∷ account ∷ [])

abbrev pub signer_of : (seed account : ℕ) → Signer
signer_of seed account = record { key = signer.HashX (hash_of (secret seed account)); weight = 1 }

-- AUTH_REVOCABLE_FLAG and AUTH_CLAWBACK_ENABLED_FLAG of the account that issues
abbrev pub flags_of : (account : ℕ) → ℕ
flags_of account = if account == 0 then 10 else 0

abbrev pub account_entry : (seed account : ℕ) → AccountEntry
account_entry seed account = record {
  account_id = account_id seed account;
  balance = pos 1000000000000;
  seq_num = pos 0;
  num_sub_entries = 1;
  inflation_dest = None;
  flags = flags_of account;
  home_domain = [];
  thresholds = 0 ∷ 1 ∷ 1 ∷ 1 ∷ [];
  signers = signer_of seed account ∷ [];
  ext = None;
}

abbrev pub ledger_entry : (seed account : ℕ) → LedgerEntry
ledger_entry seed account =
    record { last_modified_ledger_seq = 1; body = body.Account (account_entry seed account); ext = None }
