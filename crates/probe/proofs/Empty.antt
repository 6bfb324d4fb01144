-- A ledger without entries.
use Rattle.probe.proofs.Prelude.{◌≡◌, ap, sym, ◌∙◌, Bool, [], Some, none-some, from_entries, get-empty, AccountId}
use Rattle.probe.proofs.Prelude.{ClaimableBalanceId, AccountEntry, TrustLineAsset, ClaimableBalanceEntry}
use Rattle.probe.proofs.Prelude.{TrustLineEntry, key_cmp, account_of, account_at, balance_of, balance_at, line_of}
use Rattle.probe.proofs.Prelude.{line_at, IsPlainLedger, IsReadyLedger}
use Rattle.ledger_types.specs.declared.key.LedgerKey.TheVariants as key

nobody : (id : AccountId) (account : AccountEntry) → account_at (from_entries []) id ≡ Some account → ⊥
unfolding account_at
nobody id account is = none-some account (sym (ap account_of (get-empty key_cmp (key.Account id))) ∙ is)

no_line : (id : AccountId) (held : TrustLineAsset) (line : TrustLineEntry)
    → line_at (from_entries []) id held ≡ Some line → ⊥
unfolding line_at
no_line id held line is = none-some line (sym (ap line_of (get-empty key_cmp (key.TrustLine id held))) ∙ is)

no_balance : (id : ClaimableBalanceId) (balance : ClaimableBalanceEntry)
    → balance_at (from_entries []) id ≡ Some balance → ⊥
unfolding balance_at
no_balance id balance is =
    none-some balance (sym (ap balance_of (get-empty key_cmp (key.ClaimableBalance id))) ∙ is)

nothing_is_plain : IsPlainLedger (from_entries [])
nothing_is_plain k e is = absurd (none-some e (sym (get-empty key_cmp k) ∙ is))

pub nothing_is_ready : (are_plain : Bool) → IsReadyLedger are_plain (from_entries [])
nothing_is_ready are_plain = record {
  ready = record { ready = λ id account is. absurd (nobody id account is) };
  in_range = record {
    accounts = record { in_range = λ id account is. absurd (nobody id account is) };
    lines = λ id held line is. absurd (no_line id held line is);
  };
  amounts = record { low = λ id balance is. absurd (no_balance id balance is) };
  plain = λ asked. nothing_is_plain;
}
