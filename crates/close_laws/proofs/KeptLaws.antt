-- A record that closes a ledger keeps the laws, and so do bytes that close one.
use Rattle.close_laws.proofs.Prelude.{◌≡◌, ℕ, ◌≤◌, arith, sym, subst, LedgerHeader, IsLegal, TransactionLaws}
use Rattle.close_laws.proofs.Prelude.{LegalSettles, SettledLegal, list_hash, SetsConserve, setting_in, TakenIsClosable}
use Rattle.close_laws.proofs.Prelude.{NextIsClosing}
use Rattle.close_rules.specs.tx_apply.EachTransaction.{EachConserves}
use Rattle.close_rules.specs.tx_apply.KeptReserves.{OperationsKeepReserves}
use Rattle.close_laws.specs.ClosedRecords.{ClosesAreLawful, RecordsKeepLaws}
use Rattle.close_laws.proofs.ConservedCloses.{close_conserved}
use Rattle.close_laws.proofs.EachLegal.{each_legal}
use Rattle.close_laws.proofs.NextLegal.{can_close, next_is_legal}

pub records_keep_laws : TransactionLaws → LegalSettles → SettledLegal → SetsConserve → EachConserves
    → OperationsKeepReserves → RecordsKeepLaws
records_keep_laws laws settles legal conserve each reserves s closing closed can by = record {
  conserved = close_conserved conserve s closing closed can by each;
  reserves = reserves (setting_in s closing) closing.tx_set s.entries (can_close s closing can);
  each_legal = each_legal laws settles legal each s closing can;
  legal = subst (λ (h : LedgerHeader). IsLegal h closed.state.entries) (sym by.header)
      (next_is_legal legal conserve s closing closed.state.entries (list_hash closed.state.levels) can by.entries);
}

pub closes_are_lawful : RecordsKeepLaws → TakenIsClosable → NextIsClosing → ClosesAreLawful
closes_are_lawful keep taken next s bytes closed state few close =
    let by = close.1 in
    let can = taken s bytes by.taken state few in
    record {
      closing = by.taken.closing;
      reads = by.taken.reads;
      laws = keep s by.taken.closing closed can by.closes;
      state = next s by.taken.closing closed can by.closes (within by.files close.2);
    }
  where
    within : {a b c : ℕ} → a ≡ b → a ≤ c → b ≤ c
    within same le = omega arith
