-- The next ledger closes from what a close leaves.
use Rattle.close_laws.proofs.Prelude.{◌+◌, sym, ap, subst, LedgerHeader, ledger_header, IsLegal, TransactionLaws}
use Rattle.close_laws.proofs.Prelude.{LegalSettles, SettledLegal, list_hash, SetsConserve, IsEncoded, NextIsClosing}
use Rattle.bucket_levels.specs.Laws.{StepsRepresent}
use Rattle.close_rules.specs.legal_rules.Dated.{AreDated}
use Rattle.close_laws.proofs.DatedSets.{next_dated}
use Rattle.close_laws.proofs.Digests.{hash_encoded}
use Rattle.close_laws.proofs.NextLegal.{next_is_legal}
use Rattle.close_laws.proofs.NextEntries.{entries_stay_encodable}
use Rattle.close_laws.proofs.HeaderEncoded.{next_header_is_encoded}

pub next_is_closing : TransactionLaws → LegalSettles → SettledLegal → SetsConserve → StepsRepresent → NextIsClosing
next_is_closing laws settles legal conserve exist s closing closed can by few =
    let levels = closed.state.levels in
    let entries = closed.state.entries in
    let exists = exist (s.header.ledger_seq + 1) by.fresh s.levels levels s.entries entries can.state.count
    can.state.marked can.state.existing by.recorded.changes by.levels in
    record {
      legal = subst (λ (h : LedgerHeader). IsLegal h entries) (sym by.header)
          (next_is_legal legal conserve s closing entries (list_hash levels) can by.entries);
      dated = subst (λ (h : LedgerHeader). AreDated h entries) (sym by.header)
          (next_dated conserve s closing entries (list_hash levels) can by.entries);
      count = by.levels.count;
      marked = exists.0;
      existing = exists.1;
      hash = sym (ap (λ (h : LedgerHeader). h.bucket_list_hash) by.header);
      header = subst (IsEncoded ledger_header) (sym by.header)
          (next_header_is_encoded conserve laws.held s closing (list_hash levels) can (hash_encoded _));
      entries = entries_stay_encodable laws settles legal conserve s closing entries can by.entries;
      files = few;
    }
