use Rattle.sample_ledger.proofs.Prelude.{◌≡◌, length, ap, subst, sym, ◌∙◌, LedgerHeader, Hash, ledger_header}
use Rattle.sample_ledger.proofs.Prelude.{length-sha256}
use Rattle.sample_ledger.proofs.Headers.{header_within}
use Rattle.sample_ledger.proofs.first_image.image.Goals as goal

pub header_bytes-requires : goal.header_bytes-requires
header_bytes-requires c =
    let long : length c.in_ok-list_hash.field-0.0 ≡ 32 =
    ap (λ (h : Hash). length h.0) c.in_ok-list_hash.ensures ∙ length-sha256 _ in
    subst (λ (h : LedgerHeader). ledger_header.within h) (sym c.header_with-header.ensures)
    (header_within c.in_ok-list_hash.field-0 long)
