-- Numbers of ledgers from one close to the next, and offsets of the input that they bound.
use Rattle.reports.proofs.Prelude.{◌≡◌, ℕ, ◌+◌, ◌*◌, ◌^◌, ◌≤◌, List, [], ◌∷◌, Option, Some, None, Ok, refl, ap, ◌∙◌}
use Rattle.reports.proofs.Prelude.{arith, map, ClosingState, PreparedClose, IsClose, filled_header, LedgerHeader}
use Rattle.run_outcome.specs.header_chain.Upgrades.{upgrade_in, upgraded_if, all_upgraded}
use Rattle.ledger_types.specs.declared.header.LedgerUpgrade.{LedgerUpgrade}
use Rattle.ledger_types.specs.declared.header.LedgerUpgrade.TheVariants as upgrade

upgraded_seq : (header : LedgerHeader) (asked : Option LedgerUpgrade)
    → (upgraded_if header asked).ledger_seq ≡ header.ledger_seq
upgraded_seq header None = refl
upgraded_seq header (Some (upgrade.Version n)) = refl
upgraded_seq header (Some (upgrade.BaseFee n)) = refl
upgraded_seq header (Some (upgrade.MaxTxSetSize n)) = refl
upgraded_seq header (Some (upgrade.BaseReserve n)) = refl
upgraded_seq header (Some (upgrade.Flags n)) = refl

all_upgraded_seq : (asked : List (Option LedgerUpgrade)) (header : LedgerHeader)
    → (all_upgraded header asked).ledger_seq ≡ header.ledger_seq
all_upgraded_seq [] header = refl
all_upgraded_seq (one ∷ asked) header =
    all_upgraded_seq asked (upgraded_if header one) ∙ upgraded_seq header one

-- the next ledger's number is one more
pub next_seq : (s : ClosingState) (bytes : List ℕ) (c : PreparedClose) → IsClose s bytes (Ok c)
    → c.state.header.ledger_seq ≡ s.header.ledger_seq + 1
next_seq s bytes c h =
    let closing = h.1.taken.closing in
    ap (λ (x : LedgerHeader). x.ledger_seq) h.1.closes.header
    ∙ all_upgraded_seq (map upgrade_in closing.scp_value.upgrades) (filled_header s closing)

-- no record has 2^64 bytes
pub low_after : (at len next seq up : ℕ) → at ≤ (seq + 1) * 2 ^ 64 → len ≤ 2 ^ 64 → next ≡ at + len → up ≡ seq + 1
    → next ≤ (up + 1) * 2 ^ 64
low_after at len next seq up h k e f = omega arith
