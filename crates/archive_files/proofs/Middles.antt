-- The middle of an encoding: what is encoded between a value of known length and a word.
use Rattle.archive_files.proofs.Prelude.{Hash, List, ap, append_assoc, arith, drop, hash_of, ledger_hash_of, length}
use Rattle.archive_files.proofs.Prelude.{length-append, refl, results_hash_of, sym, take, wide4, ℕ, ◌++◌, ◌+◌, ◌∙◌}
use Rattle.archive_files.proofs.Prelude.{◌≡◌, ◌≤◌}
use Rattle.std.proofs.Common.{pos, replicate, ◌-◌}
use Rattle.std.proofs.lemmas.List.{drop_at, length-replicate, take_at}
use Rattle.xdr_core.specs.Combinators.{constant}
use Rattle.xdr_core.specs.Leaves.{fixed, i32, padding_len, u32}
use Rattle.xdr_core.specs.Xdr.{tag}
use Rattle.xdr_entries.specs.Basic.{hash}
use Rattle.xdr_header.specs.Header.{ledger_header}
use Rattle.xdr_results.specs.Results.{transaction_result_set}
use Rattle.archive_files.specs.Entries.{ledger_header_history_entry, transaction_history_result_entry}
use Rattle.archive_files.specs.Middle.{middle}
use Rattle.archive_files.specs.declared.entries.LedgerHeaderHistoryEntry.{LedgerHeaderHistoryEntry}
use Rattle.archive_files.specs.declared.entries.TransactionHistoryResultEntry.{TransactionHistoryResultEntry}

-- the parts of a text with a middle
pub record HasMiddle (start : ℕ) (text mid : List ℕ) : Type 0 where
  pub first : List ℕ
  pub last : List ℕ
  pub parts : text ≡ first ++ (mid ++ last)
  pub first_len : length first ≡ start
  pub last_len : length last ≡ 4

pub long_enough : (start : ℕ) (text mid : List ℕ) → HasMiddle start text mid → start + 4 ≤ length text
long_enough start text mid h =
    let all = ap length h.parts ∙ length-append h.first (mid ++ h.last) in
    omega (arith, all, length-append mid h.last, h.first_len, h.last_len)

pub middle_is : (start : ℕ) (text mid : List ℕ) → HasMiddle start text mid → middle start text ≡ mid
middle_is start text mid h =
    let all : text ≡ (h.first ++ mid) ++ h.last = h.parts ∙ sym (append_assoc h.first mid h.last) in
    let len : length (h.first ++ mid) ≡ length text - 4 =
    omega (arith, ap length all, length-append (h.first ++ mid) h.last, h.last_len) in
    ap (λ (l : List ℕ). drop start (take (length text - 4) l)) all
    ∙ ap (λ (l : List ℕ). drop start l) (take_at (h.first ++ mid) h.last (length text - 4) len)
    ∙ drop_at h.first mid start h.first_len

tag_len : length ((tag (pos 0)).encoding tt) ≡ 4
unfolding constant i32
tag_len = refl

hash_len : (h : Hash) → hash.within h → length (hash.encoding h) ≡ 32
unfolding hash fixed
hash_len h within =
    let len : length h.0 ≡ 32 = within in
    let none : padding_len (length h.0) ≡ 0 = ap padding_len len in
    length-append h.0 (replicate (padding_len (length h.0)) 0)
    ∙ ap (λ (n : ℕ). length h.0 + n) (length-replicate (padding_len (length h.0)) 0 ∙ none) ∙ omega (arith, len)

word_len : (n : ℕ) → length (u32.encoding n) ≡ 4
unfolding u32
word_len n = wide4.len n

pub header_middle : (e : LedgerHeaderHistoryEntry) → ledger_header_history_entry.within e
    → HasMiddle 32 (ledger_header_history_entry.encoding e) (ledger_header.encoding e.header)
unfolding ledger_header_history_entry
header_middle e within = record {
  first = hash.encoding e.hash;
  last = (tag (pos 0)).encoding tt;
  parts = refl;
  first_len = hash_len e.hash within.0;
  last_len = tag_len;
}

pub results_middle : (e : TransactionHistoryResultEntry)
    → HasMiddle 4 (transaction_history_result_entry.encoding e) (transaction_result_set.encoding e.tx_result_set)
unfolding transaction_history_result_entry
results_middle e = record {
  first = u32.encoding e.ledger_seq;
  last = (tag (pos 0)).encoding tt;
  parts = refl;
  first_len = word_len e.ledger_seq;
  last_len = tag_len;
}

pub header_long : (e : LedgerHeaderHistoryEntry) (text : List ℕ) → ledger_header_history_entry.within e
    → text ≡ ledger_header_history_entry.encoding e → 32 + 4 ≤ length text
header_long e text within is =
    omega (arith, ap length is, long_enough 32 _ _ (header_middle e within))

pub header_hash : (e : LedgerHeaderHistoryEntry) (text mid : List ℕ) → ledger_header_history_entry.within e
    → text ≡ ledger_header_history_entry.encoding e → mid ≡ middle 32 text → hash_of mid ≡ ledger_hash_of e.header
header_hash e text mid within is cut =
    ap hash_of (cut ∙ ap (middle 32) is ∙ middle_is 32 _ _ (header_middle e within))

pub results_long : (e : TransactionHistoryResultEntry) (text : List ℕ)
    → text ≡ transaction_history_result_entry.encoding e → 4 + 4 ≤ length text
results_long e text is = omega (arith, ap length is, long_enough 4 _ _ (results_middle e))

pub results_hash : (e : TransactionHistoryResultEntry) (text mid : List ℕ)
    → text ≡ transaction_history_result_entry.encoding e → mid ≡ middle 4 text
    → hash_of mid ≡ results_hash_of e.tx_result_set
results_hash e text mid is cut = ap hash_of (cut ∙ ap (middle 4) is ∙ middle_is 4 _ _ (results_middle e))
