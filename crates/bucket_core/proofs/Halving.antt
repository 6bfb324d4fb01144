-- Offsets of a file, parted at one of them.
use Rattle.std.proofs.Common.{◌≡◌, ℕ, ◌<◌, List, ◌∷◌, ◌++◌, Some, ap, subst, ◌∙◌, arith}
use Rattle.std.proofs.Common.{drop}
use Rattle.std.proofs.Common.{length}
use Rattle.std.specs.declared.cmp.Ordering.TheVariants.{Less, Equal, Greater}
use Rattle.std.proofs.lemmas.List.{length-append}
use Rattle.ledger_types.specs.declared.key.LedgerKey.{LedgerKey}
use Rattle.ledger_types.specs.declared.bucket.BucketEntry.{BucketEntry}
use Rattle.ledger_types.specs.KeyOrder.{key_cmp}
use Rattle.ledger_types.proofs.KeyOrdering.{keys_total}
use Rattle.std.specs.Option.{option_or}
use Rattle.shared_tree.proofs.Parts.{IsParted, parted, find_after, find_top, find_before, above_after, above_top}
use Rattle.shared_tree.proofs.Parts.{above_before}
use Rattle.bucket_core.specs.Stored.{stored_in}
use Rattle.bucket_core.specs.Index.{IsRising, value_at, above, IsItemAt, AreItemsAt, row_at}
use Rattle.bucket_core.proofs.Indexing.{row_more, stand_front, stand_back}

pub record AreHalves (file offsets earlier : List ℕ) (offset : ℕ) (later : List ℕ) : Type 0 where
  pub before : AreItemsAt file earlier
  pub here : IsItemAt file offset
  pub after : AreItemsAt file later
  pub rows : IsParted keys_total (row_at file offsets) (row_at file earlier) (stored_in (drop offset file))
      (row_at file later)
  pub earlier_shorter : length earlier < length offsets
  pub later_shorter : length later < length offsets

pub halves : (file offsets earlier : List ℕ) (offset : ℕ) (later : List ℕ) → offsets ≡ earlier ++ offset ∷ later
    → AreItemsAt file offsets → IsRising (row_at file offsets) → AreHalves file offsets earlier offset later
halves file offsets earlier offset later is exist rises =
    let all = subst (AreItemsAt file) is exist in
    let back = stand_back file earlier (offset ∷ later) all in
    let lengths = ap length is in
    let sum = length-append earlier (offset ∷ later) in
    record {
      before = stand_front file earlier (offset ∷ later) all;
      here = back.0;
      after = back.1;
      rows = parted keys_total (row_at file offsets) (row_at file earlier) (stored_in (drop offset file))
          (row_at file later) (ap (row_at file) is ∙ row_more file earlier (offset ∷ later)) rises;
      earlier_shorter = omega (arith, lengths, sum);
      later_shorter = omega (arith, lengths, sum);
    }

module _ (k : LedgerKey) {file offsets earlier : List ℕ} {offset : ℕ} {later : List ℕ}
    (h : AreHalves file offsets earlier offset later) where
  abbrev x : LedgerKey × BucketEntry
  x = stored_in (drop offset file)

  pub before_it : key_cmp x.0 k ≡ Greater → value_at k (row_at file offsets) ≡ value_at k (row_at file earlier)
  before_it gt = find_before keys_total k h.rows gt

  pub at_it : key_cmp x.0 k ≡ Equal → value_at k (row_at file offsets) ≡ Some x.1
  at_it tied = find_top keys_total k h.rows tied

  pub after_it : key_cmp x.0 k ≡ Less → value_at k (row_at file offsets) ≡ value_at k (row_at file later)
  after_it lt = find_after keys_total k h.rows lt

  pub above_it : key_cmp x.0 k ≡ Less → above k (row_at file offsets) ≡ above k (row_at file later)
  above_it lt = above_after keys_total k h.rows lt

  pub above_same : key_cmp x.0 k ≡ Equal → above k (row_at file offsets) ≡ above k (row_at file later)
  above_same tied = above_top keys_total k h.rows tied

  pub above_or : key_cmp x.0 k ≡ Greater
      → above k (row_at file offsets) ≡ option_or (above k (row_at file earlier)) (Some x)
  above_or gt = above_before keys_total k h.rows gt
