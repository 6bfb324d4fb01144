-- How many items exist before one.
use Rattle.std.proofs.Common.{◌≡◌, ℕ, ◌+◌, List, [], ◌∷◌, ◌++◌, Option, Some, None, refl, sym, ap, ◌∙◌, arith}
use Rattle.std.proofs.Common.{drop}
use Rattle.std.proofs.Common.{length, option_map, cond, suc}
use Rattle.std.specs.declared.cmp.Ordering.{Ordering}
use Rattle.std.specs.declared.cmp.Ordering.TheVariants.{Less, Equal, Greater}
use Rattle.std.specs.Cmp.{tied_back}
use Rattle.std.specs.Ordering.{eq_by_cmp, is_eq}
use Rattle.ledger_types.specs.declared.key.LedgerKey.{LedgerKey}
use Rattle.ledger_types.specs.declared.bucket.BucketEntry.{BucketEntry}
use Rattle.ledger_types.specs.KeyOrder.{key_cmp}
use Rattle.ledger_types.proofs.KeyOrdering.{keys_total}
use Rattle.shared_tree.proofs.Parts.{Below, Above, below_more, below_same, greater, turned, first, second, less}
use Rattle.bucket_core.specs.Stored.{stored_in}
use Rattle.bucket_core.specs.Index.{Row, index_of, row_at}
use Rattle.bucket_core.proofs.Halving.{AreHalves}

abbrev pub shift : ℕ → Option ℕ → Option ℕ
shift n None = None
shift n (Some i) = Some (n + i)

shift_zero : (o : Option ℕ) → shift 0 o ≡ o
shift_zero None = refl
shift_zero (Some i) = ap Some (omega arith)

shift_one : (n : ℕ) (o : Option ℕ) → option_map suc (shift n o) ≡ shift (suc n) o
shift_one n None = refl
shift_one n (Some i) = ap Some (omega arith)

abbrev here : LedgerKey → Row → Ordering → Option ℕ
here k others o = cond (is_eq o) (Some 0) (option_map suc (index_of k others))

index_past : (k : LedgerKey) (xs zs : Row) → Below keys_total xs k
    → index_of k (xs ++ zs) ≡ shift (length xs) (index_of k zs)
index_past k [] zs b = sym (shift_zero (index_of k zs))
index_past k (x ∷ xs) zs b =
    ap (here k (xs ++ zs)) (greater keys_total x.0 k b.0)
    ∙ ap (λ (o : Option ℕ). option_map suc o) (index_past k xs zs b.1)
    ∙ shift_one (length xs) (index_of k zs)

no_index : (k m : LedgerKey) (zs : Row) → key_cmp k m ≡ Less → Above keys_total m zs → index_of k zs ≡ None
no_index k m [] lt h = refl
no_index k m (z ∷ zs) lt h =
    ap (here k zs) (keys_total.trans k m z.0 lt (less (key_cmp m z.0) (first _ _ h)))
    ∙ ap (λ (o : Option ℕ). option_map suc o) (no_index k m zs lt (second _ _ h))

index_prefix : (k : LedgerKey) (xs zs : Row) → index_of k zs ≡ None → index_of k (xs ++ zs) ≡ index_of k xs
index_prefix k [] zs none = none
index_prefix k (x ∷ xs) zs none =
    ap (λ (o : Option ℕ). cond (eq_by_cmp key_cmp k x.0) (Some 0) (option_map suc o)) (index_prefix k xs zs none)

pub row_len : (file offsets : List ℕ) → length (row_at file offsets) ≡ length offsets
row_len file [] = refl
row_len file (p ∷ ps) = ap suc (row_len file ps)

module _ (k : LedgerKey) {file offsets earlier : List ℕ} {offset : ℕ} {later : List ℕ}
    (h : AreHalves file offsets earlier offset later) where
  abbrev x : LedgerKey × BucketEntry
  x = stored_in (drop offset file)

  pub index_after : key_cmp x.0 k ≡ Less
      → index_of k (row_at file offsets) ≡ shift (length earlier + 1) (index_of k (row_at file later))
  index_after lt =
      ap (index_of k) h.rows.is
      ∙ index_past k (row_at file earlier) (x ∷ row_at file later)
      (below_more keys_total (row_at file earlier) x.0 k lt h.rows.below)
      ∙ ap (shift (length (row_at file earlier))) (ap (here k (row_at file later)) (greater keys_total x.0 k lt))
      ∙ ap (λ n. shift n (option_map suc (index_of k (row_at file later)))) (row_len file earlier)
      ∙ both_shifts (length earlier) (index_of k (row_at file later))
    where
      both_shifts : (n : ℕ) (o : Option ℕ) → shift n (option_map suc o) ≡ shift (n + 1) o
      both_shifts n None = refl
      both_shifts n (Some i) = ap Some (omega arith)

  pub index_here : key_cmp x.0 k ≡ Equal → index_of k (row_at file offsets) ≡ Some (length earlier)
  index_here tied =
      ap (index_of k) h.rows.is
      ∙ index_past k (row_at file earlier) (x ∷ row_at file later)
      (below_same keys_total (row_at file earlier) x.0 k tied h.rows.below)
      ∙ ap (shift (length (row_at file earlier))) (ap (here k (row_at file later)) (tied_back keys_total x.0 k tied))
      ∙ ap Some (omega (arith, row_len file earlier))

  pub index_before : key_cmp x.0 k ≡ Greater → index_of k (row_at file offsets) ≡ index_of k (row_at file earlier)
  index_before gt =
      ap (index_of k) h.rows.is
      ∙ index_prefix k (row_at file earlier) (x ∷ row_at file later)
      (ap (here k (row_at file later)) (turned keys_total x.0 k gt)
      ∙ ap (λ (o : Option ℕ). option_map suc o)
      (no_index k x.0 (row_at file later) (turned keys_total x.0 k gt) h.rows.above))
