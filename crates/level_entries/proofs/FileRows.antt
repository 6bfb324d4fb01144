-- The row of what a file says.
use Rattle.level_entries.proofs.Prelude.{◌≡◌, ℕ, ◌+◌, [], ◌∷◌, ◌++◌, take, Option, Some, None, option_map, sym, ap}
use Rattle.level_entries.proofs.Prelude.{refl, subst, ◌∙◌, LedgerKey, BucketEntry, Change, Init, Live, Dead, Contents}
use Rattle.level_entries.proofs.Prelude.{change_at, take_more, value_at, stated, IsFileRow}
use Rattle.std.proofs.lemmas.Option.{get_or_from_slice_get, slice_get_within}
use Rattle.std.specs.List.{slice_get}
use Rattle.bucket_core.specs.File.{item_of, items_of, HasFile}
use Rattle.bucket_core.specs.Index.{Row, rows}
use Rattle.bucket_core.proofs.FileRows.{file_rises, value_is_under}
use Rattle.bucket_core.proofs.Walking.{item_of_change}

-- one item more of a row
pub one_more : (all : Row) (i : ℕ) (x : LedgerKey × BucketEntry) (old new : Row) → new ≡ old ++ x ∷ []
    → old ≡ take i all → slice_get all i ≡ Some x → new ≡ take (i + 1) all
one_more all i x old new is was at =
    is ∙ ap (λ (r : Row). r ++ x ∷ []) was
    ∙ ap (λ (y : LedgerKey × BucketEntry). take i all ++ y ∷ []) (sym (get_or_from_slice_get all i x x at))
    ∙ sym (take_more all i x (slice_get_within all i x at))

-- ---- what the row says

stated_item : (k : LedgerKey) (c : Change) → stated (item_of (k, c)) ≡ c
stated_item k (Init e) = refl
stated_item k (Live e) = refl
stated_item k Dead = refl

stated_as : (k : LedgerKey) (o : Option Change) → option_map stated (option_map (λ c. item_of (k, c)) o) ≡ o
stated_as k None = refl
stated_as k (Some c) = ap Some (stated_item k c)

says : (file : Contents) (h : HasFile file) (k : LedgerKey)
    → option_map stated (value_at k (rows file)) ≡ change_at file k
says file h k =
    ap (option_map stated) (value_is_under k (items_of file) ∙ item_of_change k file h.keyed)
    ∙ stated_as k (change_at file k)

pub file_row_is : (file : Contents) (row : Row) → HasFile file → row ≡ rows file → IsFileRow file row
file_row_is file row h is = subst (IsFileRow file) (sym is) (record {
  rises = file_rises file h;
  says = says file h;
  own = λ k item found. h.keyed k (stated item) (sym (says file h k) ∙ ap (option_map stated) found);
})
