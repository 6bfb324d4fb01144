-- The index of the offers of a table, and of the next one.
use Rattle.entry_table.proofs.Prelude as prelude
use prelude.{◌≡◌, inl, inr, ℕ, sym, ap, subst, ◌∙◌, Option, Some, None, IfSome, List, [], ◌∷◌, ◌++◌, Equal, tied_itself}
use prelude.{get, insert, from_entries, get-from_entries, none_above, key_cmp, key_of, keys_total, LedgerEntry}
use prelude.{LedgerKey, EntryMap, IsKeyed, put, PositionMap, terms_at, IsIndexOf, IsTableRow, IsNextAt, AreNextEntries}
use Rattle.entry_map.specs.Book.{offer_in, offer_of}
use Rattle.entry_map.specs.Positions.{IsNarrow, key_at}
use Rattle.entry_table.proofs.Walks.{first, second}

-- stamping leaves offers as they were
same_offer : (seq : ℕ) (before worked after : Option LedgerEntry) → IsNextAt seq before worked after
    → offer_of worked ≡ offer_of after
same_offer seq None None after h = sym (ap offer_of h)
same_offer seq (Some was) None after h = sym (ap offer_of h)
same_offer seq None (Some e) after h = sym (ap offer_of h)
same_offer seq (Some was) (Some e) after (inl h) = ap (λ parts. offer_in parts.0) (sym h.0) ∙ sym (ap offer_of h.1)
same_offer seq (Some was) (Some e) after (inr h) = sym (ap offer_of h.1)

pub next_index : (seq : ℕ) (before worked after : EntryMap) (index : PositionMap) → IsIndexOf worked index
    → AreNextEntries seq before worked after → IsKeyed after → IsIndexOf after index
next_index seq before worked after index h next keyed = record {
  keyed = keyed;
  each = λ p. h.each p ∙ ap (terms_at p) (same_offer seq (get before (key_at p)) (get worked (key_at p))
      (get after (key_at p)) (next.each (key_at p)));
  narrow = λ k. subst (λ o. IfSome o (λ offer. IsNarrow offer.price))
      (same_offer seq (get before k) (get worked k) (get after k) (next.each k)) (h.narrow k);
}

-- ---- the entries at the end of a row

pub row_after_part : (es rest : List (LedgerKey × LedgerEntry)) → IsTableRow (es ++ rest) → IsTableRow rest
row_after_part [] rest h = h
row_after_part (e ∷ es) rest h =
    row_after_part es rest (record { rises = second _ _ h.rises; own = h.own.1 })

-- an entry isn't among those after it in a row
pub not_after : (x : LedgerKey × LedgerEntry) (rest : List (LedgerKey × LedgerEntry)) → IsTableRow (x ∷ rest)
    → get {R = key_cmp} (from_entries rest) (key_of x.1) ≡ None
not_after x rest h = get-from_entries keys_total rest (key_of x.1)
    ∙ none_above keys_total (key_of x.1) x.0 rest
    (subst (λ k. key_cmp k x.0 ≡ Equal) (sym h.own.0) (tied_itself keys_total x.0)) (first _ _ h.rises)

-- an entry is put before those after it
pub put_first : (x : LedgerKey × LedgerEntry) (rest : List (LedgerKey × LedgerEntry)) (e : LedgerEntry)
    (index : PositionMap) → IsTableRow (x ∷ rest) → e ≡ x.1 → IsIndexOf (put (from_entries rest) e) index
    → IsIndexOf (from_entries (x ∷ rest)) index
put_first x rest e index h same is = subst (λ m. IsIndexOf m index)
    (ap (put (from_entries rest)) same ∙ ap (λ k. insert (from_entries rest) k x.1) h.own.0) is
