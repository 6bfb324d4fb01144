-- The reverse of a list undoes it.
use Rattle.change_stream.proofs.Prelude.{Applies, Change, Created, EntryMap, Fits, LedgerEntry, LedgerKey, List, None}
use Rattle.change_stream.proofs.Prelude.{Removed, Some, Updated, [], ap, append-nil, arith, changed, eq_by_cmp}
use Rattle.change_stream.proofs.Prelude.{erase_elsewhere, erase_there, false, get, inverse, key_cmp, key_of}
use Rattle.change_stream.proofs.Prelude.{keys_exact, keys_total, length, put, put_elsewhere, put_there, refl, reversed}
use Rattle.change_stream.proofs.Prelude.{same_itself, same_keys, same_map, subst, sym, true, ◌++◌, ◌∙◌, ◌∷◌, ◌≡◌, ◌≢◌}
use Rattle.entry_map.specs.EntryMap.{erase}

-- one list after another
pub applies_both : (m n o : EntryMap) (cs ds : List Change) → Applies m cs n → Applies n ds o → Applies m (cs ++ ds) o
applies_both m n o [] ds h g = subst (λ x. Applies x ds o) (sym h) g
applies_both m n o (c ∷ cs) ds h g = (h.0, applies_both (changed m c) n o cs ds h.1 g)

-- two maps that agree at one key and at all others are one
pub same_but : (m n : EntryMap) (k : LedgerKey) → get m k ≡ get n k
    → ((q : LedgerKey) → q ≢ k → get m q ≡ get n q) → m ≡ n
same_but m n k here others = same_map keys_total keys_exact m n (λ q.
    elim (eq_by_cmp key_cmp q k) as (λ b. eq_by_cmp key_cmp q k ≡ b → get m q ≡ get n q) [
      | true ↦ λ tied. let e : q ≡ k = same_keys q k tied in
          subst (λ x. get m x ≡ get n x) (sym e) here
      | false ↦ λ other. others q (λ e. let is : eq_by_cmp key_cmp q k ≡ true =
          ap (λ x. eq_by_cmp key_cmp q x) (sym e) ∙ same_itself q in absurd (cc))
    ] refl)

-- ---- one change

undo_put : (m : EntryMap) (a : LedgerEntry) → get m (key_of a) ≡ None → erase (put m a) (key_of a) ≡ m
undo_put m a none = same_but _ m (key_of a) (erase_there (put m a) (key_of a) ∙ sym none)
    (λ q apart. erase_elsewhere (put m a) (key_of a) q apart ∙ put_elsewhere m a q apart)

undo_update : (m : EntryMap) (a b : LedgerEntry) → key_of a ≡ key_of b → get m (key_of b) ≡ Some b
    → put (put m a) b ≡ m
undo_update m a b same there = same_but _ m (key_of b) (put_there (put m a) b ∙ sym there)
    (λ q apart. put_elsewhere (put m a) b q apart
    ∙ put_elsewhere m a q (λ e. apart (e ∙ same)))

undo_erase : (m : EntryMap) (b : LedgerEntry) → get m (key_of b) ≡ Some b → put (erase m (key_of b)) b ≡ m
undo_erase m b there = same_but _ m (key_of b) (put_there (erase m (key_of b)) b ∙ sym there)
    (λ q apart. put_elsewhere (erase m (key_of b)) b q apart ∙ erase_elsewhere m (key_of b) q apart)

-- the inverse of a change fits the map after it, and leads back
pub inverse_fits : (m : EntryMap) (c : Change) → Fits m c → Fits (changed m c) (inverse c)
inverse_fits m (Created a) h = put_there m a
inverse_fits m (Updated b a) h = (sym h.0, put_there m a)
inverse_fits m (Removed b) h = erase_there m (key_of b)

pub inverse_leads_back : (m : EntryMap) (c : Change) → Fits m c → changed (changed m c) (inverse c) ≡ m
inverse_leads_back m (Created a) h = undo_put m a h
inverse_leads_back m (Updated b a) h = undo_update m a b h.0 h.1
inverse_leads_back m (Removed b) h = undo_erase m b h

-- ---- all

pub reverse_undoes : (before after : EntryMap) (cs : List Change) → Applies before cs after
    → Applies after (reversed cs) before
reverse_undoes before after [] h = sym h
reverse_undoes before after (c ∷ cs) h =
    applies_both after (changed before c) before (reversed cs) (inverse c ∷ [])
    (reverse_undoes (changed before c) after cs h.1)
    (inverse_fits before c h.0, inverse_leads_back before c h.0)

-- the reverse of a list ends with its first change, and begins with its last one
pub reversed_last : (cs : List Change) (c : Change) → reversed (cs ++ c ∷ []) ≡ inverse c ∷ reversed cs
reversed_last [] c = refl
reversed_last (d ∷ cs) c = ap (λ x. x ++ inverse d ∷ []) (reversed_last cs c)

-- nothing is ahead
pub nothing_left : (ahead all back : List Change) → reversed all ≡ back ++ reversed ahead → length ahead ≡ 0
    → back ≡ reversed all
nothing_left [] all back h none = sym (h ∙ append-nil back)
nothing_left (c ∷ cs) all back h none = absurd (omega arith)
