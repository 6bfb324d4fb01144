-- The least key of which something is said.
use Rattle.std.proofs.Common.{◌≡◌, ◌≢◌, List, [], ◌∷◌, Option, Some, None, option_map, refl, sym, ap, subst, ◌∙◌}
use Rattle.std.specs.Option.{option_or}
use Rattle.std.specs.declared.cmp.Ordering.{Ordering}
use Rattle.std.specs.declared.cmp.Ordering.TheVariants.{Less, Equal, Greater}
use Rattle.ledger_types.specs.declared.bucket.BucketEntry.{BucketEntry}
use Rattle.ledger_types.specs.declared.entry.LedgerEntry.{LedgerEntry}
use Rattle.ledger_types.specs.declared.key.LedgerKey.{LedgerKey}
use Rattle.ledger_types.specs.KeyOrder.{key_cmp}
use Rattle.ledger_types.specs.Keys.{key_of}
use Rattle.ledger_types.proofs.KeyOrdering.{keys_total, keys_exact}
use Rattle.shared_tree.proofs.Changed.{IsFirstAbove, first_is}
use Rattle.shared_tree.proofs.Parts.{greater, turned}
use Rattle.bucket_core.specs.Bucket.{Change, Init, Live, Dead, Contents, change_at, IsUnderKey}
use Rattle.bucket_core.specs.File.{item_of, HasFile, items_of}
use Rattle.bucket_core.specs.Index.{rows, above, value_at}
use Rattle.bucket_core.proofs.FileRows.{value_is_under, file_rises}
use Rattle.bucket_core.proofs.Walking.{item_of_change}
use Rattle.bucket_levels.specs.Meaning.{prepended, changes_of}
use Rattle.level_pages.specs.Newest.{entry_in, first_of}
use Rattle.level_pages.specs.Next.{Says, IsLeast, IsLeastSaid, in_turn}

-- ---- two in turn

or_none : (o p : Option Change) → o ≡ None → option_or o p ≡ p
or_none None p h = refl
or_none (Some c) p h = absurd (cc (h))

or_said : (o p : Option Change) → option_or o p ≢ None → (o ≡ None → p ≡ None) → o ≢ None
or_said None p some later = λ n. some (later refl)
or_said (Some c) p some later = λ n. absurd (cc (n))

or_first : (k : LedgerKey) (item : BucketEntry) (o p : Option Change)
    → Some item ≡ option_map (λ change. item_of (k, change)) o
    → Some item ≡ option_map (λ change. item_of (k, change)) (option_or o p)
or_first k item None p h = absurd (cc (h))
or_first k item (Some c) p h = h

none_or_some : (o : Option Change) → (o ≢ None → None ≡ o) → o ≡ None
none_or_some None h = refl
none_or_some (Some c) h = sym (h (λ n. absurd (cc (n))))

-- the first says nothing above k
pub older_least : (f g : Says) (k : LedgerKey) (o : Option (LedgerKey × BucketEntry)) → IsLeast f k None → IsLeast g k o
    → IsLeast (in_turn f g) k o
older_least f g k None h i = λ q lt. or_none (f q) (g q) (h q lt) ∙ i q lt
older_least f g k (Some x) h i = record {
  item = i.item ∙ ap (option_map (λ change. item_of (x.0, change))) (sym (or_none (f x.0) (g x.0) (h x.0 i.above)));
  own = i.own;
  above = i.above;
  least = λ q lt some. i.least q lt (λ none. some (or_none (f q) (g q) (h q lt) ∙ none));
}

pub newer_alone : (f g : Says) (k : LedgerKey) (x : LedgerKey × BucketEntry) → IsLeastSaid f k x → IsLeast g k None
    → IsLeastSaid (in_turn f g) k x
newer_alone f g k x h i = record {
  item = or_first x.0 x.1 (f x.0) (g x.0) h.item;
  own = h.own;
  above = h.above;
  least = λ q lt some. h.least q lt (or_said (f q) (g q) some (λ none. i q lt));
}

either : {X : Type 0} (o p : Option Change) → option_or o p ≢ None → (o ≢ None → X) → (p ≢ None → X) → X
either None p some first second = second some
either (Some c) p some first second = first (λ n. absurd (cc (n)))

below_or_same : (q a b : LedgerKey) (o : Ordering) → key_cmp a b ≡ o → o ≢ Greater → key_cmp q a ≡ Less
    → key_cmp q b ≡ Less
below_or_same q a b Less e n lt = keys_total.trans q a b lt e
below_or_same q a b Equal e n lt = subst (λ (k : LedgerKey). key_cmp q k ≡ Less) (keys_exact a b e) lt
below_or_same q a b Greater e n lt = absurd (n refl)

pub not_above : (a b q : LedgerKey) → key_cmp a b ≢ Greater → key_cmp b q ≢ Greater → key_cmp a q ≢ Greater
not_above a b q ab bq = λ aq.
    bq (greater keys_total q b (below_or_same q a b (key_cmp a b) refl ab (turned keys_total a q aq)))

pub newer_least : (f g : Says) (k : LedgerKey) (a b : LedgerKey × BucketEntry) → IsLeastSaid f k a → IsLeastSaid g k b
    → key_cmp a.0 b.0 ≢ Greater → IsLeastSaid (in_turn f g) k a
newer_least f g k a b h i low = record {
  item = or_first a.0 a.1 (f a.0) (g a.0) h.item;
  own = h.own;
  above = h.above;
  least = λ q lt some. either (f q) (g q) some (λ said. h.least q lt said)
      (λ said. not_above a.0 b.0 q low (i.least q lt said));
}

pub silent_here : (o : Option Change) → (o ≢ None → ⊥) → o ≡ None
silent_here None h = refl
silent_here (Some c) h = absurd (h (λ n. absurd (cc (n))))

pub older_first : (f g : Says) (k : LedgerKey) (a b : LedgerKey × BucketEntry) → IsLeastSaid f k a → IsLeastSaid g k b
    → key_cmp a.0 b.0 ≡ Greater → IsLeastSaid (in_turn f g) k b
older_first f g k a b h i high = record {
  item = i.item ∙ ap (option_map (λ change. item_of (b.0, change)))
      (sym (or_none (f b.0) (g b.0) (silent_here (f b.0) (λ said. h.least b.0 i.above said high))));
  own = i.own;
  above = i.above;
  least = λ q lt some. either (f q) (g q) some
      (λ said. not_above b.0 a.0 q (λ gt. absurd (cc (turned keys_total a.0 b.0 high, gt))) (h.least q lt said))
      (λ said. i.least q lt said);
}

-- ---- one file

stated : (c : Contents) (k : LedgerKey) → HasFile c
    → value_at k (rows c) ≡ option_map (λ change. item_of (k, change)) (change_at c k)
stated c k h = value_is_under k (items_of c) ∙ item_of_change k c h.keyed

silent_of : (k : LedgerKey) (o : Option Change) → None ≡ option_map (λ change. item_of (k, change)) o → o ≡ None
silent_of k None h = refl
silent_of k (Some c) h = absurd (cc (h))

own_change : (k : LedgerKey) (c : Change) (e : LedgerEntry) → IsUnderKey k c → entry_in (item_of (k, c)) ≡ Some e
    → key_of e ≡ k
own_change k (Init x) e u is = let same : x ≡ e = cc (is) in ap key_of (sym same) ∙ u
own_change k (Live x) e u is = let same : x ≡ e = cc (is) in ap key_of (sym same) ∙ u
own_change k Dead e u is = absurd (cc (is))

own_by : (k : LedgerKey) (item : BucketEntry) (o : Option Change) (e : LedgerEntry)
    → Some item ≡ option_map (λ change. item_of (k, change)) o → ((c : Change) → o ≡ Some c → IsUnderKey k c)
    → entry_in item ≡ Some e → key_of e ≡ k
own_by k item None e is own so = absurd (cc (is))
own_by k item (Some c) e is own so =
    let same : item ≡ item_of (k, c) = cc (is) in
    own_change k c e (own c refl) (ap entry_in (sym same) ∙ so)

of_first : (c : Contents) (k : LedgerKey) (o : Option (LedgerKey × BucketEntry)) → HasFile c
    → IsFirstAbove keys_total (rows c) k o → IsLeast (change_at c) k o
of_first c k None h first = λ q lt. silent_of q (change_at c q) (sym (first q lt) ∙ stated c q h)
of_first c k (Some x) h first =
    let item : Some x.1 ≡ option_map (λ change. item_of (x.0, change)) (change_at c x.0) =
    sym first.there ∙ stated c x.0 h in
    record {
      item = item;
      own = λ e so. own_by x.0 x.1 (change_at c x.0) e item (λ change is. h.keyed x.0 change is) so;
      above = first.above;
      least = λ q lt some. first.least q lt (λ none. some (silent_of q (change_at c q) (sym none ∙ stated c q h)));
    }

pub file_least : (c : Contents) (k : LedgerKey) (o : Option (LedgerKey × BucketEntry)) → HasFile c
    → o ≡ above k (rows c) → IsLeast (change_at c) k o
file_least c k o h is =
    subst (IsLeast (change_at c) k) (sym is)
    (of_first c k (above k (rows c)) h (first_is keys_total k (rows c) (file_rises c h)))

-- ---- file by file

first_in_front : (o : Option Change) (older : List Change) → first_of (prepended o older) ≡ option_or o (first_of older)
first_in_front None older = refl
first_in_front (Some c) older = refl

pub no_files : (q : LedgerKey) → first_of (changes_of [] q) ≡ None
unfolding changes_of
no_files q = refl

pub two_files : (a b : Contents) (older : List Contents) (q : LedgerKey)
    → option_or (change_at a q) (option_or (change_at b q) (first_of (changes_of older q)))
    ≡ first_of (changes_of (a ∷ b ∷ older) q)
unfolding changes_of
two_files a b older q =
    ap (option_or (change_at a q)) (sym (first_in_front (change_at b q) (changes_of older q)))
    ∙ sym (first_in_front (change_at a q) (prepended (change_at b q) (changes_of older q)))
