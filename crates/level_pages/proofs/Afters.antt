-- The entry with the least key above one.
use Rattle.std.proofs.Common.{◌≡◌, ◌≢◌, true, List, [], ◌∷◌, Option, Some, None, option_map, ℕ, refl, sym, ap}
use Rattle.std.proofs.Common.{◌∙◌}
use Rattle.std.specs.FinMap.{get}
use Rattle.std.specs.declared.cmp.Ordering.{Ordering}
use Rattle.std.specs.declared.cmp.Ordering.TheVariants.{Less, Equal, Greater}
use Rattle.ledger_types.specs.declared.bucket.BucketEntry.{BucketEntry}
use Rattle.ledger_types.specs.declared.entry.LedgerEntry.{LedgerEntry}
use Rattle.ledger_types.specs.declared.key.LedgerKey.{LedgerKey}
use Rattle.ledger_types.specs.KeyOrder.{key_cmp}
use Rattle.ledger_types.specs.Keys.{key_of}
use Rattle.ledger_types.proofs.KeyOrdering.{keys_total, keys_exact}
use Rattle.entry_map.specs.EntryMap.{EntryMap, IsNextUpTo}
use Rattle.entry_map.proofs.KnownKeys.{gt_is}
use Rattle.bucket_items.specs.KeyText.{IsKeyText}
use Rattle.bucket_core.specs.Bucket.{Change, Init, Live, Dead}
use Rattle.bucket_core.specs.File.{item_of}
use Rattle.bucket_levels.specs.Pairs.{Pair}
use Rattle.bucket_levels.specs.Meaning.{files_of, changes_of, entry_after, entry_by, Represent}
use Rattle.level_pages.specs.Last.{is_behind}
use Rattle.level_pages.specs.Newest.{entry_in, first_of}
use Rattle.level_pages.specs.Next.{Says, IsLeast, IsLeastSaid}
use Rattle.level_pages.proofs.Leasts.{not_above, silent_here}

abbrev pub says_of : List Pair → Says
says_of pairs = λ q. first_of (changes_of (files_of pairs) q)

abbrev left_in : Option Change → Option LedgerEntry
left_in None = None
left_in (Some c) = entry_after c

first_leaves : (changes : List Change) → entry_by changes ≡ left_in (first_of changes)
first_leaves [] = refl
first_leaves (c ∷ older) = refl

item_leaves : (k : LedgerKey) (c : Change) → entry_in (item_of (k, c)) ≡ entry_after c
item_leaves k (Init e) = refl
item_leaves k (Live e) = refl
item_leaves k Dead = refl

left_by : (k : LedgerKey) (item : BucketEntry) (o : Option Change)
    → Some item ≡ option_map (λ change. item_of (k, change)) o → left_in o ≡ entry_in item
left_by k item None h = absurd (cc (h))
left_by k item (Some c) h =
    let is : item ≡ item_of (k, c) = cc (h) in sym (item_leaves k c) ∙ ap entry_in (sym is)

-- something is said of the least key of which something is
pub said : (says : Says) (k : LedgerKey) (x : LedgerKey × BucketEntry) → IsLeastSaid says k x → says x.0 ≢ None
said says k x h none = absurd (cc (h.item, ap (option_map (λ change. item_of (x.0, change))) none))

module _ (pairs : List Pair) (m : EntryMap) (exists : Represent pairs m) where
  at_key : (q : LedgerKey) → get m q ≡ left_in (says_of pairs q)
  at_key q = exists q ∙ first_leaves (changes_of (files_of pairs) q)

  unsaid : (q : LedgerKey) → says_of pairs q ≡ None → get m q ≡ None
  unsaid q h = at_key q ∙ ap left_in h

  at_item : (k : LedgerKey) (x : LedgerKey × BucketEntry) → IsLeastSaid (says_of pairs) k x → get m x.0 ≡ entry_in x.1
  at_item k x h = at_key x.0 ∙ left_by x.0 x.1 (says_of pairs x.0) h.item

  pub none_next : (k : LedgerKey) (last : Option LedgerKey) → IsLeast (says_of pairs) k None
      → IsNextUpTo m k last None
  none_next k last h = λ q lt within. unsaid q (h q lt)

  -- the least key of which something is said is above the last one
  pub behind_next : (k : LedgerKey) (last : Option LedgerKey) (x : LedgerKey × BucketEntry)
      → IsLeastSaid (says_of pairs) k x → is_behind x.0 last ≡ true → IsNextUpTo m k last None
  behind_next k None x h behind = absurd (cc (behind))
  behind_next k (Some last) x h behind = λ q lt within.
      unsaid q (silent_here (says_of pairs q)
      (λ said. not_above x.0 q last (h.least q lt said) within (gt_is (key_cmp x.0 last) behind)))

  pub some_next : (k : LedgerKey) (last : Option LedgerKey) (x : LedgerKey × BucketEntry) (e : LedgerEntry)
      → IsLeastSaid (says_of pairs) k x → entry_in x.1 ≡ Some e → IsNextUpTo m k last (Some e)
  some_next k last x e h so =
      let own : key_of e ≡ x.0 = h.own e so in
      record {
        there = ap (get m) own ∙ at_item k x h ∙ so;
        above = ap (key_cmp k) own ∙ h.above;
        least = λ q lt some gt. h.least q lt (λ none. some (unsaid q none))
            (ap (λ (p : LedgerKey). key_cmp p q) (sym own) ∙ gt);
      }

  -- ---- a key that is gone

  nothing_by : (k q : LedgerKey) (x : LedgerKey × BucketEntry) (o : Ordering) → key_cmp x.0 q ≡ o → o ≢ Less
      → IsLeastSaid (says_of pairs) k x → entry_in x.1 ≡ None → key_cmp k q ≡ Less → get m q ≡ None
  nothing_by k q x Less e n h gone lt = absurd (n refl)
  nothing_by k q x Equal e n h gone lt = ap (get m) (sym (keys_exact x.0 q e)) ∙ at_item k x h ∙ gone
  nothing_by k q x Greater e n h gone lt = unsaid q (silent_here (says_of pairs q) (λ said. h.least q lt said e))

  none_after : (k q : LedgerKey) (x : LedgerKey × BucketEntry) (o : Ordering) → key_cmp x.0 q ≡ o
      → IsLeastSaid (says_of pairs) k x → entry_in x.1 ≡ None → key_cmp k q ≡ Less
      → (key_cmp x.0 q ≡ Less → get m q ≡ None) → get m q ≡ None
  none_after k q x Less e h gone lt later = later e
  none_after k q x Equal e h gone lt later = nothing_by k q x Equal e (λ n. absurd (cc (n))) h gone lt
  none_after k q x Greater e h gone lt later = nothing_by k q x Greater e (λ n. absurd (cc (n))) h gone lt

  less_behind : (k q : LedgerKey) (x : LedgerKey × BucketEntry) (o : Ordering) → key_cmp x.0 q ≡ o
      → IsLeastSaid (says_of pairs) k x → entry_in x.1 ≡ None → key_cmp k q ≡ Less → get m q ≢ None
      → key_cmp x.0 q ≡ Less
  less_behind k q x Less e h gone lt some = e
  less_behind k q x Equal e h gone lt some = absurd (some (nothing_by k q x Equal e (λ n. absurd (cc (n))) h gone lt))
  less_behind k q x Greater e h gone lt some =
      absurd (some (nothing_by k q x Greater e (λ n. absurd (cc (n))) h gone lt))

  pub passed : (k : LedgerKey) (last : Option LedgerKey) (x : LedgerKey × BucketEntry) (r : Option LedgerEntry)
      → IsLeastSaid (says_of pairs) k x → entry_in x.1 ≡ None → IsNextUpTo m x.0 last r → IsNextUpTo m k last r
  passed k last x None h gone next =
      λ q lt within. none_after k q x (key_cmp x.0 q) refl h gone lt (λ later. next q later within)
  passed k last x (Some e) h gone next = record {
    there = next.there;
    above = keys_total.trans k x.0 (key_of e) h.above next.above;
    least = λ q lt some. next.least q (less_behind k q x (key_cmp x.0 q) refl h gone lt some) some;
  }

-- a text of a key was reached, and what follows it follows the key that was asked for
pub record IsOnWay (pairs : List Pair) (text at : List ℕ) : Type 0 where
  pub here : LedgerKey
  pub is : IsKeyText at here
  pub follows : (m : EntryMap) (k : LedgerKey) → Represent pairs m → IsKeyText text k → (last : Option LedgerKey)
      (r : Option LedgerEntry) → IsNextUpTo m here last r → IsNextUpTo m k last r
