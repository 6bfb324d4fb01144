-- Files say something of keys with an encoding alone, so what follows a key without one follows the greatest key with
-- one that is below the same.
use Rattle.std.proofs.Common.{◌≡◌, ◌≢◌, List, [], ◌∷◌, Option, Some, None, refl, ap, ◌∙◌}
use Rattle.std.specs.FinMap.{get}
use Rattle.xdr_entries.specs.Keys.{ledger_key}
use Rattle.ledger_types.specs.declared.entry.LedgerEntry.{LedgerEntry}
use Rattle.ledger_types.specs.declared.key.LedgerKey.{LedgerKey}
use Rattle.ledger_types.specs.Keys.{key_of}
use Rattle.ledger_types.proofs.KeyOrdering.{keys_total}
use Rattle.shared_tree.proofs.Parts.{greater, turned}
use Rattle.entry_map.specs.EntryMap.{EntryMap, IsNextAfter, IsNextUpTo}
use Rattle.bucket_core.specs.Bucket.{Change, Contents, change_at}
use Rattle.bucket_core.specs.Encoded.{IsEncoded}
use Rattle.bucket_core.specs.EncodedKey.{HaveSameAbove}
use Rattle.bucket_core.specs.File.{HasFile}
use Rattle.bucket_core.proofs.Unencoded.{said_encoded}
use Rattle.bucket_levels.specs.Pairs.{Pair}
use Rattle.bucket_levels.specs.Meaning.{changes_of, prepended, entry_by, files_of, Represent}

-- a key of which files say something has an encoding
abbrev pub AreEncoded : List Contents → Type 0
AreEncoded files = (k : LedgerKey) → changes_of files k ≢ [] → IsEncoded ledger_key k

pub none_encoded : AreEncoded []
unfolding changes_of
none_encoded = λ k some. absurd (some refl)

either : (k : LedgerKey) (o : Option Change) (older : List Change) → (o ≢ None → IsEncoded ledger_key k)
    → (older ≢ [] → IsEncoded ledger_key k) → prepended o older ≢ [] → IsEncoded ledger_key k
either k None older first second some = second some
either k (Some c) older first second some = first (λ none. absurd (cc (none)))

one_more : (c : Contents) (older : List Contents) → HasFile c → AreEncoded older → AreEncoded (c ∷ older)
unfolding changes_of
one_more c older file others = λ k some.
    either k (change_at c k) (changes_of older k) (said_encoded c k file) (others k) some

pub more_encoded : (a b : Contents) (older : List Contents) → HasFile a → HasFile b → AreEncoded older
    → AreEncoded (a ∷ b ∷ older)
more_encoded a b older first second others = one_more a (b ∷ older) first (one_more b older second others)

empty_by : {A : Type 0} (xs : List A) → (xs ≢ [] → ⊥) → xs ≡ []
empty_by [] h = refl
empty_by (x ∷ xs) h = absurd (h (λ none. absurd (cc (none))))

-- files say nothing of a key without an encoding
pub unsaid : (files : List Contents) (k : LedgerKey) → AreEncoded files → (IsEncoded ledger_key k → ⊥)
    → changes_of files k ≡ []
unsaid files k encoded none = empty_by (changes_of files k) (λ some. none (encoded k some))

-- ---- the next entry

none_by : {A : Type 0} (o : Option A) → (o ≢ None → o ≡ None) → o ≡ None
none_by None h = refl
none_by (Some a) h = h (λ none. absurd (cc (none)))

module _ (pairs : List Pair) (m : EntryMap) (represent : Represent pairs m)
    (encoded : AreEncoded (files_of pairs)) where
  entry_encoded : (q : LedgerKey) → get m q ≢ None → IsEncoded ledger_key q
  entry_encoded q some = encoded q (λ none. some (represent q ∙ ap entry_by none))

  some_encoded : (q : LedgerKey) (e : LedgerEntry) → get m q ≡ Some e → IsEncoded ledger_key q
  some_encoded q e is = entry_encoded q (λ none. absurd (cc (is, none)))

  pub next_of_bound : (k bound : LedgerKey) (r : Option LedgerEntry) → HaveSameAbove k bound → IsNextAfter m bound r
      → IsNextAfter m k r
  next_of_bound k bound None same next = λ q lt.
      none_by (get m q) (λ some. next q ((same q (entry_encoded q some)).0 lt))
  next_of_bound k bound (Some e) same next = record {
    there = next.there;
    above = (same (key_of e) (some_encoded (key_of e) e next.there)).1 next.above;
    least = λ q lt some. next.least q ((same q (entry_encoded q some)).0 lt) some;
  }

  pub next_up_to_bound : (k bound last end : LedgerKey) (r : Option LedgerEntry) → HaveSameAbove k bound
      → HaveSameAbove last end → IsNextUpTo m bound (Some end) r → IsNextUpTo m k (Some last) r
  next_up_to_bound k bound last end None same ends next = λ q lt within.
      none_by (get m q) (λ some. next q ((same q (entry_encoded q some)).0 lt)
      (λ gt. within (greater keys_total last q ((ends q (entry_encoded q some)).1 (turned keys_total q end gt)))))
  next_up_to_bound k bound last end (Some e) same ends next = next_of_bound k bound (Some e) same next
