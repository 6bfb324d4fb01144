-- What parts of an image's judging say of all of it.
use Rattle.ledger_close.proofs.Prelude as prelude
use prelude.{◌≡◌, ◌≢◌, ℕ, ◌≤◌, inl, inr, List, [], ◌∷◌, map, Option, Some, None, pos, Ok, Err, refl, sym, ap, ◌∙◌}
use prelude.{subst, arith, All, ◌*◌, length, AllByRecursion, get, entries, get-entries, length-append, All-nil}
use prelude.{All-cons, All-head, All-tail, recursion_from_All, Hash, LedgerHeader, LedgerEntry, key_of, IsBytes, Lawful}
use prelude.{Position, start_of, StartImage, ledger_header, ledger_hash_of, EntryMap, Change, Init, Live, Dead}
use prelude.{Contents, change_at, HasFile, items_of, item_of, Pair, LevelsAt, list_hash, file_total, ImageFault}
use prelude.{ImageRule, IsClosingState, IsEncoded, max_file_total, IsFirstBroken, entry_rules, header_in, read_complete}
use prelude.{if_complete, AreFilesOf, HasHeader, HasLevels, HasEntries, IsJudged, state_of, IsKept, JudgesImage}
use prelude.{IsFileFault, IsHeaderJudged, DoFilesFit, IsMarksFault, Lists, AreJudged, AreKept, AreRefused}
use Rattle.xdr_core.specs.Leaves.{i32}
use Rattle.bucket_core.specs.xdr_entries.Entries.{ledger_entry}
use Rattle.entry_table.specs.entry_changes.Encodable.{IsEntryEncodable, AreEncodable}
use Rattle.close_rules.specs.legal_rules.Legal.{IsLegal}
use Rattle.ledger_types.specs.declared.key.LedgerKey.{LedgerKey}
use Rattle.ledger_types.specs.declared.bucket.BucketEntry.TheVariants as item
use Rattle.bucket_core.specs.xdr_entries.Keys.{bucket_entry}
use Rattle.bucket_core.specs.bucket_items.MarkedItem.{IsEncodable}
use Rattle.bucket_core.proofs.bucket_items_proofs.Holding.{i32_len}
use Rattle.bucket_core.proofs.Keyed.{found_is_each}
use Rattle.bucket_levels.specs.Meaning.{prepended, entry_after, entry_by, changes_of, files_of, Represent}
use Rattle.close_rules.specs.declared.image_fault.ImageFault.TheVariants as fault
use Rattle.close_rules.specs.declared.image_fault.ImageRule.TheVariants as rule
use Rattle.close_laws.proofs.StateImages.{number_of_levels}
use Rattle.ledger_close.proofs.Files.{HasBoth, OneFile, levels_are_one}
use Rattle.page_cache.specs.Pages.{CacheAt}
use Rattle.page_cache.specs.Caches.{contents_in}

-- ---- the header

-- a header that was read, with nothing after it
pub complete_read : (bytes : List ℕ) (h : LedgerHeader) (p : Position) → Lawful ledger_header → IsBytes bytes
    → ledger_header.read (start_of bytes) ≡ Ok (h, p) → p.rest ≡ []
    → (header_in bytes ≡ Some h) × IsEncoded ledger_header h
unfolding header_in
complete_read bytes h p law text reads end =
    let encoded = law.takes (start_of bytes) p h text reads in (
      ap read_complete reads ∙ ap (if_complete h) end,
      record { within = encoded.within; sized = encoded.sized },
    )

-- ---- the files

-- files that are too long together are those of no levels but these
pub too_long : OneFile → (files : List (List ℕ)) (levels : List Pair) (answer : ImageFault)
    → answer ≡ fault.BadImage rule.Bucket → AreFilesOf levels files → (file_total levels ≤ max_file_total → ⊥)
    → IsFileFault answer ((others : List Pair) → DoFilesFit files others → ⊥)
too_long law files levels answer is are long =
    subst (λ (a : ImageFault). IsFileFault a ((others : List Pair) → DoFilesFit files others → ⊥)) (sym is)
    (λ others fit. long (subst (λ (l : List Pair). file_total l ≤ max_file_total)
    (levels_are_one law files others levels fit.are are) fit.fit))

-- files of another number are those of no levels
pub no_levels : (files : List (List ℕ)) (answer : ImageFault) → answer ≡ fault.BadImage rule.Bucket
    → (length files ≡ 22 → ⊥) → IsFileFault answer ((levels : List Pair) → DoFilesFit files levels → ⊥)
no_levels files answer is other =
    subst (λ (a : ImageFault). IsFileFault a ((levels : List Pair) → DoFilesFit files levels → ⊥)) (sym is)
    (λ levels fit. other (ap length fit.are.are ∙ number_of_levels levels ∙ ap (λ (n : ℕ). 2 * n) fit.are.count))

-- the first four rules are kept
pub has_levels : (image : StartImage) (h : LedgerHeader) (levels : List Pair) → HasHeader image h
    → DoFilesFit image.files levels → HasLevels image h levels
has_levels image h levels header files =
    record { header = header; files = record { files = files.are; fit = files.fit } }

-- ---- entries

-- what isn't one of some rules
abbrev IsNone : ImageRule → List ImageRule → Type 0
IsNone other [] = Unit {0}
IsNone other (first ∷ rules) = (other ≢ first) × IsNone other rules

-- a rule that is broken first is one of the rules
never_first : (h : LedgerHeader) (m : EntryMap) (rules : List ImageRule) (other : ImageRule) → IsNone other rules
    → IsFirstBroken h m rules (Some other) → ⊥
never_first h m [] other none broken = absurd (cc (broken))
never_first h m (first ∷ rules) other none (inl here) = none.0 here.1
never_first h m (first ∷ rules) other none (inr there) = never_first h m rules other none.1 there.1

early : (h : LedgerHeader) (m : EntryMap) (other : ImageRule) → IsNone other entry_rules
    → IsFirstBroken h m entry_rules (Some other) → ⊥
early h m other none broken = never_first h m entry_rules other none broken

-- the first rule of entries that is broken
pub by_rule : (h : LedgerHeader) (levels : List Pair) (m : EntryMap) (first : ImageRule)
    → list_hash levels ≡ h.bucket_list_hash → IsFirstBroken h m entry_rules (Some first)
    → AreJudged h levels m (Err (fault.BadImage first))
by_rule h levels m rule.ListHash hash broken =
    absurd (early h m rule.ListHash
    ((λ e. cc), ((λ e. cc), ((λ e. cc), ((λ e. cc), ((λ e. cc), ((λ e. cc), ((λ e. cc), tt))))))) broken)
by_rule h levels m rule.Header hash broken = (hash, broken)
by_rule h levels m rule.Version hash broken = (hash, broken)
by_rule h levels m rule.Fields hash broken = (hash, broken)
by_rule h levels m rule.Bucket hash broken = (hash, broken)
by_rule h levels m rule.Marks hash broken = (hash, broken)
by_rule h levels m rule.Entry hash broken = (hash, broken)
by_rule h levels m rule.Owner hash broken = (hash, broken)
by_rule h levels m rule.Liabilities hash broken = (hash, broken)
by_rule h levels m rule.Subentries hash broken = (hash, broken)
by_rule h levels m rule.Sponsorship hash broken = (hash, broken)
by_rule h levels m rule.Pools hash broken = (hash, broken)
by_rule h levels m rule.Lumens hash broken = (hash, broken)

pub has_entries : (image : StartImage) (h : LedgerHeader) (levels : List Pair) (m : EntryMap)
    → HasLevels image h levels → Lists levels m → list_hash levels ≡ h.bucket_list_hash → HasEntries image h levels m
has_entries image h levels m has exists hash =
    record { files = has; marks = exists.marks; hash = hash; existing = exists.existing }

by_entries : (network : Hash) (image : StartImage) (h : LedgerHeader) (levels : List Pair) (m : EntryMap)
    (wrong : ImageFault) → HasLevels image h levels → Lists levels m → AreJudged h levels m (Err wrong)
    → JudgesImage network image (Err wrong)
by_entries network image h levels m fault.NoMemory has exists f = tt
by_entries network image h levels m (fault.BadImage rule.ListHash) has exists f = (h, levels, has, exists.marks, f)
by_entries network image h levels m (fault.BadImage rule.Header) has exists f =
    absurd (early h m rule.Header
    ((λ e. cc), ((λ e. cc), ((λ e. cc), ((λ e. cc), ((λ e. cc), ((λ e. cc), ((λ e. cc), tt))))))) f.1)
by_entries network image h levels m (fault.BadImage rule.Version) has exists f =
    absurd (early h m rule.Version
    ((λ e. cc), ((λ e. cc), ((λ e. cc), ((λ e. cc), ((λ e. cc), ((λ e. cc), ((λ e. cc), tt))))))) f.1)
by_entries network image h levels m (fault.BadImage rule.Fields) has exists f =
    absurd (early h m rule.Fields
    ((λ e. cc), ((λ e. cc), ((λ e. cc), ((λ e. cc), ((λ e. cc), ((λ e. cc), ((λ e. cc), tt))))))) f.1)
by_entries network image h levels m (fault.BadImage rule.Bucket) has exists f =
    absurd (early h m rule.Bucket
    ((λ e. cc), ((λ e. cc), ((λ e. cc), ((λ e. cc), ((λ e. cc), ((λ e. cc), ((λ e. cc), tt))))))) f.1)
by_entries network image h levels m (fault.BadImage rule.Marks) has exists f =
    absurd (early h m rule.Marks
    ((λ e. cc), ((λ e. cc), ((λ e. cc), ((λ e. cc), ((λ e. cc), ((λ e. cc), ((λ e. cc), tt))))))) f.1)
by_entries network image h levels m (fault.BadImage rule.Entry) has exists f =
    (h, levels, m, has_entries image h levels m has exists f.0, f.1)
by_entries network image h levels m (fault.BadImage rule.Owner) has exists f =
    (h, levels, m, has_entries image h levels m has exists f.0, f.1)
by_entries network image h levels m (fault.BadImage rule.Liabilities) has exists f =
    (h, levels, m, has_entries image h levels m has exists f.0, f.1)
by_entries network image h levels m (fault.BadImage rule.Subentries) has exists f =
    (h, levels, m, has_entries image h levels m has exists f.0, f.1)
by_entries network image h levels m (fault.BadImage rule.Sponsorship) has exists f =
    (h, levels, m, has_entries image h levels m has exists f.0, f.1)
by_entries network image h levels m (fault.BadImage rule.Pools) has exists f =
    (h, levels, m, has_entries image h levels m has exists f.0, f.1)
by_entries network image h levels m (fault.BadImage rule.Lumens) has exists f =
    (h, levels, m, has_entries image h levels m has exists f.0, f.1)

-- levels that aren't marked well
by_marks : (network : Hash) (image : StartImage) (h : LedgerHeader) (levels : List Pair) (wrong : ImageFault)
    → HasLevels image h levels → IsMarksFault levels wrong → JudgesImage network image (Err wrong)
by_marks network image h levels fault.NoMemory has f = tt
by_marks network image h levels (fault.BadImage rule.Marks) has f = (h, levels, has, f)
by_marks network image h levels (fault.BadImage rule.Header) has f = absurd f
by_marks network image h levels (fault.BadImage rule.Version) has f = absurd f
by_marks network image h levels (fault.BadImage rule.Fields) has f = absurd f
by_marks network image h levels (fault.BadImage rule.Bucket) has f = absurd f
by_marks network image h levels (fault.BadImage rule.ListHash) has f = absurd f
by_marks network image h levels (fault.BadImage rule.Entry) has f = absurd f
by_marks network image h levels (fault.BadImage rule.Owner) has f = absurd f
by_marks network image h levels (fault.BadImage rule.Liabilities) has f = absurd f
by_marks network image h levels (fault.BadImage rule.Subentries) has f = absurd f
by_marks network image h levels (fault.BadImage rule.Sponsorship) has f = absurd f
by_marks network image h levels (fault.BadImage rule.Pools) has f = absurd f
by_marks network image h levels (fault.BadImage rule.Lumens) has f = absurd f

pub by_levels : (network : Hash) (image : StartImage) (h : LedgerHeader) (levels : List Pair) (wrong : ImageFault)
    → HasLevels image h levels → AreRefused h levels wrong → JudgesImage network image (Err wrong)
by_levels network image h levels wrong has (inl marks) = by_marks network image h levels wrong has marks
by_levels network image h levels wrong has (inr f) = by_entries network image h levels f.0 wrong has f.1 f.2

-- ---- what is in files

-- a file that has a change of which an entry is left
record IsLocated (k : LedgerKey) (e : LedgerEntry) : Type 0 where
  pub contents : Contents
  pub has : HasFile contents
  pub change : Change
  pub at : change_at contents k ≡ Some change
  pub left : entry_after change ≡ Some e

inserted_by : (contents : Contents) (k : LedgerKey) (e : LedgerEntry) (older : List Change) (found : Option Change)
    → change_at contents k ≡ found → HasFile contents → (entry_by older ≡ Some e → IsLocated k e)
    → entry_by (prepended found older) ≡ Some e → IsLocated k e
inserted_by contents k e older None at has after is = after is
inserted_by contents k e older (Some change) at has after is =
    record { contents = contents; has = has; change = change; at = at; left = is }

located_in : (files : List Contents) (k : LedgerKey) (e : LedgerEntry) → All HasFile files
    → entry_by (changes_of files k) ≡ Some e → IsLocated k e
unfolding changes_of
located_in [] k e have is = absurd (cc (is))
located_in (contents ∷ older) k e have is =
    inserted_by contents k e (changes_of older k) (change_at contents k) refl (All-head HasFile contents older have)
    (λ after. located_in older k e (All-tail HasFile contents older have) after) is

pub all_have_file : (levels : List Pair) → All HasBoth levels → All HasFile (files_of levels)
all_have_file [] have = All-nil HasFile
all_have_file (pair ∷ rest) have =
    let h = All-head HasBoth pair rest have in
    let others = all_have_file rest (All-tail HasBoth pair rest have) in
    All-cons HasFile pair.curr (pair.snap ∷ files_of rest) h.0 (All-cons HasFile pair.snap (files_of rest) h.1 others)

inserted : (levels : List Pair) (m : EntryMap) (k : LedgerKey) (e : LedgerEntry) → All HasBoth levels
    → Represent levels m → get m k ≡ Some e → IsLocated k e
inserted levels m k e have existing there =
    located_in (files_of levels) k e (all_have_file levels have) (sym (existing k) ∙ there)

-- an entry is under its key
keyed_by : (k : LedgerKey) (e : LedgerEntry) (contents : Contents) (change : Change) → HasFile contents
    → change_at contents k ≡ Some change → entry_after change ≡ Some e → key_of e ≡ k
keyed_by k e contents (Init x) has at left =
    let own : key_of x ≡ k = has.keyed k (Init x) at in cc
keyed_by k e contents (Live x) has at left =
    let own : key_of x ≡ k = has.keyed k (Live x) at in cc
keyed_by k e contents Dead has at left = absurd (cc (left))

-- and has an encoding
change_encoded : (contents : Contents) (k : LedgerKey) (change : Change) → HasFile contents
    → change_at contents k ≡ Some change → IsEncodable (item_of (k, change))
change_encoded None k change has at = absurd (cc (at))
change_encoded (Some filled) k change has at =
    let all = recursion_from_All IsEncodable (items_of (Some filled)) has.encoded in
    found_is_each (λ q c. IsEncodable (item_of (q, c))) (entries filled.changes) (each (entries filled.changes) all.1)
    k change (sym (get-entries filled.changes k) ∙ at)
  where
    each : (es : List (LedgerKey × Change)) → AllByRecursion IsEncodable (map item_of es)
        → AllByRecursion (λ e. IsEncodable (item_of (e.0, e.1))) es
    each [] h = tt
    each (x ∷ xs) h = (h.0, each xs h.1)

live_encoded : (e : LedgerEntry) → IsEncodable (item.Live e) → IsEntryEncodable e
unfolding bucket_entry
live_encoded e h = record {
  within = h.within;
  sized = h.sized;
  short = omega (arith, h.short, length-append (i32.encoding (pos 0)) (ledger_entry.encoding e), i32_len (pos 0));
}

init_encoded : (e : LedgerEntry) → IsEncodable (item.Init e) → IsEntryEncodable e
unfolding bucket_entry
init_encoded e h = record {
  within = h.within;
  sized = h.sized;
  short = omega (arith, h.short, length-append (i32.encoding (pos 2)) (ledger_entry.encoding e), i32_len (pos 2));
}

encoded_by : (k : LedgerKey) (e : LedgerEntry) (change : Change) → IsEncodable (item_of (k, change))
    → entry_after change ≡ Some e → IsEntryEncodable e
encoded_by k e (Init x) encoded left =
    let same : x ≡ e = cc in subst IsEntryEncodable same (init_encoded x encoded)
encoded_by k e (Live x) encoded left =
    let same : x ≡ e = cc in subst IsEntryEncodable same (live_encoded x encoded)
encoded_by k e Dead encoded left = absurd (cc (left))

entries_encoded : (levels : List Pair) (m : EntryMap) → All HasBoth levels → Represent levels m → AreEncodable m
entries_encoded levels m have existing k e there =
    let p = inserted levels m k e have existing there in
    encoded_by k e p.change (change_encoded p.contents k p.change p.has p.at) p.left

-- ---- the state

is_legal : (image : StartImage) (h : LedgerHeader) (levels : List Pair) (m : EntryMap) → HasEntries image h levels m
    → IsFirstBroken h m entry_rules None → IsLegal h m
is_legal image h levels m has kept =
    let header = has.files.header in
    let fields = header.fields in
    record {
      header = record {
        version = header.version;
        seq_low = fields.seq_low;
        seq_high = fields.seq_high;
        base_fee = fields.base_fee;
        base_reserve = fields.base_reserve;
        total_coins = fields.total_coins;
        fee_pool = fields.fee_pool;
        id_pool = fields.id_pool;
        flags = fields.flags;
      };
      keyed = λ k e there.
          let p = inserted levels m k e has.files.files.files.have has.existing there in
          keyed_by k e p.contents p.change p.has p.at p.left;
      entries = kept.0.entries;
      authorized = kept.0.authorized;
      existing = kept.1.0.existing;
      offers = kept.1.0.offers;
      selling = kept.1.1.0.selling;
      buying = kept.1.1.0.buying;
      subentries = kept.1.1.1.0.aggregated;
      few = kept.1.1.1.0.few;
      sponsoring = kept.1.1.1.1.0.sponsoring;
      sponsored = kept.1.1.1.1.0.sponsored;
      fits = kept.1.1.1.1.0.fits;
      shares = kept.1.1.1.1.1.0.shares;
      share_lines = kept.1.1.1.1.1.0.share_lines;
      uses = kept.1.1.1.1.1.0.uses;
      filled = kept.1.1.1.1.1.0.filled;
      lumens = kept.1.1.1.1.1.1.0;
    }

is_closing : (network : Hash) (image : StartImage) (h : LedgerHeader) (levels : List Pair) (m : EntryMap)
    → HasEntries image h levels m → IsEncoded ledger_header h → IsFirstBroken h m entry_rules None
    → IsClosingState (state_of network h levels m)
is_closing network image h levels m has encoded kept = record {
  legal = is_legal image h levels m has kept;
  dated = kept.0.dated;
  count = has.files.files.files.count;
  marked = has.marks;
  existing = has.existing;
  hash = has.hash;
  header = encoded;
  entries = entries_encoded levels m has.files.files.files.have has.existing;
  files = has.files.files.fit;
}

-- an image that keeps all rules
pub record IsComplete (image : StartImage) (h : LedgerHeader) (levels : List Pair) (m : EntryMap) : Type 0 where
  pub header : IsHeaderJudged image (Ok h)
  pub files : DoFilesFit image.files levels
  pub kept : AreKept h levels m

complete_has : (image : StartImage) (h : LedgerHeader) (levels : List Pair) (m : EntryMap) → IsComplete image h levels m
    → HasEntries image h levels m
complete_has image h levels m w =
    has_entries image h levels m (has_levels image h levels w.header.0 w.files) w.kept.exists w.kept.judged.0

pub is_kept : (network digest : Hash) (image : StartImage) (h : LedgerHeader) (m : EntryMap) (levels : LevelsAt)
    (caches : List CacheAt) → IsComplete image h levels.pairs m → digest ≡ ledger_hash_of h
    → levels.seq ≡ h.ledger_seq → contents_in caches ≡ files_of levels.pairs
    → IsKept network digest h m levels.pairs levels.seq caches
is_kept network digest image h m levels caches w hashed number files = record {
  state = is_closing network image h levels.pairs m (complete_has image h levels.pairs m w) w.header.1 w.kept.judged.1;
  hashed = hashed;
  number = number;
  files = files;
}

pub complete_judged : (network : Hash) (image : StartImage) (h : LedgerHeader) (levels : List Pair) (m : EntryMap)
    → IsComplete image h levels m → IsJudged network image (Ok (state_of network h levels m))
complete_judged network image h levels m w =
    (h, levels, m, complete_has image h levels m w, w.kept.judged.1, refl)
