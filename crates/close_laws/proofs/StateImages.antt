-- The image of a ledger's state can be written, and represents that state.
use Rattle.close_laws.proofs.Prelude as prelude
use prelude.{◌≡◌, ℕ, zero, suc, ◌+◌, ◌-◌, ◌*◌, ◌≤◌, List, [], ◌∷◌, length, Some, None, refl, sym, ap, ◌∙◌, subst}
use prelude.{arith, append-nil, flat_map, LedgerHeader, mark, start_of, constant, StartImage, ledger_header}
use prelude.{ledger_header_laws, EntryMap, IsHeaderInRange, IsLegal, file_of, Pair, file_total, pair_size, ClosingState}
use prelude.{IsClosingState, IsEncoded, max_file_total, IsFirstBroken, entry_rules, header_in, AreFieldsInRange}
use prelude.{HasHeader, HasEntries, AreFilesOf, IsImageOf, ImagesRepresentStates}
use Rattle.std.proofs.lemmas.List.Sums.{sum_by-cons}
use Rattle.close_rules.specs.xdr_header.Image.{start_image, file, files}
use Rattle.close_rules.specs.Images.{read_complete}
use Rattle.close_rules.specs.legal_rules.Dated.{AreDated}
use Rattle.close_laws.proofs.Short.{longer}
use Rattle.close_laws.proofs.ShortHeaders.{header_short}

-- ---- the header

header_again : (h : LedgerHeader) → IsEncoded ledger_header h → header_in (ledger_header.encoding h) ≡ Some h
unfolding header_in
header_again h encoded =
    ap (λ (bytes : List ℕ). read_complete (ledger_header.read (start_of bytes)))
    (sym (append-nil (ledger_header.encoding h)))
    ∙ ap read_complete (ledger_header_laws.lawful.again 0 h [] encoded.within encoded.sized)

fields_in_range : (h : LedgerHeader) → IsHeaderInRange h → AreFieldsInRange h
fields_in_range h range = record {
  seq_low = range.seq_low;
  seq_high = range.seq_high;
  base_fee = range.base_fee;
  base_reserve = range.base_reserve;
  total_coins = range.total_coins;
  fee_pool = range.fee_pool;
  id_pool = range.id_pool;
  flags = range.flags;
}

has_header : (s : ClosingState) (image : StartImage) → IsClosingState s → IsImageOf s image → HasHeader image s.header
has_header s image state is = record {
  reads = ap header_in is.header ∙ header_again s.header state.header;
  version = state.legal.header.version;
  fields = fields_in_range s.header state.legal.header;
}

-- ---- the files

-- how many bytes files have together
abbrev bytes_of : List (List ℕ) → ℕ
bytes_of [] = 0
bytes_of (first ∷ others) = length first + bytes_of others

bytes_of_levels : (levels : List Pair)
    → bytes_of (flat_map (λ (pair : Pair). file_of pair.curr ∷ file_of pair.snap ∷ []) levels) ≡ file_total levels
unfolding file_total
bytes_of_levels [] = refl
bytes_of_levels (pair ∷ levels) =
    let more : file_total (pair ∷ levels) ≡ pair_size pair + file_total levels = sum_by-cons pair_size pair levels in
    omega (arith, more, bytes_of_levels levels)

-- levels have two files each
pub number_of_levels : (levels : List Pair)
    → length (flat_map (λ (pair : Pair). file_of pair.curr ∷ file_of pair.snap ∷ []) levels) ≡ 2 * length levels
number_of_levels [] = refl
number_of_levels (pair ∷ levels) = omega (arith, number_of_levels levels)

files_within : (n left : ℕ) (each : List (List ℕ)) → length each ≡ n → bytes_of each ≤ left → (files n left).within each
unfolding files file
files_within zero left [] is le = refl
files_within zero left (first ∷ others) is le = absurd (cc is)
files_within (suc n) left [] is le = absurd (cc is)
files_within (suc n) left (first ∷ others) is le =
    (tt, (omega (arith, le), files_within n (left - length first) others (omega (arith, is)) (omega (arith, le))))

are_within : (s : ClosingState) (image : StartImage) → IsClosingState s → AreFilesOf s.levels image.files
    → (files 22 max_file_total).within image.files
are_within s image state are =
    files_within 22 max_file_total image.files
    (ap length are.are ∙ number_of_levels s.levels ∙ ap (λ (n : ℕ). 2 * n) are.count)
    (subst (λ (n : ℕ). n ≤ max_file_total) (sym (ap bytes_of are.are ∙ bytes_of_levels s.levels)) state.files)

-- ---- the image

is_within : (s : ClosingState) (image : StartImage) → IsClosingState s → IsImageOf s image → start_image.within image
unfolding start_image mark constant
is_within s image state is = (
  tt,
  (
    subst (λ (bytes : List ℕ). length bytes ≤ 16777216) (sym is.header)
        (longer 1276 16777216 (omega arith) (header_short s.header state.header).short),
    are_within s image state is.files,
  ),
)

none_broken : (h : LedgerHeader) (m : EntryMap) → IsLegal h m → AreDated h m → IsFirstBroken h m entry_rules None
none_broken h m legal dated = (
  record { entries = legal.entries; dated = dated; authorized = legal.authorized },
  (
    record { existing = legal.existing; offers = legal.offers },
    (
      record { selling = legal.selling; buying = legal.buying },
      (
        record { aggregated = legal.subentries; few = legal.few },
        (
          record { sponsoring = legal.sponsoring; sponsored = legal.sponsored; fits = legal.fits },
          (
            record {
              shares = legal.shares;
              share_lines = legal.share_lines;
              uses = legal.uses;
              filled = legal.filled;
            },
            (legal.lumens, refl),
          ),
        ),
      ),
    ),
  ),
)

has_entries : (s : ClosingState) (image : StartImage) → IsClosingState s → IsImageOf s image
    → HasEntries image s.header s.levels s.entries
has_entries s image state is = record {
  files = record {
    header = has_header s image state is;
    files = record { files = is.files; fit = state.files };
  };
  marks = state.marked;
  hash = state.hash;
  existing = state.existing;
}

pub images_represent_states : ImagesRepresentStates
images_represent_states s image state is = (
  is_within s image state is,
  (
    s.header,
    s.levels,
    s.entries,
    has_entries s image state is,
    none_broken s.header s.entries state.legal state.dated,
    refl,
  ),
)
