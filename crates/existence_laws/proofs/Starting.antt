-- An input has an outcome.
use Rattle.existence_laws.proofs.Prelude.{◌≡◌, ℕ, zero, suc, ◌-◌, List, [], ◌∷◌, length, All, Some, Result, Ok, Err}
use Rattle.std.specs.Prelude.{map}
use Rattle.existence_laws.proofs.Prelude.{refl, sym, subst, All-nil, All-cons, Hash, LedgerHeader, XdrFault, IsBytes}
use Rattle.existence_laws.proofs.Prelude.{mark, Position, Reading, start_of, StartImage, start_image_laws}
use Rattle.existence_laws.proofs.Prelude.{network_id_of, ImageFault, ClosingState, IsClosingState, IsEncoded, header_in}
use Rattle.existence_laws.proofs.Prelude.{if_complete, read_complete, IsJudged, IsComplete, is_kept, Outcome, silent}
use Rattle.existence_laws.proofs.Prelude.{files_of, IsStarted, IsOutcomeOf, EachRun, EachImage, EachOutcome, same_Some}
use Rattle.close_laws.specs.xdr_header.Header.{ledger_header}
use Rattle.close_laws.specs.value_hashes.Hashes.{ledger_hash_of}
use Rattle.close_laws.specs.xdr_header.Image.{file, files, start_image}
use Rattle.close_laws.proofs.xdr_header_proofs.HeaderLaws.{ledger_header_laws}
use Rattle.close_laws.specs.close_rules.declared.image_fault.ImageFault.TheVariants as fault
use Rattle.page_cache.specs.Caches.{no_pages}
use Rattle.page_cache.proofs.Warmings.{none_taken_of}
use Rattle.replay.specs.run_outcome.declared.status.Status.TheVariants as status

-- ---- the state of an image

complete_is : (found h : LedgerHeader) (rest : List ℕ) → if_complete found rest ≡ Some h → found ≡ h
complete_is found h [] is = same_Some found h is
complete_is found h (byte ∷ rest) is = absurd (cc (is))

read_encoded : (bytes : List ℕ) (h : LedgerHeader) (r : Reading XdrFault LedgerHeader) → IsBytes bytes
    → ledger_header.read (start_of bytes) ≡ r → read_complete r ≡ Some h → IsEncoded ledger_header h
read_encoded bytes h (Err wrong) text reads is = absurd (cc (is))
read_encoded bytes h (Ok x) text reads is =
    let encoded = ledger_header_laws.lawful.takes (start_of bytes) x.1 x.0 text reads in
    subst (IsEncoded ledger_header) (complete_is x.0 h x.1.rest is)
    (record { within = encoded.within; sized = encoded.sized })

-- a header that was read can be written
header_encoded : (bytes : List ℕ) (h : LedgerHeader) → IsBytes bytes → header_in bytes ≡ Some h
    → IsEncoded ledger_header h
unfolding header_in
header_encoded bytes h text is = read_encoded bytes h (ledger_header.read (start_of bytes)) text refl is

pub judged_state : (network : Hash) (image : StartImage) (s : ClosingState) → IsBytes image.header
    → IsJudged network image (Ok s) → IsClosingState s
judged_state network image s text (h, levels, m, has, kept, is) =
    let entire : IsComplete image h levels m = record {
      header = (has.files.header, header_encoded image.header h text has.files.header.reads);
      files = record { are = has.files.files.files; fit = has.files.files.fit };
      kept = record {
        exists = record { marks = has.marks; existing = has.existing };
        judged = (has.hash, kept);
      };
    } in
    subst IsClosingState (sym is)
    (is_kept network (ledger_hash_of h) image h m (record { pairs = levels; seq = h.ledger_seq; pending = [] })
    (map no_pages (files_of levels)) entire refl refl (none_taken_of (files_of levels))).state

-- ---- an input

pub header_bytes : (image : StartImage) → start_image.sized image → IsBytes image.header
unfolding start_image mark
header_bytes image sized = sized.1.0

bytes_of_files : (n left : ℕ) (vs : List (List ℕ)) → (files n left).within vs → (files n left).sized vs → All IsBytes vs
unfolding files file
bytes_of_files zero left vs within sized = subst (All IsBytes) (sym within) (All-nil IsBytes)
bytes_of_files (suc n) left [] within sized = absurd within.0
bytes_of_files (suc n) left (v ∷ vs) within sized =
    All-cons IsBytes v vs sized.0 (bytes_of_files n (left - length v) vs within.1.1 sized.1)

pub files_bytes : (image : StartImage) → start_image.within image → start_image.sized image → All IsBytes image.files
unfolding start_image
files_bytes image within sized = bytes_of_files 22 536870912 image.files within.1.1 sized.1.1

abbrev SomeOutcome : Hash → Reading XdrFault StartImage → Type 0
SomeOutcome network r = (o : Outcome) × IsOutcomeOf network r o

by_judgement : EachRun → (network : Hash) (image : StartImage) (q : Position) → IsBytes image.header → IsBytes q.rest
    → (judged : Result ClosingState ImageFault) → IsJudged network image judged
    → (o : Outcome) × IsStarted judged q o
by_judgement runs network image q header rest (Ok s) judged =
    runs s q (judged_state network image s header judged) rest
by_judgement runs network image q header rest (Err (fault.BadImage rule)) judged =
    (silent (status.BadImage rule), refl)
by_judgement runs network image q header rest (Err fault.NoMemory) judged = absurd judged

by_reading : EachRun → EachImage → (network : Hash) (input : List ℕ) → IsBytes input
    → (r : Reading XdrFault StartImage) → start_image.read (start_of input) ≡ r → SomeOutcome network r
by_reading runs images network input text (Err wrong) reads = (silent (status.BadInput wrong.at), refl)
by_reading runs images network input text (Ok (image, q)) reads =
    let encoded = start_image_laws.lawful.takes (start_of input) q image text reads in
    let found = images network image (files_bytes image encoded.within encoded.sized) in
    let begun = by_judgement runs network image q (header_bytes image encoded.sized) encoded.taken.rest found.0 found.1
    in (begun.0, (found.0, found.1, begun.1))

pub each_outcome : EachRun → EachImage → EachOutcome
each_outcome runs images passphrase input text =
    by_reading runs images (network_id_of passphrase) input text (start_image.read (start_of input)) refl
