-- Where the parts of an image are in its text.
use Rattle.record_stream.proofs.Prelude.{◌≡◌, ℕ, zero, suc, ◌+◌, ◌-◌, ◌≤◌, ◌<◌, pos, List, [], ◌∷◌, ◌++◌, length, take}
use Rattle.record_stream.proofs.Prelude.{drop, map, Ok, Err, refl, sym, ap, subst, ◌∙◌, append_assoc, arith, get_or}
use Rattle.record_stream.proofs.Prelude.{Fits, w8, slice_set, length-append, length-drop, drop-drop, get_or-drop}
use Rattle.record_stream.proofs.Prelude.{map-append, Position, Reading, start_of, u64, bytes_at, mark, mark_word, file}
use Rattle.record_stream.proofs.Prelude.{all_files, start_image, Span, Layout, piece, IsWithin, AreWithin, image_in}
use Rattle.record_stream.proofs.Prelude.{IsIn, IsPassed, IsLayout, IsTaken, drop_at, take_at}
use Rattle.std.proofs.Math.Facts.{Fits-lt-pow}
use Rattle.std.proofs.lemmas.Bool.{le-ltb}
use Rattle.xdr_core.specs.Format.{IsBytes, Takes}
use Rattle.xdr_core.specs.Xdr.{Xdr, tag}
use Rattle.byteorder.specs.Endian.{big_bytes}
use Rattle.std.proofs.lemmas.List.Elements.{All-nil, All-cons, All-append}
use Rattle.xdr_core.specs.declared.fault.XdrFault.{XdrFault}
use Rattle.xdr_core.proofs.Steps.{Takes-then}
use Rattle.xdr_core.proofs.LeafLaws.{u64_lawful}
use Rattle.xdr_core.proofs.Marks.{bytes_takes, mark_lawful}
use Rattle.xdr_core.proofs.Discriminants.{tag_law}
use Rattle.xdr_core.proofs.Looping.{with_prefix}
use Rattle.xdr_header.specs.declared.image.StartImage.{StartImage}
use Rattle.xdr_header.proofs.Files.{goes_on, ends_at, is_done}
use Rattle.record_stream.specs.Measured.{end_by, image_end}

-- what a text holds are bytes
pub bytes_of : (text : List ℕ) → ((i : ℕ) → Fits w8 (get_or text i 0)) → IsBytes text
bytes_of text h i = Fits-lt-pow {w = w8} {n = get_or text i 0} (h i)

-- ---- offsets in a text

pub at_prefix : (text : List ℕ) → IsBytes text → IsIn text (start_of text)
at_prefix text fits = record { bytes = fits; within = omega arith; rest = refl }

bytes_ahead : (text : List ℕ) (p : Position) → IsIn text p → IsBytes p.rest
bytes_ahead text p h = subst IsBytes (sym h.rest)
    (λ i. subst (λ (n : ℕ). n < 256) (sym (get_or-drop p.at text i 0)) (h.bytes (p.at + i)))

ahead_of : (text prefix rest : List ℕ) (p : Position) → IsIn text p → p.rest ≡ prefix ++ rest
    → drop (p.at + length prefix) text ≡ rest
ahead_of text prefix rest p h parts =
    sym (drop-drop (length prefix) p.at text) ∙ ap (drop (length prefix)) (sym h.rest ∙ parts)
    ∙ drop_at prefix rest (length prefix) refl

-- after what was taken is a position of the text
taken_in : (text prefix : List ℕ) (p q : Position) → IsIn text p → Takes p q prefix → IsIn text q
taken_in text prefix p q h t =
    let entire : length p.rest ≡ length prefix + length q.rest = ap length t.parts ∙ length-append prefix q.rest in
    let room : length p.rest ≡ length text - p.at = ap length h.rest ∙ length-drop p.at text in
    record {
      bytes = h.bytes;
      within = omega (arith, t.at, entire, room, h.within);
      rest = sym (ap (λ (n : ℕ). drop n text) t.at ∙ ahead_of text prefix q.rest p h t.parts);
    }

-- what follows other bytes between two offsets is a piece of the text
passed : (text prefix v : List ℕ) (f : Xdr (List ℕ)) (p q : Position) (start len : ℕ) → IsIn text p
    → Takes p q (prefix ++ v) → f.read p ≡ Ok (v, q) → length v ≡ len → start + len ≡ q.at
    → IsPassed text f p q (record { start = start; len = len })
passed text prefix v f p q start len h t reads sized ends =
    let position : IsIn text q = taken_in text (prefix ++ v) p q h t in
    let following : start ≡ p.at + length prefix = omega (arith, t.at, length-append prefix v, sized, ends) in
    let from : drop start text ≡ v ++ q.rest = ap (λ (n : ℕ). drop n text) following
    ∙ ahead_of text prefix (v ++ q.rest) p h (t.parts ∙ append_assoc prefix v q.rest) in
    let same : take len (drop start text) ≡ v = ap (take len) from ∙ take_at v q.rest len sized in
    record {
      reads = subst (λ (bytes : List ℕ). f.read p ≡ Ok (bytes, q)) (sym same) reads;
      len = ap length same ∙ sized;
      within = omega (arith, ends, position.within);
      position = position;
    }

-- ---- the parts

file_read : (max len : ℕ) (p m q : Position) (v : List ℕ) → u64.read p ≡ Ok (len, m) → len ≤ max
    → bytes_at len m ≡ Ok (v, q) → (file max).read p ≡ Ok (v, q)
unfolding file
file_read max len p m q v number fits bytes = rw (number, le-ltb max len fits) bytes

pub file_passed : (text : List ℕ) (max len : ℕ) (p m q : Position) (v : List ℕ) → IsIn text p → u64.read p ≡ Ok (len, m)
    → len ≤ max → bytes_at len m ≡ Ok (v, q)
    → IsPassed text (file max) p q (record { start = m.at; len = len })
file_passed text max len p m q v h number fits bytes =
    let s = u64_lawful.takes p m len (bytes_ahead text p h) number in
    let t = bytes_takes len m q v s.taken.rest bytes in
    passed text (u64.encoding len) v (file max) p q m.at len h (Takes-then p m q (u64.encoding len) v s.taken t.0)
    (file_read max len p m q v number fits bytes) t.1 (ap (λ (n : ℕ). m.at + n) (sym t.1) ∙ sym t.0.at)

pub record HeaderPassed (text : List ℕ) (p q : Position) (len at : ℕ) : Type 0 where
  pub low : len ≤ at
  pub is : IsPassed text (mark 16777216) p q (record { start = at - len; len = len })

pub header_passed : (text : List ℕ) (p q : Position) (v : List ℕ) (len at : ℕ) → IsIn text p
    → (mark 16777216).read p ≡ Ok (v, q) → len ≡ length v → at ≡ q.at → HeaderPassed text p q len at
unfolding mark
header_passed text p q v len at h reads sized here =
    let word : List ℕ = big_bytes 4 (mark_word (length v)) in
    let s = (mark_lawful 16777216 (omega arith)).takes p q v (bytes_ahead text p h) reads in
    let low : len ≤ at = omega (arith, sized, here, s.taken.at, length-append word v) in
    record {
      low = low;
      is = passed text word v (mark 16777216) p q (at - len) len h s.taken reads (sym sized) (omega (arith, low, here));
    }

abbrev pub magic : Xdr (Unit {0})
magic = tag (pos 0x534C4931)

pub magic_passed : (text : List ℕ) (p q : Position) → IsIn text p → magic.read p ≡ Ok (tt, q) → IsIn text q
magic_passed text p q h reads =
    taken_in text (magic.encoding tt) p q h
    ((tag_law (pos 0x534C4931) tt).takes p q tt (bytes_ahead text p h) reads).taken

-- the header at the start of a text, after the mark of an image
pub prefix_header : (text : List ℕ) (p0 p q : Position) (v : List ℕ) (at : ℕ) → p0 ≡ start_of text → IsBytes text
    → magic.read p0 ≡ Ok (tt, p) → (mark 16777216).read p ≡ Ok (v, q) → at ≡ q.at
    → HeaderPassed text p q (length v) at
prefix_header text p0 p q v at prefix fits first second here =
    header_passed text p q v (length v) at
    (magic_passed text p0 p (subst (IsIn text) (sym prefix) (at_prefix text fits))
    first) second refl here

-- ---- all files

-- some files were passed by, and these and those that follow are what is read from the start
pub record AreSoFar (text : List ℕ) (count room : ℕ) (p now : Position) (spans : List Span) : Type 0 where
  pub same : with_prefix (map (piece text) spans) ((all_files (22 - count) room).read now)
      ≡ (all_files 22 536870912).read p
  pub within : AreWithin text spans
  pub position : IsIn text now

pub none_so_far : (text : List ℕ) (p : Position) → IsIn text p → AreSoFar text 0 536870912 p p []
none_so_far text p h = record {
  same = nothing ((all_files 22 536870912).read p);
  within = All-nil (IsWithin text);
  position = h;
}
  where
    nothing : (r : Reading XdrFault (List (List ℕ))) → with_prefix [] r ≡ r
    nothing (Ok x) = refl
    nothing (Err wrong) = refl

pub one_passed : (text : List ℕ) (count room : ℕ) (p now after : Position) (spans : List Span) (span : Span)
    → count < 22
    → AreSoFar text count room p now spans → IsPassed text (file room) now after span
    → AreSoFar text (count + 1) (room - span.len) p after (spans ++ span ∷ [])
one_passed text count room p now after spans span below so_far one =
    let total = (all_files 22 536870912).read p in
    let next = goes_on (map (piece text) spans) 22 count room now after (piece text span) total below one.reads
    so_far.same in
    let same = subst (λ (n : ℕ). with_prefix (map (piece text) spans ++ piece text span ∷ [])
    ((all_files (22 - (count + 1)) (room - n)).read after) ≡ total) one.len next in
    record {
      same = subst (λ (vs : List (List ℕ)). with_prefix vs
          ((all_files (22 - (count + 1)) (room - span.len)).read after) ≡ total)
          (sym (map-append (piece text) spans (span ∷ []))) same;
      within = All-append (IsWithin text) spans (span ∷ []) so_far.within
          (All-cons (IsWithin text) span [] one.within (All-nil (IsWithin text)));
      position = one.position;
    }

-- ---- the entire image

image_read : (p0 p1 p2 p3 : Position) (header : List ℕ) (vs : List (List ℕ)) → magic.read p0 ≡ Ok (tt, p1)
    → (mark 16777216).read p1 ≡ Ok (header, p2) → (all_files 22 536870912).read p2 ≡ Ok (vs, p3)
    → start_image.read p0 ≡ Ok (record { header = header; files = vs }, p3)
unfolding start_image
image_read p0 p1 p2 p3 header vs first second third = rw (first, second, third) refl

pub no_magic : (p : Position) (wrong : XdrFault) → magic.read p ≡ Err wrong → start_image.read p ≡ Err wrong
unfolding start_image
no_magic p wrong first = rw first refl

pub no_header : (p0 p1 : Position) (wrong : XdrFault) → magic.read p0 ≡ Ok (tt, p1)
    → (mark 16777216).read p1 ≡ Err wrong → start_image.read p0 ≡ Err wrong
unfolding start_image
no_header p0 p1 wrong first second = rw (first, second) refl

no_files : (p0 p1 p2 : Position) (header : List ℕ) (wrong : XdrFault) → magic.read p0 ≡ Ok (tt, p1)
    → (mark 16777216).read p1 ≡ Ok (header, p2) → (all_files 22 536870912).read p2 ≡ Err wrong
    → start_image.read p0 ≡ Err wrong
unfolding start_image
no_files p0 p1 p2 header wrong first second third = rw (first, second, third) refl

module _ (text : List ℕ) (p1 p2 : Position) (header : Span) (first : magic.read (start_of text) ≡ Ok (tt, p1))
    (second : IsPassed text (mark 16777216) p1 p2 header) (count room : ℕ) (now : Position) (spans : List Span)
    (so_far : AreSoFar text count room p2 now spans) where
  pub no_file : (wrong : XdrFault) → count < 22 → (file room).read now ≡ Err wrong
      → start_image.read (start_of text) ≡ Err wrong
  no_file wrong below reads =
      no_files (start_of text) p1 p2 (piece text header) wrong first second.reads
      (ends_at (map (piece text) spans) 22 count room now wrong ((all_files 22 536870912).read p2) below reads
      so_far.same)

  pub laid_out : (all : List Span) (end : ℕ) → 22 ≤ count → spans ≡ all → end ≡ now.at
      → IsLayout text (record { header = header; files = all; end = end })
  laid_out all end done is here =
      subst (λ (s : List Span). IsLayout text (record { header = header; files = s; end = end })) is (record {
        after = now;
        reads = image_read (start_of text) p1 p2 now (piece text header) (map (piece text) spans) first second.reads
            (is_done (map (piece text) spans) 22 count room now ((all_files 22 536870912).read p2) done so_far.same);
        end = here;
        end_within = omega (arith, here, so_far.position.within);
        header_within = second.within;
        files_within = so_far.within;
      })

-- ---- taking it

-- a text whose image has an end has no fault
pub no_fault : (text : List ℕ) (end : ℕ) (wrong : XdrFault) → image_end text ≡ Ok end
    → start_image.read (start_of text) ≡ Err wrong → ⊥
no_fault text end wrong measured reads =
    let e : image_end text ≡ Err wrong = ap (λ (r : Reading XdrFault StartImage). end_by r) reads in
    absurd (cc)

-- one piece is nothing while all are copied, and is put back
put_back : (f : Span → List ℕ) (spans : List Span) (i : ℕ) (none : Span) → i < length spans
    → slice_set (map f (slice_set spans i none)) i (f (get_or spans i none)) ≡ map f spans
put_back f [] i none h = absurd (omega arith)
put_back f (x ∷ xs) zero none h = refl
put_back f (x ∷ xs) (suc i) none h =
    ap (λ (r : List (List ℕ)). f x ∷ r) (put_back f xs i none (omega arith))

pub taken : (text new : List ℕ) (layout : Layout) (index : ℕ) (none : Span) (image : StartImage) (file : List ℕ)
    (all : List (List ℕ)) → IsLayout text layout → index < length layout.files
    → image ≡ image_in text (record {
      header = layout.header;
      files = slice_set layout.files index none;
      end = layout.end;
    })
    → file ≡ piece text (get_or layout.files index none) → all ≡ slice_set image.files index file
    → new ≡ drop layout.end text → IsTaken text new (record { header = image.header; files = all })
taken text new layout index none image file all laid below copied entire put following =
    let header : image.header ≡ piece text layout.header = ap (λ (i : StartImage). i.header) copied in
    let others = ap (λ (i : StartImage). i.files) copied in
    let back : all ≡ map (piece text) layout.files = put ∙ (λ i. slice_set (others i) index (entire i))
    ∙ put_back (piece text) layout.files index none below in
    let same : record { header = image.header; files = all } ≡ image_in text layout =
    λ i. record { header = header i; files = back i } in
    record {
      after = laid.after;
      reads = laid.reads ∙ ap (λ (i : StartImage). Ok (i, laid.after)) (sym same);
      following = following ∙ ap (λ (n : ℕ). drop n text) laid.end;
    }
