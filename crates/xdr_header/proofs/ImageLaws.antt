-- The laws of the formats of files and images.
use Rattle.xdr_header.proofs.Prelude as prelude
use prelude.{◌≡◌, ℕ, zero, suc, ◌+◌, ◌-◌, ◌^◌, ◌<◌, ◌≤◌, pos, Bool, true, false, cond, ltb, List, [], ◌++◌, length}
use prelude.{Ok, Err, refl, sym, ap, subst, ◌∙◌, append_assoc, arith, XdrFault, Position, Reading, followed}
use prelude.{end_of, fault_at, ◌>>=◌, u64, bytes_at, Laws, mark_laws, ◌&◌, struct_laws, marked_laws, tag_laws, file_at}
use prelude.{file, prefix_fields, files, image_fields, start_image}
use Rattle.xdr_core.proofs.DependentLaws.{dependent_laws, known_laws, partial_laws}
use Rattle.std.proofs.lemmas.Bool.{ltb-false, le-ltb}
use Rattle.xdr_core.specs.Format.{IsBytes, Takes, Lawful}
use Rattle.xdr_core.specs.Xdr.{Xdr}
use Rattle.xdr_core.specs.declared.fault.XdrKind.TheVariants.{TooLong}
use Rattle.xdr_core.proofs.Steps.{bind_ok, guarded_ok, Takes-then, end_of_two}
use Rattle.xdr_core.proofs.LeafLaws.{u64_lawful}
use Rattle.xdr_core.proofs.Opaque.{bytes_again}
use Rattle.xdr_core.proofs.Marks.{bytes_takes}
use Rattle.xdr_core.proofs.Placing.{Placed, Locates, goes_on, bind_locates, located_other, err_is}
use Rattle.xdr_core.proofs.Placing.{bytes_locates, u64_locates}

-- a number of 64 bits has an encoding
u64_within : (v : ℕ) → u64.within v
unfolding u64
u64_within v = tt

u64_sized : (v : ℕ) → v < 2 ^ 64 → u64.sized v
unfolding u64
u64_sized v lt = omega arith

file_lawful : (max : ℕ) → max < 2 ^ 64 → Lawful (file max)
unfolding file
file_lawful max lt = record {
  takes = λ p q v fits e.
      let n = bind_ok (u64.read p) (file_at max p) (v, q) e in
      let s = u64_lawful.takes p n.0.1 n.0.0 fits n.1 in
      let g = guarded_ok (ltb max n.0.0) (fault_at p TooLong) (bytes_at n.0.0 n.0.1) (v, q) n.2 in
      let t = bytes_takes n.0.0 n.0.1 q v s.taken.rest g.1 in
      record {
        taken = subst (λ (k : ℕ). Takes p q (u64.encoding k ++ v)) (sym t.1)
            (Takes-then p n.0.1 q (u64.encoding n.0.0) v s.taken t.0);
        within = subst (λ (k : ℕ). k ≤ max) (sym t.1) (ltb-false _ _ g.0);
        sized = t.2;
      };
  again = λ at v rest within sized.
      let text : List ℕ = u64.encoding (length v) in
      let p : Position = record { at = at; rest = text ++ (v ++ rest) } in
      ap (λ (t : List ℕ). (file max).read (record { at = at; rest = t })) (append_assoc text v rest)
      ∙ ap (λ (r : Reading XdrFault ℕ). r >>= file_at max p)
      (u64_lawful.again at (length v) (v ++ rest) (u64_within (length v)) (u64_sized (length v) (omega arith)))
      ∙ rw (le-ltb max (length v) within) (bytes_again (length v) (at + length text) v rest refl)
      ∙ ap (λ (k : ℕ). Ok (v, record { at = k; rest = rest })) (end_of_two at text v rest _ refl);
  appends = λ out v. ap (λ (t : List ℕ). t ++ v) (u64_lawful.appends out (length v))
      ∙ append_assoc out (u64.encoding (length v)) v;
}

-- ---- offsets of faults

file_located : (p m : Position) (n : ℕ) (fault : XdrFault) (above : Bool) → IsBytes m.rest
    → cond above (Err (fault_at p TooLong)) (bytes_at n m) ≡ Err fault
    → Placed (end_of m) (λ more. cond above (Err (fault_at p TooLong)) (bytes_at n (followed m more))) fault
file_located p m n fault true fits e =
    located_other (end_of m) _ (fault_at p TooLong) fault (λ is. cc) (err_is _ _ e) (λ more. refl)
file_located p m n fault false fits e = bytes_locates n m fault fits e

file_locates : (max : ℕ) → Locates (file max).read
unfolding file
file_locates max =
    bind_locates u64.read (file_at max) u64_locates (goes_on u64_lawful)
    (λ p m n fault fits e. file_located p m n fault (ltb max n) fits e)

-- ---- the laws

pub file_laws : (max : ℕ) → max < 2 ^ 64 → Laws (file max)
file_laws max lt = record { lawful = file_lawful max lt; locates = file_locates max }

files_laws : (n left : ℕ) → left < 2 ^ 64 → Laws (files n left)
unfolding files
files_laws zero left lt = known_laws []
files_laws (suc n) left lt =
    let others : List ℕ → Xdr (List (List ℕ)) = λ v. files n (left - length v) in
    partial_laws (prefix_fields (file left) others)
    (dependent_laws (file_laws left lt) (λ v. files_laws n (left - length v) (omega arith)))

pub start_image_laws : Laws start_image
unfolding start_image
start_image_laws =
    struct_laws image_fields (
    marked_laws (tag_laws (pos 0x534C4931) tt)
    (mark_laws 16777216 (omega arith) & files_laws 22 536870912 (omega arith)))
