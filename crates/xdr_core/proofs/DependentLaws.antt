-- The laws of formats whose second part depends on the value of the first.
use Rattle.std.proofs.Common.{ℕ, ◌+◌, Bool, true, false, List, ◌++◌, length, Ok, refl, sym, ap, subst, ◌∙◌}
use Rattle.std.proofs.Common.{append_assoc, arith}
use Rattle.std.proofs.lemmas.List.{append-nil}
use Rattle.xdr_core.specs.declared.fault.XdrFault.{XdrFault}
use Rattle.xdr_core.specs.Position.{Position, Reading, ◌>>=◌}
use Rattle.xdr_core.specs.Format.{Format, Takes, Encodes, Lawful}
use Rattle.xdr_core.specs.Xdr.{Xdr}
use Rattle.xdr_core.proofs.Steps.{bind_ok, ok_is, Takes-then, end_of_two}
use Rattle.xdr_core.proofs.Placing.{goes_on, bind_locates, map_locates}
use Rattle.xdr_core.proofs.FormatLaws.{Laws}
use Rattle.xdr_core.specs.Dependent.{◌⨾>◌, known, choice, PartialFields, partial_of}

-- ---- one after another

pub dependent_law : {F A B : Type 0} {f : Format F A} {g : A → Format F B} → Lawful f → ((a : A) → Lawful (g a))
    → Lawful (f ⨾> g)
dependent_law {F} {A} {B} {f} {g} first second = record {
  takes = λ p q v fits e.
      let a = bind_ok (f.read p) (λ x. (g x.0).read x.1 >>= λ y. Ok ((x.0, y.0), y.1)) (v, q) e in
      let b = bind_ok ((g a.0.0).read a.0.1) (λ y. Ok ((a.0.0, y.0), y.1)) (v, q) a.2 in
      let s = first.takes p a.0.1 a.0.0 fits a.1 in
      let t = (second a.0.0).takes a.0.1 b.0.1 b.0.0 s.taken.rest b.1 in
      subst (λ (x : (A × B) × Position). Encodes (f ⨾> g) p x.1 x.0) (ok_is {F = F} ((a.0.0, b.0.0), b.0.1) (v, q) b.2)
      (record {
        taken = Takes-then p a.0.1 b.0.1 (f.encoding a.0.0) ((g a.0.0).encoding b.0.0) s.taken t.taken;
        within = (s.within, t.within);
        sized = (s.sized, t.sized);
      });
  again = λ at v rest within sized.
      ap (λ (t : List ℕ). (f ⨾> g).read (record { at = at; rest = t }))
      (append_assoc (f.encoding v.0) ((g v.0).encoding v.1) rest)
      ∙ ap (λ (r : Reading F A). r >>= λ x. (g x.0).read x.1 >>= λ y. Ok ((x.0, y.0), y.1))
      (first.again at v.0 ((g v.0).encoding v.1 ++ rest) within.0 sized.0)
      ∙ ap (λ (r : Reading F B). r >>= λ y. Ok ((v.0, y.0), y.1))
      ((second v.0).again (at + length (f.encoding v.0)) v.1 rest within.1 sized.1)
      ∙ ap (λ (k : ℕ). Ok (v, record { at = k; rest = rest }))
      (end_of_two at (f.encoding v.0) ((g v.0).encoding v.1) rest _ refl);
  appends = λ out v.
      (second v.0).appends (f.onto out v.0) v.1 ∙ ap (λ (t : List ℕ). t ++ (g v.0).encoding v.1) (first.appends out v.0)
      ∙ append_assoc out (f.encoding v.0) ((g v.0).encoding v.1);
}

pub dependent_laws : {A B : Type 0} {f : Xdr A} {g : A → Xdr B} → Laws f → ((a : A) → Laws (g a)) → Laws (f ⨾> g)
dependent_laws {A} {B} {f} {g} first second = record {
  lawful = dependent_law first.lawful (λ a. (second a).lawful);
  locates =
      bind_locates f.read (λ _ x. (g x.0).read x.1 >>= λ y. Ok ((x.0, y.0), y.1)) first.locates (goes_on first.lawful)
      (λ p m x fault fits e.
      map_locates (g x).read (λ y. ((x, y.0), y.1)) (second x).locates m fault fits e);
}

-- ---- what both sides know

pub known_law : {F V : Type 0} (value : V) → Lawful (known {F = F} value)
known_law {F} {V} value = record {
  takes = λ p q v fits e.
      subst (λ (x : V × Position). Encodes (known {F = F} value) p x.1 x.0) (ok_is {F = F} (value, p) (v, q) e)
      (record { taken = record { parts = refl; at = omega arith; rest = fits }; within = refl; sized = tt });
  again = λ at v rest within sized.
      ap (λ (x : V). Ok (x, record { at = at; rest = rest })) (sym within)
      ∙ ap (λ (k : ℕ). Ok (v, record { at = k; rest = rest })) (omega arith);
  appends = λ out v. sym (append-nil out);
}

pub known_laws : {V : Type 0} (value : V) → Laws (known {F = XdrFault} value)
known_laws value = record { lawful = known_law value; locates = λ p fault fits e. absurd cc }

-- ---- one of two

pub choice_laws : {V : Type 0} (test : Bool) {f g : Xdr V} → Laws f → Laws g → Laws (choice test f g)
choice_laws true first second = first
choice_laws false first second = second

-- ---- the values of another type

pub partial_law : {F A V : Type 0} {f : Format F A} (fields : PartialFields f V) → Lawful f
    → Lawful (partial_of f fields)
partial_law {F} {A} {V} {f} fields law = record {
  takes = λ p q v fits e.
      let a = bind_ok (f.read p) (λ x. Ok (fields.to x.0, x.1)) (v, q) e in
      let s = law.takes p a.0.1 a.0.0 fits a.1 in
      let there = fields.there a.0.0 s.within in
      subst (λ (x : V × Position). Encodes (partial_of f fields) p x.1 x.0)
      (ok_is {F = F} (fields.to a.0.0, a.0.1) (v, q) a.2) (record {
        taken = subst (λ (x : A). Takes p a.0.1 (f.encoding x)) (sym there.0) s.taken;
        within = (there.1, subst f.within (sym there.0) s.within);
        sized = subst f.sized (sym there.0) s.sized;
      });
  again = λ at v rest within sized.
      ap (λ (r : Reading F A). r >>= λ x. Ok (fields.to x.0, x.1)) (law.again at (fields.from v) rest within.1 sized)
      ∙ ap (λ (x : V). Ok (x, record { at = at + length (f.encoding (fields.from v)); rest = rest }))
      (fields.back v within.0 within.1);
  appends = λ out v. law.appends out (fields.from v);
}

pub partial_laws : {A V : Type 0} {f : Xdr A} (fields : PartialFields f V) → Laws f → Laws (partial_of f fields)
partial_laws {A} {V} {f} fields laws = record {
  lawful = partial_law fields laws.lawful;
  locates = map_locates f.read (λ x. (fields.to x.0, x.1)) laws.locates;
}
