-- Formats whose second part depends on the value of the first.
use Rattle.std.specs.Prelude.{◌≡◌, [], ◌++◌, Bool, true, false, Ok}
use Rattle.xdr_core.specs.Position.{◌>>=◌}
use Rattle.xdr_core.specs.Format.{Format}

-- a value, and after it what that value says
infixr 9 ◌⨾>◌
abbrev pub ◌⨾>◌ : {F A B : Type 0} → Format F A → (A → Format F B) → Format F (A × B)
f ⨾> g = record {
  encoding = λ v. f.encoding v.0 ++ (g v.0).encoding v.1;
  onto = λ out v. (g v.0).onto (f.onto out v.0) v.1;
  read = λ p. f.read p >>= λ x. (g x.0).read x.1 >>= λ y. Ok ((x.0, y.0), y.1);
  within = λ v. f.within v.0 × (g v.0).within v.1;
  sized = λ v. f.sized v.0 × (g v.0).sized v.1;
}

-- a value that both sides know: it has no bytes
abbrev pub known : {F V : Type 0} → V → Format F V
known value = record {
  encoding = λ v. [];
  onto = λ out v. out;
  read = λ p. Ok (value, p);
  within = λ v. v ≡ value;
  sized = λ v. Unit {0};
}

-- one of two formats, by a test
abbrev pub choice : {F V : Type 0} → Bool → Format F V → Format F V → Format F V
choice true f g = f
choice false f g = g

-- The values of one type as those of another, where some of either are none of the other's: `Has` says which values
-- have an encoding at all.
pub record PartialFields {F A : Type 0} (f : Format F A) (V : Type 0) : Type 1 where
  pub to : A → V
  pub from : V → A
  pub Has : V → Type 0
  pub there : (a : A) → f.within a → (from (to a) ≡ a) × Has (to a)
  pub back : (v : V) → Has v → f.within (from v) → to (from v) ≡ v

abbrev pub partial_of : {F A V : Type 0} → (f : Format F A) → PartialFields f V → Format F V
partial_of f fields = record {
  encoding = λ v. f.encoding (fields.from v);
  onto = λ out v. f.onto out (fields.from v);
  read = λ p. f.read p >>= λ x. Ok (fields.to x.0, x.1);
  within = λ v. fields.Has v × f.within (fields.from v);
  sized = λ v. f.sized (fields.from v);
}
