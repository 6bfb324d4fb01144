-- The values of a history that only proofs read.
use Rattle.std.specs.Prelude.{List, map}

abbrev pub firsts : {T : Type 0} → List (T × Unit {0}) → List T
firsts {T} items = map (λ (x : T × Unit {0}). x.0) items
