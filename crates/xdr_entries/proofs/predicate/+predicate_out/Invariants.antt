use Rattle.xdr_entries.proofs.Prelude.{◌≡◌, ◌++◌, drop, predicate_below}
use Rattle.std.specs.List.{flat_map, AllByRecursion}
use Rattle.xdr_entries.proofs.predicate.+predicate_out.Given as goal

-- the parts left are put after those that were written
abbrev pub invariant-write_parts-loop-part : goal.invariant-write_parts-loop-part
invariant-write_parts-loop-part l = record {
  written : l.builder ++ flat_map (predicate_below l.levels).encoding (drop l.part-index l.parts)
      ≡ l.initial.builder ++ flat_map (predicate_below l.levels).encoding l.parts;
  fits : AllByRecursion (predicate_below l.levels).within (drop l.part-index l.parts);
}
