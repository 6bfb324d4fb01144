use Rattle.xdr_entries.proofs.Prelude.{rules}
use Rattle.xdr_entries.proofs.Levels.{some_level, within_one_level_more}
use Rattle.xdr_entries.proofs.predicate.+predicate_out.Goals as goal

pub write_below-write_level-requires : goal.write_below-write_level-requires
write_below-write_level-requires t c = (
  search rules,
  within_one_level_more c.args.levels c.args.value.now
      (some_level c.args.levels c.args.value.now c.requires) c.requires,
)
