use Rattle.level_entries.proofs.Prelude.{option_map, IfOk-weaker}
use Rattle.level_entries.proofs.Newest.{put_over}
use Rattle.level_entries.proofs.levels.with_file.Goals as goal

pub returns : goal.returns
returns c files n =
    IfOk-weaker c.put_over.result _ _ (λ next h.
    put_over c.args.bucket.now files c.args.row.items c.in_ok-newer.newer.items n c.in_ok-newer.ensures
    (option_map (λ v. v.items) next) h) c.put_over.ensures
