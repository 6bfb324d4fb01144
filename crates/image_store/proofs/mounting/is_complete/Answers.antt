use Rattle.image_store.proofs.Prelude.{refl, sym, rules, length, nat_eq, IsBytes}
use Rattle.image_store.proofs.Complete.{complete_reported}
use Rattle.image_store.proofs.mounting.is_complete.Goals as goal

pub returns-in-Ok-clause-entire : goal.returns-in-Ok-clause-entire
returns-in-Ok-clause-entire c =
    let fits : IsBytes c.args.bytes.now = search rules in
    complete_reported c.args.bytes.now fits c.in-Ok.end (sym c.in-Ok.ensures)
    (nat_eq c.in-Ok.end (length c.args.bytes.now)) refl
