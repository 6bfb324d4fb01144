use Rattle.op_offers.proofs.Prelude.{sym, subst, IsInRangeAt, asked_in}
use Rattle.op_offers.proofs.Ready.{gives_range}
use Rattle.op_offers.proofs.wanted.wanted_fault.Goals as goal

pub is_short-requires : goal.is_short-requires
is_short-requires g c =
    subst (IsInRangeAt c.args.entries.now.current) (sym c.gives_at.ensures)
    (gives_range (asked_in c.args.asked.now) c.args.entries.now.current c.requires.sellable)
