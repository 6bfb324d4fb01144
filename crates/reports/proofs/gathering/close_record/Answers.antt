use Rattle.reports.proofs.Closing.{detailed, ungathered}
use Rattle.reports.proofs.gathering.close_record.Goals as goal

pub gather-requires : goal.gather-requires
gather-requires g c =
    detailed c.args.ledger.now.state c.args.text.now c.in-Ok.close c.requires c.in-Ok.ensures.answers
    c.in-Ok.ensures.detail

pub returns-in-Err-gather : goal.returns-in-Err-gather
returns-in-Err-gather g c =
    let s = c.args.ledger.now.state in
    let d = detailed s c.args.text.now c.in-Ok.close c.requires c.in-Ok.ensures.answers c.in-Ok.ensures.detail in
    ungathered g.G.Gather.kind (g.G.Gather.gathers c.args.gathered.now) (g.G.Gather.gathers c.gather.new.self) s
    c.args.text.now c.gather.new.ledger.state c.in-Err-gather.end d.0 d.1.is (c.in-Err-gather.ensures.gathered d.0 d.1)

pub returns-in-Ok-gather : goal.returns-in-Ok-gather
returns-in-Ok-gather g c =
    let s = c.args.ledger.now.state in
    let d = detailed s c.args.text.now c.in-Ok.close c.requires c.in-Ok.ensures.answers c.in-Ok.ensures.detail in
    (d.0, d.1.is, c.in-Ok-gather.ensures.taken, c.in-Ok-gather.ensures.gathered d.0 d.1)
