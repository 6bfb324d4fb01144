use Rattle.replay.proofs.Prelude.{refl, seen, seen_volume, network_id_of}
use Rattle.replay.proofs.Initing.{unread_made, unread_no_write, kept_made, kept_no_write}
use Rattle.replay.proofs.init.make.Goals as goal

pub keep_image-requires : goal.keep_image-requires
keep_image-requires g c = c.in-Ok.ensures.within

pub returns-in-Ok : goal.returns-in-Ok
returns-in-Ok g c =
    let network = network_id_of c.args.passphrase.now in
    let vol = seen_volume g.V.Volume.reports g.V.Volume.disk g.V.Volume.faults c.args.vol.now c.keep_image.new.vol in
    record {
      made = kept_made network
          (seen g.I.Source.left g.I.Source.faults c.args.input.now c.read_complete.new.input) vol c.in-Ok.image
          c.keep_image.result c.in-Ok.ensures c.keep_image.ensures;
      no_write = kept_no_write network c.in-Ok.image vol c.keep_image.result c.keep_image.ensures;
    }

pub returns-in-Err : goal.returns-in-Err
returns-in-Err g c =
    let input = seen g.I.Source.left g.I.Source.faults c.args.input.now c.read_complete.new.input in
    record {
      made = unread_made (network_id_of c.args.passphrase.now) input
          (seen_volume g.V.Volume.reports g.V.Volume.disk g.V.Volume.faults c.args.vol.now c.args.vol.now) refl
          c.in-Err.end c.in-Err.ensures;
      no_write = unread_no_write input c.in-Err.end c.in-Err.ensures;
    }
