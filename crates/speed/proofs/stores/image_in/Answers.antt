use Rattle.std.proofs.Common.{rules}
use Rattle.xdr_core.specs.Format.{IsBytes}
use Rattle.speed.proofs.stores.image_in.Goals as goal

pub returns-in-Ok : goal.returns-in-Ok
returns-in-Ok c =
    let bytes : IsBytes c.new-cursor.result.rest = search rules in
    let law = c.reading_and_encoding_agree.ensures.start_images in
    (law.takes c.new-cursor.result c.read_start_image.new.cursor c.in-Ok.image bytes c.in-Ok.ensures).within
