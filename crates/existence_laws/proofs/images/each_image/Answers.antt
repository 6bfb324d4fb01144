use Rattle.existence_laws.proofs.Judging.{each_image}
use Rattle.existence_laws.proofs.images.each_image.Goals as goal

pub returns : goal.returns
returns c = each_image
