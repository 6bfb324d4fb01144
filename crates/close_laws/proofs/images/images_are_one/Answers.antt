use Rattle.close_laws.proofs.OneImage.{images_are_one}
use Rattle.close_laws.proofs.images.images_are_one.Goals as goal

pub returns : goal.returns
returns c = images_are_one
