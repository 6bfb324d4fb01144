use Rattle.close_laws.proofs.StateImages.{images_represent_states}
use Rattle.close_laws.proofs.images.images_represent_states.Goals as goal

pub returns : goal.returns
returns c = images_represent_states
