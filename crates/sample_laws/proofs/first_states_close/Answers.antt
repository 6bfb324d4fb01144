use Rattle.sample_laws.proofs.FirstStates.{first_states_close}
use Rattle.sample_laws.proofs.first_states_close.Goals as goal

pub returns : goal.returns
returns c = first_states_close c.plain_states_are_legal.ensures c.images_represent_states.ensures
