use Rattle.image_store.proofs.OneOpening.{openings_are_one}
use Rattle.image_store.proofs.EachOpening.{each_opens}
use Rattle.image_store.proofs.laws.each_content_opens_to_one.Goals as goal

pub returns-clause-one : goal.returns-clause-one
returns-clause-one c = openings_are_one

pub returns-clause-some : goal.returns-clause-some
returns-clause-some c = each_opens
