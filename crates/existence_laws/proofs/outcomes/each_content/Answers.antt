use Rattle.existence_laws.proofs.Contents.{each_content}
use Rattle.existence_laws.proofs.outcomes.each_content.Goals as goal

pub returns : goal.returns
returns c =
    each_content c.each_close.ensures c.taken_is_closable.ensures c.next_is_closing.ensures c.each_image.ensures
    c.each_content_opens_to_one.ensures.some
