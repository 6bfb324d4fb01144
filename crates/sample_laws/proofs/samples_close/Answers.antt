use Rattle.sample_laws.proofs.GoingOn.{samples_close}
use Rattle.sample_laws.proofs.samples_close.Goals as goal

pub returns : goal.returns
returns c =
    samples_close c.first_states_close.ensures c.records_are_written.ensures c.taken_is_closable.ensures
    c.next_is_closing.ensures c.closes_keep_accounts.ensures
