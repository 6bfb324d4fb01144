use Rattle.image_rules.proofs.Prelude.{on_ok_weaker, pools_in, counted_else}
use Rattle.image_rules.proofs.Tallying.{all_added}
use Rattle.image_rules.proofs.tallies.add_each.Goals as goal

pub returns : goal.returns
returns c =
    on_ok_weaker c.add_entry-8.result
    (all_added c.args.tallies.now
    (record {
      subentries = c.add_entry.new.tally;
      sponsoring = c.add_entry-2.new.tally;
      sponsored = c.add_entry-3.new.tally;
      selling = c.add_entry-4.new.tally;
      buying = c.add_entry-5.new.tally;
      shares = c.add_entry-6.new.tally;
      share_lines = c.add_entry-7.new.tally;
      uses = c.add_entry-8.new.tally;
    })
    (λ which k. counted_else (pools_in c.args.entries.now) which k c.args.entry.now) c.in_ok-add_entry.ensures
    c.in_ok-add_entry-2.ensures c.in_ok-add_entry-3.ensures c.in_ok-add_entry-4.ensures c.in_ok-add_entry-5.ensures
    c.in_ok-add_entry-6.ensures c.in_ok-add_entry-7.ensures) c.add_entry-8.ensures
