use Rattle.std.proofs.Common.{◌≡◌, ◌<◌, Option, Some, None, map, sym, ap, subst, ◌∙◌}
use Rattle.ledger_types.specs.declared.bucket.BucketEntry.{BucketEntry}
use Rattle.ledger_types.specs.declared.key.LedgerKey.{LedgerKey}
use Rattle.entry_map.specs.EntryMap.{IsNextUpTo}
use Rattle.bucket_levels.specs.Levels.{pair_of}
use Rattle.bucket_levels.specs.Meaning.{files_of}
use Rattle.level_pages.specs.Above.{count_above, key_at}
use Rattle.level_pages.specs.Newest.{entry_in}
use Rattle.level_pages.specs.Next.{IsLeast}
use Rattle.level_pages.proofs.Afters.{says_of, said, none_next, behind_next, some_next, passed}
use Rattle.level_pages.proofs.Counting.{fewer_above, key_of_text}
use Rattle.level_pages.proofs.after.entry_after.Goals as goal

pub loop-item-init : goal.loop-item-init
loop-item-init c =
    let here = c.requires.0 in
    record {
      here = here;
      is = c.requires.1;
      follows = λ m k exists text last r next.
          let same : here ≡ k =
          sym (key_of_text c.args.text.now here c.requires.1) ∙ key_of_text c.args.text.now k text in
          subst (λ (q : LedgerKey). IsNextUpTo m q last r) same next;
    }

pub returns-in_default : goal.returns-in_default
returns-in_default c = λ m k end exists text ends.
    let pairs = map pair_of c.args.pairs.now in
    let way = c.loop-item.invariant in
    way.follows m k exists text end None (none_next pairs m exists way.here end
    (subst (λ (o : Option (LedgerKey × BucketEntry)). IsLeast (says_of pairs) way.here o) c.in_default.is
    (c.least_above.ensures way.here way.is)))

pub returns-then-is_behind : goal.returns-then-is_behind
returns-then-is_behind c = λ m k end exists text ends.
    let pairs = map pair_of c.args.pairs.now in
    let way = c.loop-item.invariant in
    way.follows m k exists text end None (behind_next pairs m exists way.here end c.in-Some.item
    (subst (λ (o : Option (LedgerKey × BucketEntry)). IsLeast (says_of pairs) way.here o) c.in-Some.is
    (c.least_above.ensures way.here way.is))
    (sym (c.is_behind.ensures end ends) ∙ c.if-is_behind.true))

pub returns-in-Some-entry_in : goal.returns-in-Some-entry_in
returns-in-Some-entry_in c = λ m k end exists text ends.
    let pairs = map pair_of c.args.pairs.now in
    let way = c.loop-item.invariant in
    way.follows m k exists text end (Some c.in-Some-entry_in.entry)
    (some_next pairs m exists way.here end c.in-Some.item c.in-Some-entry_in.entry
    (subst (λ (o : Option (LedgerKey × BucketEntry)). IsLeast (says_of pairs) way.here o) c.in-Some.is
    (c.least_above.ensures way.here way.is))
    (ap entry_in (sym c.in_ok-read.ensures) ∙ sym c.entry_in.ensures ∙ c.in-Some-entry_in.is))

pub loop-item-smaller : goal.loop-item-smaller
loop-item-smaller c =
    let pairs = map pair_of c.args.pairs.now in
    let way = c.loop-item.invariant in
    let x = c.in-Some.item in
    let least = subst (λ (o : Option (LedgerKey × BucketEntry)). IsLeast (says_of pairs) way.here o) c.in-Some.is
    (c.least_above.ensures way.here way.is) in
    let old = key_of_text c.loop-item.at.now way.here way.is in
    let new = key_of_text c.key-at.result.now x.0 c.key-at.ensures in
    subst (λ (k : LedgerKey). count_above k (files_of pairs) < count_above (key_at c.loop-item.at.now) (files_of pairs))
    (sym new)
    (subst (λ (k : LedgerKey). count_above x.0 (files_of pairs) < count_above k (files_of pairs)) (sym old)
    (fewer_above way.here x.0 least.above (files_of pairs) (said (says_of pairs) way.here x least)))

pub loop-item-preserved : goal.loop-item-preserved
loop-item-preserved c =
    let pairs = map pair_of c.args.pairs.now in
    let way = c.loop-item.invariant in
    record {
      here = c.in-Some.item.0;
      is = c.key-at.ensures;
      follows = λ m k exists text last r next.
          way.follows m k exists text last r (passed pairs m exists way.here last c.in-Some.item r
          (subst (λ (o : Option (LedgerKey × BucketEntry)). IsLeast (says_of pairs) way.here o) c.in-Some.is
          (c.least_above.ensures way.here way.is))
          (ap entry_in (sym c.in_ok-read.ensures) ∙ sym c.entry_in.ensures ∙ c.in_default-entry_in.is) next);
    }
