-- Tallies of all aggregates.
use Rattle.image_rules.proofs.Prelude.{◌≡◌, ap, ℤ, LedgerKey, Aggregate, Adds, tally_in, counted_else}
use Rattle.image_rules.proofs.Prelude.{LedgerEntry, LedgerEntryBody, AccountEntry, EntryMap, pools_in, payers_pay}
use Rattle.image_rules.proofs.Prelude.{CountMap}
use Rattle.image_rules.proofs.Prelude.{for_account, other_owner, subentries_in, sponsored_in_entry, sells, buys}
use Rattle.image_rules.proofs.Prelude.{shares_in}
use Rattle.image_rules.proofs.Prelude.{share_lines, uses}
use Rattle.ledger_types.specs.declared.entry.LedgerEntryBody.TheVariants as body
use Rattle.image_rules.specs.declared.aggregates.Aggregate.TheVariants as aggregate
use Rattle.image_rules.specs.declared.tallies.Tallies.{Tallies}
use Rattle.image_rules.proofs.Counting.{added_none}

pub all_added : (old new : Tallies) (f : Aggregate → LedgerKey → ℤ)
    → Adds old.subentries new.subentries (f aggregate.Subentries)
    → Adds old.sponsoring new.sponsoring (f aggregate.Sponsoring)
    → Adds old.sponsored new.sponsored (f aggregate.Sponsored) → Adds old.selling new.selling (f aggregate.Selling)
    → Adds old.buying new.buying (f aggregate.Buying) → Adds old.shares new.shares (f aggregate.Shares)
    → Adds old.share_lines new.share_lines (f aggregate.ShareLines) → Adds old.uses new.uses (f aggregate.Uses)
    → (which : Aggregate) → Adds (tally_in old which) (tally_in new which) (f which)
all_added old new f a b c d e g h i aggregate.Subentries = a
all_added old new f a b c d e g h i aggregate.Sponsoring = b
all_added old new f a b c d e g h i aggregate.Sponsored = c
all_added old new f a b c d e g h i aggregate.Selling = d
all_added old new f a b c d e g h i aggregate.Buying = e
all_added old new f a b c d e g h i aggregate.Shares = g
all_added old new f a b c d e g h i aggregate.ShareLines = h
all_added old new f a b c d e g h i aggregate.Uses = i

-- an account counts for its sponsors alone
module _ (old : Tallies) (sponsoring : CountMap) (m : EntryMap) (e : LedgerEntry) (a : AccountEntry)
    (is : e.body ≡ body.Account a) where
  abbrev paying : Tallies
  paying = record {
    subentries = old.subentries;
    sponsoring = sponsoring;
    sponsored = old.sponsored;
    selling = old.selling;
    buying = old.buying;
    shares = old.shares;
    share_lines = old.share_lines;
    uses = old.uses;
  }

  abbrev more : Aggregate → LedgerKey → ℤ
  more which k = counted_else (pools_in m) which k e

  pub account_added : Adds old.sponsoring sponsoring (λ k. payers_pay k e)
      → (which : Aggregate) → Adds (tally_in old which) (tally_in paying which) (more which)
  account_added paid =
      all_added old paying more
      (added_none old.subentries (more aggregate.Subentries)
      (λ k. ap (λ (b : LedgerEntryBody). for_account k (other_owner b) (subentries_in b)) is)) paid
      (added_none old.sponsored (more aggregate.Sponsored)
      (λ k. ap (λ (b : LedgerEntryBody). for_account k (other_owner b) (sponsored_in_entry e)) is))
      (added_none old.selling (more aggregate.Selling) (λ k. ap (sells k) is))
      (added_none old.buying (more aggregate.Buying) (λ k. ap (buys k) is))
      (added_none old.shares (more aggregate.Shares) (λ k. ap (shares_in k) is))
      (added_none old.share_lines (more aggregate.ShareLines) (λ k. ap (share_lines k) is))
      (added_none old.uses (more aggregate.Uses) (λ k. ap (uses (pools_in m) k) is))
