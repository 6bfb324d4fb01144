-- The hash of a set without transactions.
use Rattle.archive_files.proofs.Prelude.{Hash, ap, append-nil, empty_set_hash, hash_of, sym, ◌≡◌}
use Rattle.fee_rules.specs.Ranking.{first_ranked}
use Rattle.fee_rules.specs.SetHash.{hash_of_set}

-- it is that of the hash of the ledger before, alone
pub hashes_previous : (previous : Hash) → hash_of previous.0 ≡ empty_set_hash previous
unfolding hash_of_set first_ranked
hashes_previous previous = ap hash_of (sym (append-nil previous.0))
