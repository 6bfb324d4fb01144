-- The hashes of earlier levels that a header keeps (BucketManagerImpl::calculateSkipValues in stellar-core).
use Rattle.std.specs.Prelude.{ℕ, ◌-◌, ◌%◌, nat_eq, nat_lt, Bool, ◌&&◌, List, [], ◌∷◌, get_or, if◌then◌else◌}
use Rattle.ledger_types.specs.declared.ids.Hash.{Hash}
use Rattle.ledger_types.specs.declared.header.LedgerHeader.{LedgerHeader}

-- every 50 ledgers the first hash is set; each longer time moves one hash further
abbrev pub sets_first : ℕ → Bool
sets_first seq = nat_eq (seq % 50) 0

abbrev pub moves_first : ℕ → Bool
moves_first seq = sets_first seq && nat_lt 50 seq && nat_eq ((seq - 50) % 5000) 0

abbrev pub moves_second : ℕ → Bool
moves_second seq = moves_first seq && nat_lt 5050 seq && nat_eq ((seq - 5050) % 50000) 0

abbrev pub moves_third : ℕ → Bool
moves_third seq = moves_second seq && nat_lt 55050 seq && nat_eq ((seq - 55050) % 500000) 0

abbrev pub hash_at : List Hash → ℕ → Hash
hash_at hashes i = get_or hashes i (record { 0 = [] })

-- from the header's own number, its list of levels, and the skip list of the header before
abbrev pub skip_list_after : ℕ → (list_hash : Hash) → List Hash → List Hash
skip_list_after seq list_hash old =
    (if sets_first seq then list_hash else hash_at old 0)
    ∷ (if moves_first seq then hash_at old 0 else hash_at old 1)
    ∷ (if moves_second seq then hash_at old 1 else hash_at old 2)
    ∷ (if moves_third seq then hash_at old 2 else hash_at old 3)
    ∷ []

-- a header with the hash of its levels
abbrev pub finished : LedgerHeader → Hash → LedgerHeader
finished header list_hash = record header {
  bucket_list_hash = list_hash;
  skip_list = skip_list_after header.ledger_seq list_hash header.skip_list;
}
