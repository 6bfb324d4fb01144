-- The hash of the levels, which is in the header (BucketLevel::getHash and BucketList::getHash in stellar-core).
use Rattle.std.specs.Prelude.{List, ◌++◌}
use Rattle.std.specs.List.{flat_map}
use Rattle.ledger_types.specs.declared.ids.Hash.{Hash}
use Rattle.bucket_core.specs.hash_ids.Ids.{hash_of}
use Rattle.bucket_core.specs.Bucket.{Contents}
use Rattle.bucket_core.specs.File.{file_of}
use Rattle.bucket_core.specs.Hash.{file_hash}
use Rattle.bucket_levels.specs.Pairs.{Pair}

abbrev pub bucket_hash : Contents → Hash
bucket_hash contents = file_hash (file_of contents)

-- of the hash of curr and that of snap
abbrev pub level_hash : Pair → Hash
level_hash pair = hash_of ((bucket_hash pair.curr).0 ++ (bucket_hash pair.snap).0)

-- of the hashes of all levels, from the first one on
abbrev pub list_hash : List Pair → Hash
list_hash pairs = hash_of (flat_map (λ pair. (level_hash pair).0) pairs)
