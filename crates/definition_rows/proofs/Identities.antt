-- Ids that the networks publish, and hashes that another SHA-256 makes of preimages laid out by hand. The contracts of
-- hash_ids name these definitions.
use Rattle.definition_rows.proofs.Prelude.{◌≡◌, refl, ℕ, pos, List, [], ◌∷◌, replicate, Bool, true, ◌&&◌, codes}
use Rattle.definition_rows.proofs.Prelude.{bytes_eq, sha256, first_words, schedule, rounds, compress, hash_after}
use Rattle.definition_rows.proofs.Prelude.{digest_bytes, AccountId, Hash, Asset, Native, Alphanum4, Alphanum12, u32}
use Rattle.definition_rows.proofs.Prelude.{i32, i64, fixed, constant, account_id, hash, asset, pool_params}
use Rattle.hash_ids.specs.Ids.{hash_of, network_id_of, tx_hash_of, set_hash_of, balance_id_of, revoke_id_of, pool_id_of}
use Rattle.definition_rows.proofs.Rows.{hex}

-- a hash has these bytes
unfoldable is_hash : Hash → List ℕ → Bool
unfolding sha256 first_words schedule rounds compress hash_after digest_bytes hex
is_hash made expected = bytes_eq made.0 expected

abbrev public_network : List ℕ
public_network = hex "7ac33997544e3175d266bd022439b22cdb16508c01163f26e5cb2a3e1045a979"

-- The hash of a transaction is of the public network's id, 00000002 and "transaction"; "abc" is of FIPS 180-4.
hashes_are_those_of_other_programs : (
    is_hash (network_id_of (codes "Public Global Stellar Network ; September 2015")) public_network
    && is_hash (network_id_of (codes "Test SDF Network ; September 2015"))
    (hex "cee0302d59844d32bdca915c8203dd44b33fbb7edc19051ea37abedf28ecd472")
    && is_hash (hash_of (replicate 64 0)) (hex "f5a5fd42d16a20302798ef6ed309979b43003d2320d9f0e8ea9831a92759fb4b")
    && is_hash (tx_hash_of (record { 0 = public_network }) 2 (codes "transaction"))
    (hex "66133714e62c09916623ee73db7f4f210cc9b8a96f9e6c2d5ea068b90da49c73")
    && is_hash (hash_of (codes "abc")) (hex "ba7816bf8f01cfea414140de5dae2223b00361a396177a9cb410ff61f20015ad")) ≡ true
unfolding is_hash u32
hashes_are_those_of_other_programs = refl

-- GA7QYNF7SOWQ3GLR2BGMZEHXAVIRZA4KVWLTJJFC7MGXUA74P7UJVSGZ
abbrev source : AccountId
source = record { 0 = hex "3f0c34bf93ad0d9971d04ccc90f705511c838aad9734a4a2fb0d7a03fc7fe89a" }

-- issued by GB7TAYRUZGE6TVT7NHP5SMIZRNQA6PLM423EYISAOAP3MKYIQMVYP2JO
abbrev pesos : Asset
pesos = Alphanum4 (codes "ARST")
    (record { 0 = hex "7f306234c989e9d67f69dfd931198b600f3d6ce6b64c2240701fb62b08832b87" })

-- issued by GCEZWKCA5VLDNRLN3RPRJMRZOX3Z6G5CHCGSNFHEYVXM3XOJMDS674JZ
abbrev dollars : Asset
dollars = Alphanum4 (hex "55534400")
    (record { 0 = hex "899b2840ed5636c56ddc5f14b23975f79f1ba2388d2694e4c56ecdddc960e5ef" })

abbrev euros : Asset
euros = Alphanum12 (hex "455552544f4b454e00000000") source

abbrev pool : List ℕ
pool = hex "dd7b1ab831c273310ddbec6f97870aa83c2fbd78ce22aded37ecbf4f3380fac7"

-- The preimages are
-- 00000006, 00000000 and the source, 00000000000004d3 and 00000000;
-- 00000007, 00000000 and the source, 0000000500000007, 00000003, the pool above, and dollars as 00000001, "USD" and a
-- zero byte, and 00000000 and their issuer;
-- 00000000, pesos and dollars, each its arm, its code, and 00000000 and its issuer, and 0000001e;
-- 00000000, lumens as 00000000, euros as 00000002, "EURTOKEN" and four zero bytes, and 00000000 and their issuer, and
-- 0000001e.
ids_are_hashes_of_their_preimages : (
    is_hash (balance_id_of source (pos 1235) 0)
    (hex "536af35c666a28d26775008321655e9eda2039154270484e3f81d72c66d5c26f")
    && is_hash (revoke_id_of source (pos 0x500000007) 3 (record { 0 = pool }) dollars)
    (hex "4c5a5f9de13b66c196693106c4faf0e317e67415a53c548632ad80c678386c39")
    && is_hash (pool_id_of pesos dollars) pool
    && is_hash (pool_id_of Native euros)
    (hex "1484e37f0e7e26231ab717cb29485222f3f0485a7ba8ddcd1ddfd0862e078aba")) ≡ true
unfolding is_hash account_id asset hash pool_params constant u32 i32 i64 fixed
ids_are_hashes_of_their_preimages = refl

-- 32 bytes d4, and the envelopes after them
a_set_is_hashed_after_the_ledger_before_it : (
    is_hash (set_hash_of (record { 0 = replicate 32 0xd4 }) [])
    (hex "9559aa55ae8c13ddea0cb239f21bd88e462c0a572c911f811cd3ea6a17760bd8")
    && is_hash (set_hash_of (record { 0 = replicate 32 0xd4 }) (codes "first" ∷ codes "second one" ∷ []))
    (hex "8f734eadc4898cfa0fdd9d6f07030ef2687ea99b1fb0cc4031c545d30bfe3d31")) ≡ true
unfolding is_hash
a_set_is_hashed_after_the_ledger_before_it = refl
