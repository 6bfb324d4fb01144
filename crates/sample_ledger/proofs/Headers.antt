-- The header of the image has an encoding.
use Rattle.sample_ledger.proofs.Prelude.{◌≡◌, length, replicate, pos, refl, arith, ints, IsBytes, u32, u64, i64, fixed}
use Rattle.sample_ledger.proofs.Prelude.{list, extension, times, Hash, hash, ledger_header, stellar_value, counts}
use Rattle.sample_ledger.proofs.Prelude.{limits, zero_hash, header_with}
use Rattle.sample_ledger.proofs.Bytes.{bytes_listed}

zero_within : hash.within zero_hash
unfolding hash fixed
zero_within = refl

pub header_within : (levels : Hash) → length levels.0 ≡ 32 → ledger_header.within (header_with levels)
unfolding ledger_header stellar_value counts limits hash fixed u32 u64 i64 list extension times
header_within levels long =
    let zeros = zero_within in (
      tt,
      (
        zeros,
        (
          (zeros, (tt, ((omega arith, tt), tt))),
          (
            zeros,
            (
              long,
              (tt, (tt, (tt, (tt, (tt, (tt, (tt, (tt, ((refl, (zeros, (zeros, (zeros, (zeros, tt))))), tt))))))))),
            ),
          ),
        ),
      ),
    )

-- ---- bytes and numbers

zeros_sized : hash.sized zero_hash
unfolding hash fixed
zeros_sized = bytes_listed (replicate 32 0) (omega arith)

pub header_sized : (levels : Hash) → IsBytes levels.0 → ledger_header.sized (header_with levels)
unfolding ledger_header stellar_value counts limits hash fixed u32 u64 i64 list extension times
header_sized levels fits =
    let zeros = zeros_sized in (
      omega arith,
      (
        zeros,
        (
          (zeros, (omega arith, (tt, tt))),
          (
            zeros,
            (
              fits,
              (
                omega arith,
                (
                  grind (arith, ints),
                  (
                    grind (arith, ints),
                    (
                      omega arith,
                      (
                        omega arith,
                        (omega arith, (omega arith, (omega arith, ((zeros, (zeros, (zeros, (zeros, tt)))), tt)))),
                      ),
                    ),
                  ),
                ),
              ),
            ),
          ),
        ),
      ),
    )
