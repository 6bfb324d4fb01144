-- A ledger closes from the first state of a sample, and the image represents it.
use Rattle.sample_laws.proofs.Prelude.{◌≡◌, ℕ, [], ◌∷◌, pos, refl, arith, ints, All-from_recursion, length-sha256}
use Rattle.sample_laws.proofs.Prelude.{key_of, IsPlainAccount, PlainStatesAreLegal, HasFile, Pair, empty_pair}
use Rattle.sample_laws.proofs.Prelude.{IsEncoded, IsClosingState, first_bucket, first_header, first_image, levels_with}
use Rattle.sample_laws.proofs.Prelude.{first_entries, first_state, FirstStatesClose, entry_short}
use Rattle.sample_ledger.specs.xdr_header.Header.{ledger_header}
use Rattle.account_laws.specs.entry_changes.Encodable.{AreEncodable, IsEntryEncodable}
use Rattle.legal_rules.specs.Dated.{AreDated, IsBodyDated}
use Rattle.legal_rules.specs.Headers.{IsHeaderInRange}
use Rattle.legal_rules.specs.Legal.{IsLegal}
use Rattle.sample_ledger.specs.close_rules.Images.{AreFilesOf}
use Rattle.account_laws.specs.close_laws.Images.{ImagesRepresentStates}
use Rattle.sample_ledger.proofs.Bytes.{hash_fits}
use Rattle.sample_ledger.proofs.Headers.{header_within, header_sized}
use Rattle.sample_laws.proofs.FirstEntries.{each_first, first_lumens}
use Rattle.sample_laws.proofs.FirstAccounts.{dated_account, plain_account}
use Rattle.sample_laws.proofs.FirstLevels.{first_marks, first_represent}
use Rattle.sample_laws.proofs.FirstFiles.{first_has_file, first_files_len}
use Rattle.sample_ledger.proofs.bucket_core_proofs.Files.{nothing_has_file}

header_in_range : (seed : ℕ) → IsHeaderInRange (first_header seed)
header_in_range seed = record {
  version = (omega arith, omega arith);
  seq_low = omega arith;
  seq_high = omega arith;
  base_fee = omega arith;
  base_reserve = omega arith;
  total_coins = omega (arith, ints);
  fee_pool = omega (arith, ints);
  id_pool = omega arith;
  flags = omega arith;
}

header_encoded : (seed : ℕ) → IsEncoded ledger_header (first_header seed)
header_encoded seed = record {
  within = header_within _ (length-sha256 _);
  sized = header_sized _ (hash_fits _);
}

legal : PlainStatesAreLegal → (seed : ℕ) → IsLegal (first_header seed) (first_entries seed)
legal plain_states seed =
    plain_states (first_header seed) (first_entries seed) (header_in_range seed)
    (each_first (λ k e. key_of e ≡ k) seed (λ a below. refl))
    (each_first (λ k e. IsPlainAccount e) seed (λ a below. plain_account seed a))
    (omega (arith, ints, first_lumens seed))

dated : (seed : ℕ) → AreDated (first_header seed) (first_entries seed)
dated seed =
    let h = first_header seed in
    each_first (λ k e. IsBodyDated h.ledger_version h.ledger_seq h.scp_value.close_time e.body) seed
    (λ a below. dated_account seed a h.ledger_version h.ledger_seq h.scp_value.close_time)

encodable : (seed : ℕ) → AreEncodable (first_entries seed)
encodable seed =
    each_first (λ k e. IsEntryEncodable e) seed (λ a below.
    let entry = entry_short seed a below in
    record { within = entry.within; sized = entry.sized; short = omega (arith, entry.short) })

closing : PlainStatesAreLegal → (seed : ℕ) → IsClosingState (first_state seed)
closing plain_states seed = record {
  legal = legal plain_states seed;
  dated = dated seed;
  count = refl;
  marked = first_marks seed;
  existing = first_represent seed;
  hash = refl;
  header = header_encoded seed;
  entries = encodable seed;
  files = omega (arith, first_files_len seed);
}

-- ---- the image

Have : Pair → Type 0
Have pair = HasFile pair.curr × HasFile pair.snap

files_of_levels : (seed : ℕ) → AreFilesOf (levels_with (first_bucket seed)) (first_image seed).files
unfolding Have
files_of_levels seed =
    let none : Have empty_pair = (nothing_has_file, nothing_has_file) in
    record {
      count = refl;
      have = All-from_recursion Have (levels_with (first_bucket seed)) (
        (first_has_file seed, nothing_has_file),
        (none, (none, (none, (none, (none, (none, (none, (none, (none, (none, tt)))))))))),
      );
      are = refl;
    }

pub first_states_close : PlainStatesAreLegal → ImagesRepresentStates → FirstStatesClose
first_states_close plain_states images seed fits = record {
  closing = closing plain_states seed;
  judged = (images (first_state seed) (first_image seed) (closing plain_states seed)
      (record { header = refl; files = files_of_levels seed })).1;
}
