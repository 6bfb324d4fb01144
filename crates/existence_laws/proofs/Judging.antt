-- An image is judged.
use Rattle.existence_laws.proofs.Prelude.{◌≡◌, inl, inr, ◌*◌, ◌^◌, pos, List, Option, Some, None, Result, Ok, Err, All}
use Rattle.existence_laws.proofs.Prelude.{refl, Hash, LedgerHeader, IsBytes, StartImage, EntryMap, Pair, list_hash}
use Rattle.existence_laws.proofs.Prelude.{ImageFault, ImageRule, ClosingState, entry_rules, header_in, AreFieldsInRange}
use Rattle.existence_laws.proofs.Prelude.{HasHeader, HasLevels, HasEntries, state_of, BreaksEntries, IsJudged}
use Rattle.existence_laws.proofs.Prelude.{EachImage, entries_of}
use Rattle.close_laws.proofs.bucket_levels_proofs.Represented.{represented}
use Rattle.close_laws.specs.ledger_types.contracts.ids.Hash as hash
use Rattle.close_laws.specs.legal_rules.Headers.{header_flags}
use Rattle.close_laws.specs.close_rules.declared.image_fault.ImageFault.TheVariants as fault
use Rattle.close_laws.specs.close_rules.declared.image_fault.ImageRule.TheVariants as rule
use Rattle.existence_laws.proofs.Decided.{Decided, decided_as, both, below, below_int, same_value}
use Rattle.existence_laws.proofs.FilesOfLevels.{some_files}
use Rattle.existence_laws.proofs.Marks.{well_marked, are_keyed}
use Rattle.existence_laws.proofs.Rules.{IsOfEntries, FirstOf, first_of}

-- ---- the first rules

fields_in_range : (h : LedgerHeader) → Decided (AreFieldsInRange h)
fields_in_range h =
    decided_as (λ f. record {
      seq_low = f.0;
      seq_high = f.1.0;
      base_fee = f.1.1.0;
      base_reserve = f.1.1.1.0;
      total_coins = f.1.1.1.1.0;
      fee_pool = f.1.1.1.1.1.0;
      id_pool = f.1.1.1.1.1.1.0;
      flags = f.1.1.1.1.1.1.1;
    })
    (λ r.
    (r.seq_low, (r.seq_high, (r.base_fee, (r.base_reserve, (r.total_coins, (r.fee_pool, (r.id_pool, r.flags))))))))
    (both (below 1 h.ledger_seq) (both (below h.ledger_seq 2147483647) (both (below 1 h.base_fee)
    (both (below 1 h.base_reserve) (both (below_int (pos 0) h.total_coins) (both (below_int (pos 0) h.fee_pool)
    (both (below h.id_pool (h.ledger_seq * 2 ^ 32)) (below (header_flags h) 7))))))))

-- ---- an image, rule by rule

abbrev Verdict : Hash → StartImage → Type 0
Verdict network image = (judged : Result ClosingState ImageFault) × IsJudged network image judged

broken_rule : (network : Hash) (image : StartImage) (broken : ImageRule) → IsOfEntries broken
    → BreaksEntries image (Some broken) → Verdict network image
broken_rule network image rule.Header own breaks = absurd own
broken_rule network image rule.Version own breaks = absurd own
broken_rule network image rule.Fields own breaks = absurd own
broken_rule network image rule.Bucket own breaks = absurd own
broken_rule network image rule.Marks own breaks = absurd own
broken_rule network image rule.ListHash own breaks = absurd own
broken_rule network image broken own breaks = (Err (fault.BadImage broken), breaks)

module _ (network : Hash) (image : StartImage) (text : All IsBytes image.files) (h : LedgerHeader) where
  by_first : (levels : List Pair) (m : EntryMap) → HasEntries image h levels m → FirstOf h m entry_rules
      → Verdict network image
  by_first levels m has (None, kept, own) = (Ok (state_of network h levels m), (h, levels, m, has, kept, refl))
  by_first levels m has (Some broken, breaks, own) =
      broken_rule network image broken own (h, levels, m, has, breaks)

  by_entries : (levels : List Pair) (m : EntryMap) → HasEntries image h levels m → Verdict network image
  by_entries levels m has =
      by_first levels m has (first_of h m (are_keyed levels m has.files.files.files.have has.existing))

  by_levels : (levels : List Pair) → HasLevels image h levels → Verdict network image
  by_levels levels has =
      elim (well_marked levels) [
        | inl marks ↦ elim (same_value hash.the_row.coded (list_hash levels) h.bucket_list_hash) [
          | inl same ↦
              by_entries levels (entries_of levels)
              (record { files = has; marks = marks; hash = same; existing = represented levels })
          | inr fails ↦ (Err (fault.BadImage rule.ListHash), (h, levels, has, marks, fails))
        ]
        | inr fails ↦ (Err (fault.BadImage rule.Marks), (h, levels, has, fails))
      ]

  by_files : HasHeader image h → Verdict network image
  by_files has =
      elim (some_files image text) [
        | inl found ↦ by_levels found.0 (record { header = has; files = found.1 })
        | inr fails ↦ (Err (fault.BadImage rule.Bucket), (h, has, λ levels files. fails (levels, files)))
      ]

  by_header : header_in image.header ≡ Some h → Verdict network image
  by_header reads =
      elim (both (below 18 h.ledger_version) (below h.ledger_version 19)) [
        | inl version ↦ elim (fields_in_range h) [
          | inl fields ↦ by_files (record { reads = reads; version = version; fields = fields })
          | inr fails ↦ (Err (fault.BadImage rule.Fields), (h, reads, version, fails))
        ]
        | inr fails ↦ (Err (fault.BadImage rule.Version), (h, reads, fails))
      ]

by_bytes : (network : Hash) (image : StartImage) → All IsBytes image.files → (read : Option LedgerHeader)
    → header_in image.header ≡ read → Verdict network image
by_bytes network image text None reads = (Err (fault.BadImage rule.Header), reads)
by_bytes network image text (Some h) reads = by_header network image text h reads

pub each_image : EachImage
each_image network image text = by_bytes network image text (header_in image.header) refl
