-- An operation that sells an offer is lawful, by what it does before the sale.
use Rattle.op_laws.proofs.Prelude.{◌≡◌, refl, ap, subst, ◌∙◌, ℕ, ◌+◌, ◌≤◌, zero, suc, List, Ok, arith, ℤ, pos, neg_ℤ}
use Rattle.op_laws.proofs.Prelude.{◌+ℤ◌, Asset, OperationResult, EntryMap, sponsor_of, total, Ctx, View, none_more}
use Rattle.op_laws.proofs.Prelude.{both_more, more_at, view, one_more, nothing_owed, IsLegalOwing, AreSponsorshipsSound}
use Rattle.op_laws.proofs.Prelude.{held, Leaves, leaves_as, keeps_then, kept_at, kept_in, more_in, AreTraded, Done}
use Rattle.op_laws.proofs.Prelude.{Move, OfAccount, drawn, moves_of, Asked, source_gives_at, source_takes_at, trade_of}
use Rattle.op_laws.proofs.Prelude.{Sold, sold, IsLawful, issued, IsUnderway, AreDrawn, add_assoc}
use Rattle.op_flags.specs.ledger_types.declared.asset.Asset.TheVariants as asset
use Rattle.op_offers.specs.SellingLaws.{IsAskedRightly}
use Rattle.op_offers.proofs.Sold.{selling_keeps}
use Rattle.op_offers.proofs.SoldLeft.{selling_left_so, selling_traded}
use Rattle.op_laws.proofs.Lawful.{DrawsLegal, lawful_drawn, sound_after}
use Rattle.op_laws.proofs.MoveSums.{moved_more}
use Rattle.op_laws.proofs.TradeMoves.{moves_describe, more_by_moves, moved_supply}

-- one id is drawn at most
one_drawn : (id_pool next amount : ℕ) → id_pool ≤ next → next ≤ id_pool + 1
    → AreDrawn 1 id_pool (drawn id_pool next amount)
one_drawn id_pool next zero low high = record { low = omega arith; high = omega arith }
one_drawn id_pool next (suc n) low high = record { low = low; high = high }

-- What holds before a sale: the offer is counted and out of the book, its id is free, and its source holds both assets.
pub record IsReady (ctx : Ctx) (next : ℕ) (asked : Asked) (old m : EntryMap) : Type 0 where
  pub counted : (v : View) (sum : ℤ) → IsLegalOwing v ctx.id_pool nothing_owed sum old
      → IsLegalOwing v ctx.id_pool (one_more asked.offer.seller_id (sponsor_of asked.entry)) sum m
  pub left : Leaves ctx.base_reserve none_more old m
  pub right : IsAskedRightly next asked m
  pub low : ctx.id_pool ≤ next
  pub high : next ≤ ctx.id_pool + 1

module _ (ctx : Ctx) (next : ℕ) (asked : Asked) (old m : EntryMap) (under : IsUnderway ctx old)
    (ready : IsReady ctx next asked old m) (s : Sold) (sale : sold ctx.base_reserve asked m ≡ Ok s) where
  abbrev after : Ctx
  after = record ctx { id_pool = drawn ctx.id_pool next s.amount }

  its_legal : IsLegalOwing (view old) ctx.id_pool (one_more asked.offer.seller_id (sponsor_of asked.entry))
      (total (held asset.Native) old) m
  its_legal = ready.counted (view old) (total (held asset.Native) old) under.settled.legal

  traded : AreTraded (trade_of ctx.base_reserve asked m) s.crossed
  traded = selling_traded (view old) ctx.id_pool next ctx.base_reserve (total (held asset.Native) old) asked m
      its_legal ready.low ready.right s sale

  abbrev source_kept : Asset → ℤ
  source_kept x =
      kept_at x (source_gives_at asked) asked.offer.selling (neg_ℤ (pos s.crossed.sheep))
      +ℤ kept_at x (source_takes_at asked) asked.offer.buying (pos s.crossed.wheat)

  abbrev moves : List Move
  moves = moves_of (OfAccount asked.offer.seller_id) s.crossed.atoms

  shifts : DrawsLegal ctx.id_pool after.id_pool (λ x. issued x moves) old s.entries
  shifts v sum legal = subst (λ n. IsLegalOwing v after.id_pool nothing_owed n s.entries)
      (add_assoc sum (kept_in v.asset s.crossed.atoms) (source_kept v.asset)
      ∙ ap (λ n. sum +ℤ n)
      (moved_supply (trade_of ctx.base_reserve asked m) asked.offer.seller_id s.crossed traded v.asset))
      (selling_keeps v ctx.id_pool next ctx.base_reserve sum asked m s (ready.counted v sum legal) ready.low
      ready.right sale)

  leaves : Leaves ctx.base_reserve (moved_more moves) old s.entries
  leaves = keeps_then ctx.base_reserve (moved_more moves) old m s.entries ready.left
      (leaves_as ctx.base_reserve
      (both_more (more_in s.crossed.atoms)
      (both_more (more_at (source_gives_at asked) asked.offer.selling (neg_ℤ (pos s.crossed.sheep)))
      (more_at (source_takes_at asked) asked.offer.buying (pos s.crossed.wheat))))
      (moved_more moves) m s.entries
      (selling_left_so (view old) ctx.id_pool next ctx.base_reserve (total (held asset.Native) old) asked m its_legal
      ready.low ready.right s sale)
      (more_by_moves (trade_of ctx.base_reserve asked m) asked.offer.seller_id s.crossed traded))

  sound : AreSponsorshipsSound after s.entries
  sound =
      let here = sound_after ctx old under none_more s.entries leaves.exist in
      record { once = here.once; other = here.other; exist = here.exist }

  pub sale_is_lawful : (result : OperationResult) → IsLawful ctx old (record {
    result = result;
    entries = s.entries;
    ctx = after;
    moves = moves;
  })
  sale_is_lawful result =
      let done : Done = record {
        result = result;
        entries = s.entries;
        ctx = after;
        moves = moves;
      } in
      lawful_drawn ctx old under (moved_more moves) done shifts leaves.each leaves.holds
      (moves_describe asked.offer.seller_id s.crossed.atoms)
      (record {
        seq = refl;
        version = refl;
        base_reserve = refl;
        flags = refl;
        close_time = refl;
        tx_source = refl;
        tx_seq = refl;
      })
      (one_drawn ctx.id_pool next s.amount ready.low ready.high) sound
