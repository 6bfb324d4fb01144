-- Parts of a transaction that leave settled entries, one after the other.
use Rattle.tx_apply.proofs.Prelude.{ℕ, suc, ◌+◌, ◌≤◌, Bool, true, false, if◌then◌else◌, List, [], ◌++◌, refl, sym, ap}
use Rattle.tx_apply.proofs.Prelude.{◌∙◌, arith, All-nil, TransactionOutcome, EntryMap, total, Ctx, Move, IsLawful}
use Rattle.tx_apply.proofs.Prelude.{issued, IsSettled, LeavesSettled, AreDrawn, none_drawn, none_moved, issued_after}
use Rattle.tx_apply.proofs.Prelude.{described_itself, described_twice, AreLawful, Step, Applied, undone, ended}
use Rattle.tx_apply.proofs.Prelude.{add_assoc}
use Rattle.std.specs.Prelude.{◌+ℤ◌}
use Rattle.op_laws.specs.legal_rules.Supply.{held}

pub leaves_itself : (id_pool : ℕ) (m : EntryMap) → IsSettled id_pool m → LeavesSettled id_pool m m []
leaves_itself id_pool m settled =
    record { settled = settled; supply = λ x. sym (none_moved x (total (held x) m)); described = described_itself m }

-- one after the other
pub leaves_twice : (between id_pool : ℕ) (a b c : EntryMap) (moves more : List Move) → LeavesSettled between a b moves
    → LeavesSettled id_pool b c more → LeavesSettled id_pool a c (moves ++ more)
leaves_twice between id_pool a b c moves more first next = record {
  settled = next.settled;
  supply = λ x. next.supply x ∙ ap (λ n. n +ℤ issued x more) (first.supply x)
      ∙ add_assoc (total (held x) a) (issued x moves) (issued x more)
      ∙ ap (λ n. total (held x) a +ℤ n) (sym (issued_after x moves more));
  described = described_twice a b c moves more first.described next.described;
}

-- what holds of a transaction, or of a part of it
pub record IsSound (count first : ℕ) (m : EntryMap) (applied : Applied) : Type 0 where
  pub ids : AreDrawn count first applied.id_pool
  pub left : LeavesSettled applied.id_pool m applied.entries applied.moves
  pub steps : AreLawful applied.steps

pub no_steps : AreLawful []
no_steps = All-nil (λ (step : Step). IsLawful step.ctx step.entries step.done)

pub drawn_twice : (count more a b c : ℕ) → AreDrawn count a b → AreDrawn more b c → AreDrawn (count + more) a c
drawn_twice count more a b c first next =
    both first.low first.high next.low next.high
  where
    both : a ≤ b → b ≤ a + count → b ≤ c → c ≤ b + more → AreDrawn (count + more) a c
    both low high least most = record { low = omega arith; high = omega arith }

pub drawn_next : (more a b c : ℕ) → AreDrawn 1 a b → AreDrawn more b c → AreDrawn (suc more) a c
drawn_next more a b c first next =
    let both = drawn_twice 1 more a b c first next in
    record { low = both.low; high = one_more both.high }
  where
    one_more : c ≤ a + (1 + more) → c ≤ a + suc more
    one_more le = omega arith

pub undone_sound : (end : TransactionOutcome) (count : ℕ) (ctx : Ctx) (m : EntryMap) (steps : List Step)
    → IsSettled ctx.id_pool m → AreLawful steps → IsSound count ctx.id_pool m (undone end ctx m steps)
undone_sound end count ctx m steps settled lawful = record {
  ids = none_drawn count ctx.id_pool ctx.id_pool refl;
  left = leaves_itself ctx.id_pool m settled;
  steps = lawful;
}

pub ended_sound : (end : TransactionOutcome) (count : ℕ) (ctx : Ctx) (m : EntryMap) → IsSettled ctx.id_pool m
    → IsSound count ctx.id_pool m (ended end ctx m)
ended_sound end count ctx m settled = undone_sound end count ctx m [] settled no_steps

pub either_sound : (count first : ℕ) (m : EntryMap) (b : Bool) (x y : Applied) → IsSound count first m x
    → IsSound count first m y → IsSound count first m (if b then x else y)
either_sound count first m true x y sound other = sound
either_sound count first m false x y sound other = other

-- after a part that moves nothing and draws no ids
pub sound_after : (count id_pool : ℕ) (m between : EntryMap) (applied : Applied) → LeavesSettled id_pool m between []
    → IsSound count id_pool between applied → IsSound count id_pool m applied
sound_after count id_pool m between applied first sound = record {
  ids = sound.ids;
  left = leaves_twice id_pool applied.id_pool m between applied.entries [] applied.moves first sound.left;
  steps = sound.steps;
}
