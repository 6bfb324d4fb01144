-- The two options of `sample`, in words of their own.
use Rattle.std.specs.Prelude.{ℕ, ◌<◌, ◌≤◌, ◌^◌, List, codes}
use Rattle.command_words.specs.Words.{IsNumberOption}

abbrev pub AreSeedAndLedgers : (one other : List (List ℕ)) → Type 0
AreSeedAndLedgers one other = (seed : ℕ) × (ledgers : ℕ) × IsNumberOption (codes "seed") seed one × (seed < 2 ^ 32)
    × IsNumberOption (codes "ledgers") ledgers other × (1 ≤ ledgers) × (ledgers ≤ 20000)
