-- That each legal state has its pools and the lines of their shares in order.
use Rattle.std.specs.Prelude.{ℕ}
use Rattle.entry_map.specs.EntryMap.{EntryMap}
use Rattle.trade_cross.specs.legal_rules.Owing.{AreEntriesLegal}
use Rattle.pool_shares.specs.Premises.{ArePoolsSound}

abbrev pub EntriesSound : Type 0
EntriesSound = (id_pool : ℕ) (m : EntryMap) → AreEntriesLegal id_pool m → ArePoolsSound m
