use Rattle.close_laws.proofs.EntireIds.{ids_entire}
use Rattle.close_laws.proofs.NextEntries.{map_bytes}
use Rattle.close_laws.proofs.entries.states_have_entire_ids.Goals as goal

pub returns : goal.returns
returns c = λ s closing. ids_entire s.entries closing.legal.keyed (map_bytes s.entries closing.entries)
