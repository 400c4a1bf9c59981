-- A record that has what it needs is told.
use Rattle.tap_laws.proofs.Waiting.{each_complete}
use Rattle.tap_laws.proofs.laws.each_complete_record_is_told.Goals as goal

pub returns : goal.returns
returns c = each_complete
