use Rattle.capture_extract.proofs.Nothing.{changes_nothing}
use Rattle.capture_extract.proofs.laws.what_is_no_ptp_changes_nothing.Goals as goal

pub returns : goal.returns
returns c = changes_nothing
