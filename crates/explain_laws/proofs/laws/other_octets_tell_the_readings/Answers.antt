use Rattle.explain_laws.proofs.Unread.{each_other_tells_the_readings}
use Rattle.explain_laws.proofs.laws.other_octets_tell_the_readings.Goals as goal

pub returns : goal.returns
returns c = each_other_tells_the_readings
