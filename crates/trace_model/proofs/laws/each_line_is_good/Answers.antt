-- Each line, by the kind of its event, and the line of each event that took effect.
use Rattle.trace_model.proofs.Good.{each_line_is_good as good}
use Rattle.trace_model.proofs.Found.{each_event_has_its_line}
use Rattle.trace_model.proofs.laws.each_line_is_good.Goals as goal

pub returns : goal.returns
returns c = record { good = good; found = each_event_has_its_line }
