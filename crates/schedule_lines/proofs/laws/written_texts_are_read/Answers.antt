use Rattle.schedule_lines.proofs.Printed.{node_texts_back, event_texts_back}
use Rattle.schedule_lines.proofs.laws.written_texts_are_read.Goals as goal

pub returns-clause-nodes : goal.returns-clause-nodes
returns-clause-nodes c = node_texts_back

pub returns-clause-events : goal.returns-clause-events
returns-clause-events c = event_texts_back
