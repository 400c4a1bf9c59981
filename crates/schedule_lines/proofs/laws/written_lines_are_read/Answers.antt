use Rattle.schedule_lines.proofs.Nodes.{nodes_back}
use Rattle.schedule_lines.proofs.ReadBack.{scheduled_reads_back, reads_back}
use Rattle.schedule_lines.proofs.laws.written_lines_are_read.Goals as goal

pub returns-clause-nodes : goal.returns-clause-nodes
returns-clause-nodes c = nodes_back

pub returns-clause-scheduled : goal.returns-clause-scheduled
returns-clause-scheduled c = scheduled_reads_back

pub returns-clause-events : goal.returns-clause-events
returns-clause-events c = reads_back
