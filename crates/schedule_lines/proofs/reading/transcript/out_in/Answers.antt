use Rattle.std.proofs.Common.{rules, refl}
use Rattle.schedule_lines.specs.Needed.{outcome_keys}
use Rattle.schedule_lines.proofs.Traced.{out_asked}
use Rattle.schedule_lines.proofs.reading.transcript.out_in.Goals as goal

pub returns-in-Some-clause-asks : goal.returns-in-Some-clause-asks
returns-in-Some-clause-asks g c = out_asked (g.M.LineMembers.as_data c.args.members.now) c.in-Some.text.now (outcome_keys c.in-Some.text.now) c.out_of.result (search rules) refl c.out_of.ensures.asks
