use Rattle.explain_transcript.proofs.Noting.{details_told}
use Rattle.explain_transcript.proofs.details.details_of.Goals as goal

pub returns-in-Some : goal.returns-in-Some
returns-in-Some c = λ notes.
    details_told c.args.evidence.now c.args.input.now c.in-Transcript.transcript c.args.report.now c.in-Some.checker.now
    c.by_messages.result c.octets_of.result c.first_otherwise-otherwise.result c.made_by.result c.exchange-exchange.result
    c.moments_told.result c.last_time.result c.in-Transcript.is notes c.in-Some.ensures
    c.by_messages.ensures c.octets_of.ensures c.first_otherwise-otherwise.ensures c.made_by.ensures c.exchange-exchange.ensures
    c.moments_told.ensures c.last_time.ensures
