use Rattle.schedule_reading.proofs.text.push_verdict.Goals as goal

pub returns-in-Refused : goal.returns-in-Refused
returns-in-Refused c = rw (c.in-Refused.is, ← c.code.ensures) c.write-in-Refused.ensures.bytes
