use Rattle.explain_transcript.proofs.Reports.{found_told}
use Rattle.explain_transcript.proofs.explaining.Explaining.tell_found.Goals as goal

pub returns-in_ok-push_tally-in-Transcript : goal.returns-in_ok-push_tally-in-Transcript
returns-in_ok-push_tally-in-Transcript c = λ reports counts empty.
    let (told, tells, is) = c.in_ok-push_tally-in-Transcript.ensures in
    rw c.in-Transcript.is
    (found_told c.push_found.result c.in-Transcript.field-0 c.args.self.now.story reports _ _ _ told counts empty tells is
    (rw c.in-Transcript.is at c.push_found.ensures))
