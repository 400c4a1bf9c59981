use Rattle.text_lines.proofs.Reading.{beyond_last}
use Rattle.text_lines.proofs.lines.expect_end.Goals as goal

pub returns-in-Some-clause-next : goal.returns-in-Some-clause-next
returns-in-Some-clause-next g c = λ octets known limit line.
    beyond_last _ _ _ limit octets (rw c.in-Some.is at c.in_ok-read_octet.ensures.octet) known
