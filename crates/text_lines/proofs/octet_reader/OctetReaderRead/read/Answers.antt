use Rattle.std.proofs.Common.{rules, arith}
use Rattle.std.specs.Io.KnownBytes.{Keeps}
use Rattle.text_lines.proofs.ReadAhead.{one_given}
use Rattle.text_lines.specs.OctetReader.{remaining_of}
use Rattle.text_lines.proofs.octet_reader.OctetReaderRead.read.Goals as goal
use Rattle.text_lines.proofs.octet_reader.OctetReaderRead.read.Goals.{then-self+else-is_empty+in_ok-fill+else-self-2, else-self}

pub returns-in-len1-clause-bytes : goal.returns-in-len1-clause-bytes
returns-in-len1-clause-bytes g c =
    let kept : Keeps (remaining_of g.R.Read.remaining c.args.self.now) (remaining_of g.R.Read.remaining c.if-self.self) =
    elim c.if-self.branch [ then-self+else-is_empty+in_ok-fill+else-self-2 w ↦ search rules | else-self w ↦ search rules ] in
    (one_given _ _ _ c.args.buf.now c.next_octet.result kept c.next_octet.ensures.bytes (omega arith), λ none. absurd (omega arith))
