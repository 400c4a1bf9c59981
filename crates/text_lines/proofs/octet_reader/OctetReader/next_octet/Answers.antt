use Rattle.std.proofs.Common.{arith}
use Rattle.text_lines.proofs.ReadAhead.{one_consumed}
use Rattle.text_lines.proofs.octet_reader.OctetReader.next_octet.Goals as goal

pub returns-clause-bytes : goal.returns-clause-bytes
returns-clause-bytes g c = one_consumed _ c.args.self.now.octets c.args.self.now.next c.args.self.now.end (omega arith) (omega arith)
