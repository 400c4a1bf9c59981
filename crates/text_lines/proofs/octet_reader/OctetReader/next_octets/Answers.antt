use Rattle.std.proofs.Common.{arith, rules, ◌∙◌}
use Rattle.std.proofs.lemmas.List.{take_at}
use Rattle.text_lines.proofs.ReadAhead.{some_consumed}
use Rattle.text_lines.proofs.octet_reader.OctetReader.next_octets.Goals as goal

pub returns-clause-bytes : goal.returns-clause-bytes
returns-clause-bytes g c =
    let copied = c.copy_from_slice.ensures in
    some_consumed _ c.args.self.now.octets c.args.self.now.next c.min-count.result c.args.self.now.end _ (omega arith)
    (take_at c.copy_from_slice.new.self _ c.min-count.result (search rules) ∙ copied.after)
