use Rattle.schedule_lines.proofs.Names.{made_name}
use Rattle.schedule_lines.proofs.reading.fields.name_in.Goals as goal

pub returns : goal.returns
returns g c = rw (← c.in_ok-as_str.ensures) (made_name c.in_ok-as_str.field-0.now c.new.result c.new.ensures.some c.new.ensures.text)
