use Rattle.capture_laws.proofs.OneReading.{one_part, part_or_fault, one_fault, one_chain}
use Rattle.capture_laws.proofs.laws.octets_have_one_reading.Goals as goal

pub returns-clause-part : goal.returns-clause-part
returns-clause-part c = λ form octets rest others one other are split is split' is'. one_part form octets one other rest others are split split' is is'

pub returns-clause-no_fault : goal.returns-clause-no_fault
returns-clause-no_fault c = λ form octets rest part fault place are split is wrong. part_or_fault form octets part rest fault place are split is wrong

pub returns-clause-fault : goal.returns-clause-fault
returns-clause-fault c = λ form octets one other place elsewhere are wrong wrong'. one_fault form octets one other place elsewhere are wrong wrong'

pub returns-clause-parts : goal.returns-clause-parts
returns-clause-parts c = λ octets ones others are p split p' split'. one_chain octets ones others are p split p' split'
