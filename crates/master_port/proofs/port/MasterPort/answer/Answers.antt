use Rattle.std.proofs.Common.{rules}
use Rattle.event_codec.specs.Profile.{contents_of}
use Rattle.master_port.proofs.port.MasterPort.answer.Goals as goal

pub returns : goal.returns
returns c = (contents_of c.in_ok-delay_resp.field-0, search rules, c.octets.ensures)
