use Rattle.std.proofs.Common.{◌≡◌, ◌∙◌, ◌∷◌, ℕ, Ok, sym, subst}
use Rattle.slave_port.specs.History as calls
use Rattle.slave_port.specs.Answer as slaves
use Rattle.slave_port.specs.StandsFor.{StandsFor}
use Rattle.network_model.specs.Truth.{copy_of}
use Rattle.network_model.specs.SlaveHistory.{slave_setup, history_of}
use Rattle.world_model.proofs.Readings.{Told, told, IsReading-packet}
use Rattle.world_model.proofs.Arrivals.{hear-brings}
use Rattle.world_model.proofs.station.Slave.hear.Goals as goal

pub returns : goal.returns
returns c = λ node copy network run setup is stands given.
    let t : Told (copy_of network run copy) c.in-Some.octets.now = told (copy_of network run copy) c.in-Some.octets.now (rw c.in-Some.is at given.0) in
    let reads = IsReading-packet t.m c.in-Some.octets.now t.packet in (
      c.in_ok-room.ensures.room,
      hear-brings network run node copy setup c.args.self.now is stands t.m t.is c.general.new.self c.general.result
          (subst (λ (tag : ℕ). c.general.result ≡ slaves.answer (slave_setup setup) (history_of network setup node run) (calls.General (Ok t.m) tag)) (c.len.ensures ∙ sym given.1)
          (c.general.ensures.answer (Ok t.m) reads (slave_setup setup) (history_of network setup node run) stands.port))
          (subst (λ (tag : ℕ). StandsFor (slave_setup setup) c.general.new.self (calls.General (Ok t.m) tag ∷ history_of network setup node run)) (c.len.ensures ∙ sym given.1)
          (c.general.ensures.stands (Ok t.m) reads (slave_setup setup) (history_of network setup node run) stands.port)),
    )
