use Rattle.std.proofs.Common.{◌≡◌, ◌∙◌, ◌∷◌, ℕ, Ok, sym, subst}
use Rattle.slave_port.specs.History as calls
use Rattle.slave_port.specs.Answer as slaves
use Rattle.slave_port.specs.StandsFor.{StandsFor}
use Rattle.network_model.specs.Truth.{copy_of}
use Rattle.network_model.specs.SlaveHistory.{slave_setup, history_of}
use Rattle.world_model.proofs.Readings.{Told, told, IsReading-packet}
use Rattle.world_model.proofs.Arrivals.{arrive-brings}
use Rattle.world_model.proofs.station.Slave.arrive.Goals as goal

pub returns : goal.returns
returns c = λ node copy network run setup is stands given.
    let t : Told (copy_of network run copy) c.in-Some.octets.now = told (copy_of network run copy) c.in-Some.octets.now (rw c.in-Some.is at given.0) in
    let reads = IsReading-packet t.m c.in-Some.octets.now t.packet in (
      c.in_ok-room.ensures.room,
      arrive-brings network run node copy setup c.args.self.now is stands t.m t.is c.sync.new.self c.sync.result c.args.at c.in_ok-now.now (sym c.in_ok-now.was ∙ c.shown.ensures ∙ given.1)
          (subst (λ (tag : ℕ). c.sync.result ≡ slaves.answer (slave_setup setup) (history_of network setup node run) (calls.Event (Ok t.m) c.in_ok-now.now tag)) (c.len.ensures ∙ sym given.2)
          (c.sync.ensures.answer (Ok t.m) reads (slave_setup setup) (history_of network setup node run) stands.port))
          (subst (λ (tag : ℕ). StandsFor (slave_setup setup) c.sync.new.self (calls.Event (Ok t.m) c.in_ok-now.now tag ∷ history_of network setup node run)) (c.len.ensures ∙ sym given.2)
          (c.sync.ensures.stands (Ok t.m) reads (slave_setup setup) (history_of network setup node run) stands.port)),
    )
