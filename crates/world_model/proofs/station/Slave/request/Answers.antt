use Rattle.std.proofs.Common.{◌∙◌, ◌∷◌, sym, subst, ℕ}
use Rattle.slave_port.specs.History as calls
use Rattle.slave_port.specs.StandsFor.{StandsFor}
use Rattle.network_model.specs.SlaveHistory.{slave_setup, history_of}
use Rattle.world_model.specs.declared.entry.Octets.TheVariants.{Short}
use Rattle.world_model.proofs.Slaves.{request-brings}
use Rattle.world_model.proofs.station.Slave.request.Goals as goal

pub returns : goal.returns
returns c = λ node network run setup is stands given.
    let drawn = c.next_request.ensures.octets (slave_setup setup) (history_of network setup node run) stands.port in (
      c.in_ok-room.ensures.room,
      request-brings network run node c.args.at c.in_ok-now.now setup c.args.self.now is stands (sym c.in_ok-now.was ∙ c.shown.ensures ∙ given.0)
          (Short c.next_request.result.0) c.next_request.result.1 c.next_request.new.self drawn
          (c.next_request.ensures.number (slave_setup setup) (history_of network setup node run) stands.port)
          (subst (λ (tag : ℕ). StandsFor (slave_setup setup) c.next_request.new.self (calls.NextRequest tag ∷ history_of network setup node run)) (c.len.ensures ∙ sym given.1)
          (c.next_request.ensures.stands (slave_setup setup) (history_of network setup node run) stands.port)),
    )
