use Rattle.std.proofs.Common.{pos, ◌+ℤ◌, ok_or, ap, refl, arith}
use Rattle.ptp_units.specs.Moment.{moment_of}
use Rattle.network_model.specs.declared.event.Event.TheVariants.{Request}
use Rattle.network_model.specs.declared.refusal.WorldRefusal.TheVariants.{ReadingOutOfRange}
use Rattle.world_model.specs.Inner.Kept.{HasRoom}
use Rattle.world_model.proofs.Lifting.{lift-slave}
use Rattle.world_model.proofs.station.Station.request.Goals as goal

pub returns : goal.returns
returns c = λ node network run kind is_kind stands keeps.
    lift-slave network run kind (Request node c.args.at) c.args.self.now refl is_kind stands (HasRoom c.args.events.now) c.request.result c.in-Slave.slave c.request.new.self
    _ c.in-Slave.is (c.request.ensures node)
    (ap (λ d. ok_or (moment_of (pos c.args.at +ℤ d)) ReadingOutOfRange) stands.difference, omega (arith, keeps.count))
