use Rattle.std.proofs.Common.{refl, sym, subst, arith}
use Rattle.network_model.specs.declared.event.Event.TheVariants.{Hear}
use Rattle.network_model.specs.Truth.{TellsTruth, copy_of}
use Rattle.world_model.specs.Inner.Kept.{HasRoom}
use Rattle.world_model.proofs.Lifting.{lift-slave}
use Rattle.world_model.proofs.station.Station.hear.Goals as goal

pub returns : goal.returns
returns c = λ node network run kind is_kind stands keeps.
    lift-slave network run kind (Hear node c.args.copy) c.args.self.now refl is_kind stands (HasRoom c.args.events.now) c.hear.result c.in-Slave.slave c.hear.new.self
    _ c.in-Slave.is (c.hear.ensures node c.args.copy)
    (subst (TellsTruth (copy_of network run c.args.copy)) (sym c.octets.ensures.value) (keeps.copies c.args.copy), omega (arith, keeps.count))
