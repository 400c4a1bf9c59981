use Rattle.std.proofs.Common.{refl}
use Rattle.network_model.specs.declared.event.Event.TheVariants.{Follow}
use Rattle.world_model.specs.Inner.Acts.{Nothing}
use Rattle.world_model.specs.Inner.Kept.{HasRoom}
use Rattle.world_model.proofs.Lifting.{lift-master}
use Rattle.world_model.proofs.station.Station.follow.Goals as goal

pub returns : goal.returns
returns c = λ node entries network run kind is_kind stands keeps.
    lift-master network run kind (Follow node) c.args.self.now refl is_kind stands (HasRoom c.args.events.now) c.follow.result c.in-Master.master c.follow.new.self
    Nothing c.in-Master.is (c.follow.ensures node) tt
