use Rattle.std.proofs.Common.{refl, sym, ap, option_map}
use Rattle.network_model.specs.declared.event.Event.TheVariants.{SetMaster}
use Rattle.network_model.specs.declared.node.NodeSpec.{NodeSpec}
use Rattle.world_model.specs.Inner.Kept.{HasRoom}
use Rattle.world_model.proofs.Lifting.{lift-slave}
use Rattle.world_model.proofs.station.Station.set_master.Goals as goal

pub returns : goal.returns
returns c = λ node entries run kind is_kind stands keeps.
    lift-slave c.args.nodes.now run kind (SetMaster node c.args.master.now) c.args.self.now refl is_kind stands (HasRoom c.args.events.now) c.set_master.result c.in-Slave.slave c.set_master.new.self
    _ c.in-Slave.is (c.set_master.ensures node c.args.master.now)
    (sym (ap (option_map (λ (n : NodeSpec). n.kind)) c.in-Some.ensures))
