use Rattle.std.proofs.Common.{pos, ◌+ℤ◌, ok_or, ap, refl}
use Rattle.ptp_units.specs.Moment.{moment_of}
use Rattle.network_model.specs.declared.event.Event.TheVariants.{SyncOne}
use Rattle.network_model.specs.declared.refusal.WorldRefusal.TheVariants.{ReadingOutOfRange}
use Rattle.world_model.specs.Inner.Kept.{HasRoom}
use Rattle.world_model.proofs.Lifting.{lift-master}
use Rattle.world_model.proofs.station.Station.one_step_sync.Goals as goal

pub returns : goal.returns
returns c = λ node entries network run kind is_kind stands keeps.
    lift-master network run kind (SyncOne node c.args.at) c.args.self.now refl is_kind stands (HasRoom c.args.events.now) c.one_step_sync.result c.in-Master.master c.one_step_sync.new.self
    _ c.in-Master.is (c.one_step_sync.ensures node)
    (ap (λ d. ok_or (moment_of (pos c.args.at +ℤ d)) ReadingOutOfRange) stands.difference)
