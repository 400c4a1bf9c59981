use Rattle.std.proofs.Common.{pos, ◌+ℤ◌, ok_or, ap, refl, sym, subst, arith}
use Rattle.ptp_units.specs.Moment.{moment_of}
use Rattle.network_model.specs.declared.event.Event.TheVariants.{Arrive}
use Rattle.network_model.specs.declared.refusal.WorldRefusal.TheVariants.{ReadingOutOfRange}
use Rattle.network_model.specs.Truth.{TellsTruth, copy_of}
use Rattle.world_model.specs.Inner.Kept.{HasRoom}
use Rattle.world_model.proofs.Lifting.{lift-master, lift-slave}
use Rattle.world_model.proofs.station.Station.arrive.Goals as goal

pub returns-in-Master : goal.returns-in-Master
returns-in-Master c = λ node network run kind is_kind stands keeps.
    lift-master network run kind (Arrive node c.args.copy c.args.at) c.args.self.now refl is_kind stands (HasRoom c.args.events.now) c.arrive.result c.in-Master.master c.in-Master.master
    _ c.in-Master.is (c.arrive.ensures node c.args.copy) (
      subst (TellsTruth (copy_of network run c.args.copy)) (sym c.octets.ensures.value) (keeps.copies c.args.copy),
      ap (λ d. ok_or (moment_of (pos c.args.at +ℤ d)) ReadingOutOfRange) stands.difference,
    )

pub returns-in-Slave : goal.returns-in-Slave
returns-in-Slave c = λ node network run kind is_kind stands keeps.
    lift-slave network run kind (Arrive node c.args.copy c.args.at) c.args.self.now refl is_kind stands (HasRoom c.args.events.now) c.arrive-in-Slave.result c.in-Slave.slave c.arrive-in-Slave.new.self
    _ c.in-Slave.is (c.arrive-in-Slave.ensures node c.args.copy) (
      subst (TellsTruth (copy_of network run c.args.copy)) (sym c.octets-in-Slave.ensures.value) (keeps.copies c.args.copy),
      ap (λ d. ok_or (moment_of (pos c.args.at +ℤ d)) ReadingOutOfRange) stands.difference,
      omega (arith, keeps.count),
    )
