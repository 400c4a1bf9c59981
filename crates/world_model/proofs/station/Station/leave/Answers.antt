use Rattle.std.proofs.Common.{pos, ◌+ℤ◌, ok_or, ap, sym}
use Rattle.ptp_units.specs.Moment.{moment_of}
use Rattle.network_model.specs.declared.refusal.WorldRefusal.TheVariants.{ReadingOutOfRange}
use Rattle.world_model.specs.Inner.Stands.{listed}
use Rattle.world_model.specs.Inner.Kept.{entries_of, HasRoom}
use Rattle.world_model.specs.Inner.Acts.{shown_at}
use Rattle.world_model.proofs.Leaves.{leaving, never_lost}
use Rattle.world_model.proofs.station.Station.leave.Goals as goal

pub returns-in-None : goal.returns-in-None
returns-in-None c = λ network run kind is_kind stands keeps.
    absurd (never_lost network run (entries_of c.args.events.now) c.args.clock.now c.args.transit c.in-Some.copy keeps (sym c.in-Some.ensures) (sym c.in-None.ensures))

pub returns : goal.returns
returns c = λ network run kind is_kind stands keeps.
    leaving network run (entries_of c.args.events.now) c.args.clock.now c.args.transit c.in-Some.copy c.args.at kind c.args.self.now (shown_at c.args.at c.args.self.now.difference) (HasRoom c.args.events.now) c.depart.result
    (listed c.in-Some-copy.octets) keeps (sym c.in-Some.ensures) (sym c.in-Some-copy.ensures) is_kind c.in-Clock.is stands
    (ap (λ d. ok_or (moment_of (pos c.args.at +ℤ d)) ReadingOutOfRange) stands.difference)
    (λ m entered packet stay. c.depart.ensures m entered packet stay)
