use Rattle.std.proofs.Common.{Ok, ap, subst}
use Rattle.event_codec.specs.Packet.{Packet}
use Rattle.transparent_clock.specs.Forwarding.{forwarded}
use Rattle.world_model.specs.Inner.Stands.{listed}
use Rattle.world_model.proofs.Readings.{IsReading-packet}
use Rattle.world_model.proofs.Leaves.{is_sent}
use Rattle.world_model.proofs.clock.left.Goals as goal

pub returns-in-Short : goal.returns-in-Short
returns-in-Short c = λ m packet.
    let entered : Packet m c.in-Short.octets = subst (Packet m) (ap listed c.in-Short.is) packet in
    c.left_as.ensures (forwarded (Ok m) c.args.transit c.args.now)
    (is_sent m c.args.transit c.args.now c.in-Short.octets c.leave-sent.new.octets c.leave-sent.result entered c.leave-sent.auto.octets
    (c.leave-sent.ensures.forwarded (Ok m) (IsReading-packet m c.in-Short.octets entered)))

pub returns-in-Long : goal.returns-in-Long
returns-in-Long c = λ m packet.
    let entered : Packet m c.in-Long.octets = subst (Packet m) (ap listed c.in-Long.is) packet in
    c.left_as-in-Long.ensures (forwarded (Ok m) c.args.transit c.args.now)
    (is_sent m c.args.transit c.args.now c.in-Long.octets c.leave-sent-in-Long.new.octets c.leave-sent-in-Long.result entered c.leave-sent-in-Long.auto.octets
    (c.leave-sent-in-Long.ensures.forwarded (Ok m) (IsReading-packet m c.in-Long.octets entered)))
