use Rattle.std.proofs.Common.{◌≡◌, ◌∙◌, sym}
use Rattle.ptp_units.specs.declared.sequence.Seq.{Seq}
use Rattle.world_model.specs.declared.entry.Octets.TheVariants.{Short}
use Rattle.world_model.proofs.Masters.{sync-brings}
use Rattle.world_model.proofs.station.Master.sync.Goals as goal

pub returns : goal.returns
returns c = λ node network run setup is stands given.
    let drawn : Seq = record { 0 = c.args.self.now.port.next } in
    let number : c.next_sync.result.1 ≡ drawn = λ i. record { 0 = c.next_sync.ensures.number i } in (
      c.in_ok-room.ensures.room,
      rw (c.next_sync.ensures.port, number)
          (sync-brings network run node c.args.at c.in_ok-now.now setup c.args.self.now (Short c.next_sync.result.0) is stands
          (sym c.in_ok-now.was ∙ c.shown.ensures ∙ given) c.next_sync.ensures.octets),
    )
