use Rattle.std.proofs.Common.{◌∙◌, Ok, sym}
use Rattle.master_port.specs.Written.{answer}
use Rattle.network_model.specs.Truth.{copy_of}
use Rattle.world_model.specs.declared.entry.Octets.TheVariants.{Long}
use Rattle.world_model.proofs.Readings.{Told, told, IsReading-packet}
use Rattle.world_model.proofs.Arrivals.{answer-brings, gives_answer, gives_refusal}
use Rattle.world_model.proofs.station.Master.arrive.Goals as goal

pub returns-in-Ok : goal.returns-in-Ok
returns-in-Ok c = λ node copy network run setup is stands given.
    let t : Told (copy_of network run copy) c.in-Some.octets.now = told (copy_of network run copy) c.in-Some.octets.now (rw c.in-Some.is at given.0) in
    let written = c.in-Ok.ensures (Ok t.m) (IsReading-packet t.m c.in-Some.octets.now t.packet) in (
      c.in_ok-room.ensures.room,
      answer-brings network run node copy c.args.at c.in_ok-now.now setup c.args.self.now t.m _ is stands t.is (sym c.in_ok-now.was ∙ c.shown.ensures ∙ given.1)
          (gives_answer (answer c.args.self.now.port.config (Ok t.m) c.in_ok-now.now) written.0 c.in_ok-now.now (Long c.in-Ok.response) written.1 written.2),
    )

pub returns-in-Err : goal.returns-in-Err
returns-in-Err c = λ node copy network run setup is stands given.
    let t : Told (copy_of network run copy) c.in-Some.octets.now = told (copy_of network run copy) c.in-Some.octets.now (rw c.in-Some.is at given.0) in
    let refused = c.in-Err.ensures (Ok t.m) (IsReading-packet t.m c.in-Some.octets.now t.packet) in (
      c.in_ok-room.ensures.room,
      answer-brings network run node copy c.args.at c.in_ok-now.now setup c.args.self.now t.m _ is stands t.is (sym c.in_ok-now.was ∙ c.shown.ensures ∙ given.1)
          (gives_refusal (answer c.args.self.now.port.config (Ok t.m) c.in_ok-now.now) c.in-Err.refusal c.in_ok-now.now c.code.result refused c.code.ensures),
    )
