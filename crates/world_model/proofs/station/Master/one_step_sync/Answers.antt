use Rattle.std.proofs.Common.{◌∙◌, sym}
use Rattle.world_model.specs.declared.entry.Octets.TheVariants.{Short}
use Rattle.world_model.proofs.Masters.{one_step_sync-brings}
use Rattle.world_model.proofs.station.Master.one_step_sync.Goals as goal

pub returns : goal.returns
returns c = λ node network run setup is stands given. (
  c.in_ok-room.ensures.room,
  rw c.one_step_sync.ensures.port
      (one_step_sync-brings network run node c.args.at c.in_ok-now.now setup c.args.self.now (Short c.one_step_sync.result.0) is stands
      (sym c.in_ok-now.was ∙ c.shown.ensures ∙ given) c.one_step_sync.ensures.octets),
)
