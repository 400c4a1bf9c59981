use Rattle.std.proofs.Common.{arith, ◌∙◌, ◌<◌, List, length, ap}
use Rattle.result_audit.specs.declared.held.Held.{Held}
use Rattle.result_audit.specs.Auditor.{Auditing, auditing_of}
use Rattle.result_audit.specs.Inner.Turning.{turned}
use Rattle.result_audit.proofs.Turns.{turned_by-one}
use Rattle.result_audit.proofs.auditor.Auditor.learn.Goals as goal

pub loop-preserved : goal.loop-preserved
loop-preserved c =
    let held = c.args.self.now.held.items in
    let within : c.loop.counter < length held = omega arith in
    let with : List Held → Auditing = λ them. record (auditing_of c.args.self.now) { held = them } in record {
      turned = c.in_ok-learn_first.ensures
          ∙ ap (λ (a : Auditing). record a { held = turned c.args.half c.args.gap a.held }) c.loop.invariant.turned
          ∙ ap with (turned_by-one c.args.half c.args.gap c.loop.counter held within);
    }
