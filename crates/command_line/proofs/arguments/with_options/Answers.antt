use Rattle.std.proofs.Common.{◌<◌, ◌∙◌, ap, sym, length, arith}
use Rattle.command_line.specs.Program.{shape_for}
use Rattle.command_line.proofs.Tables.{added, rules_more, stays_local}
use Rattle.command_line.proofs.arguments.with_options.Goals as goal

pub loop-next-preserved : goal.loop-next-preserved
loop-next-preserved c =
    let row = c.args.row.now in
    let within : c.loop-next.next-index < length row.options.now = omega arith in
    let adds = c.in_ok-command.ensures in
    let local = c.option.ensures.local in
    record {
      shape = added _ _ _ _ _ adds local c.loop-next.invariant.shape c.option.ensures.rule
          ∙ ap (λ rules. shape_for (row.name.now, rules))
          (sym (rules_more row.options.now c.loop-next.next-index _ within));
      local = stays_local _ _ _ adds local c.loop-next.invariant.local;
    }
