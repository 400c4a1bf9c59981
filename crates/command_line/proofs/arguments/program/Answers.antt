use Rattle.std.proofs.Common.{◌<◌, ◌∙◌, ap₂, sym, length, arith}
use Rattle.clap.specs.Simple.{with_subcommand}
use Rattle.command_line.proofs.Tables.{program_more}
use Rattle.command_line.proofs.arguments.program.Goals as goal

pub loop-row-preserved : goal.loop-row-preserved
loop-row-preserved c =
    let within : c.loop-row.row-index < length c.args.rows.now = omega arith in
    c.in_ok-program-2.ensures.shape c.in_ok-with_options.ensures.local
    ∙ ap₂ with_subcommand c.loop-row.invariant c.in_ok-with_options.ensures.shape
    ∙ sym (program_more c.args.rows.now c.loop-row.row-index _ within)
