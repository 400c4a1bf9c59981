use Rattle.std.proofs.Common.{◌≡◌, false, map, take}
use Rattle.clap.specs.Simple.{shape_of}
use Rattle.clap.specs.declared.builder.command.Command.TheViews.{out-Command as fields_of}
use Rattle.command_line.specs.Program.{rule_for, shape_for}
use Rattle.command_line.proofs.arguments.with_options.Given as goal

-- the command has the options so far
abbrev pub invariant-loop-next : goal.invariant-loop-next
invariant-loop-next l = record {
  shape : shape_of l.command ≡ shape_for (l.row.name.now, map rule_for (take l.next-index l.row.options.now));
  local : (fields_of l.command).has_globals ≡ false;
}
