use Rattle.std.proofs.Common.{◌≡◌, map, take}
use Rattle.clap.specs.Simple.{app_of}
use Rattle.command_line.specs.Program.{program_of, row_of}
use Rattle.command_line.proofs.arguments.program.Given as goal

-- the program has the subcommands so far
abbrev pub invariant-loop-row : goal.invariant-loop-row
invariant-loop-row l = app_of l.program ≡ program_of (map row_of (take l.row-index l.rows))
