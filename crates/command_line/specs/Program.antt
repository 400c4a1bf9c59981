-- A program of subcommands, each with its options, as clap's specifications have one.
use Rattle.std.specs.Prelude.{true, List, Some, is_some, codes, fold, if◌then◌else◌, map}
use Rattle.clap.specs.Simple.{App, Shape, new_app, new_rule, new_shape, on_top, with_subcommand}
use Rattle.clap.specs.Walk.{Rule, Text}
use Rattle.clap.specs.declared.builder.action.ArgAction.TheVariants.{SetTrue}
use Rattle.command_line.specs.declared.table.OptionRow.{OptionRow}
use Rattle.command_line.specs.declared.table.SubcommandRow.{SubcommandRow}

-- an option with a value
abbrev pub with_value : Text → Rule
with_value name = record (new_rule name) { long = Some name; value_names = 1 }

-- an option without a value
abbrev pub flag : Text → Rule
flag name = record (new_rule name) { long = Some name; action = Some SetTrue }

-- a subcommand's name and its options
abbrev pub Row : Type 0
Row = Text × List Rule

-- a row of the code's table
abbrev pub rule_for : OptionRow → Rule
rule_for row = if is_some row.value then with_value row.name.now else flag row.name.now

abbrev pub row_of : SubcommandRow → Row
row_of row = (row.name.now, map rule_for row.options.now)

-- a subcommand with its options
abbrev pub shape_for : Row → Shape
shape_for row = record (new_shape row.0) { rules = row.1 }

-- the program without its subcommands: a subcommand is required, and there is no other argument
abbrev pub bare_program : App
bare_program = on_top (λ top. record top { subcommand_required = true }) (new_app (codes "ptpx"))

-- the program with these subcommands
abbrev pub program_of : List Row → App
program_of rows = fold (λ app row. with_subcommand app (shape_for row)) bare_program rows
