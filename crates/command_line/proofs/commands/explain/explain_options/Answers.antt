use Rattle.std.proofs.Common.{Bool, ap₂, codes}
use Rattle.clap.specs.Matches.{found_of}
use Rattle.command_line.proofs.RowOptions.{is_read}
use Rattle.command_options.specs.declared.ExplainOptions.{ExplainOptions}
use Rattle.command_line.proofs.commands.explain.explain_options.Goals as goal

-- the options of `explain`, of what each says
abbrev explain_made : Bool → Bool → ExplainOptions
explain_made first json = record { first = first; json = json }

pub returns : goal.returns
returns c =
    let found = found_of c.args.matches.now in
    ap₂ explain_made (is_read found (codes "first") c.is_used.result c.is_used.ensures)
    (is_read found (codes "json") c.is_used-2.result c.is_used-2.ensures)
