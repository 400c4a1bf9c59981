use Rattle.std.proofs.Common.{◌∙◌, Bool, Option, Some, None, ap, ap₂, codes}
use Rattle.std.specs.Prelude.{option_map}
use Rattle.clap.specs.Matches.{found_of}
use Rattle.clap.specs.Walk.{rows_of}
use Rattle.capture_file.specs.declared.name.InterfaceName.{InterfaceName}
use Rattle.capture_file.specs.Name.{interface_name}
use Rattle.command_line.specs.Options.{is_used}
use Rattle.command_options.specs.declared.ExtractOptions.{ExtractOptions}
use Rattle.command_line.proofs.RowOptions.{is_read, no_answer, value_read}
use Rattle.command_line.proofs.commands.extract.extract_options.Goals as goal

-- the options of `extract`, of what each says
abbrev extract_made : Option (Option InterfaceName) → Bool → Bool → Option ExtractOptions
extract_made interfaces octets list =
    option_map (λ interface. record { interface = interface; octets = octets; list = list }) interfaces

pub returns-in_err-interface_option : goal.returns-in_err-interface_option
returns-in_err-interface_option c =
    let found = found_of c.args.matches.now in
    let rows = rows_of found in
    no_answer c.from_residual.result c.from_residual.ensures.0
    ∙ ap (λ interfaces. extract_made interfaces (is_used (codes "octets") rows) (is_used (codes "list") rows))
    (value_read interface_name found (codes "interface") None c.in_err-interface_option.ensures)

pub returns : goal.returns
returns c =
    let found = found_of c.args.matches.now in
    let rows = rows_of found in
    let interface = c.in_ok-interface_option.field-0 in
    ap₂ (extract_made (Some interface)) (is_read found (codes "octets") c.is_used.result c.is_used.ensures)
    (is_read found (codes "list") c.is_used-2.result c.is_used-2.ensures)
    ∙ ap (λ said. extract_made said (is_used (codes "octets") rows) (is_used (codes "list") rows))
    (value_read interface_name found (codes "interface") (Some interface) c.in_ok-interface_option.ensures)
