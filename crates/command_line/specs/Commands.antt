-- The subcommands of `ptpx`: their names and options, and what is asked for by the rows that clap's matches have of these.
use Rattle.std.specs.Prelude.{◌&&◌, ◌||◌, Bool, List, [], ◌∷◌, Option, Some, None, codes, if◌then◌else◌, option_and_then, option_map}
use Rattle.std.specs.Str.{bytes_eq}
use Rattle.clap.specs.Simple.{App}
use Rattle.clap.specs.Walk as matches
use Rattle.clap.specs.Walk.{Text}
use Rattle.command_line.specs.declared.commands.Subcommand.{Subcommand}
use Rattle.command_line.specs.declared.commands.Subcommand.TheVariants.{Show, Replay, Check, Extract, Measure, Audit, Follow, Explain}
use Rattle.command_options.specs.declared.AuditOptions.{AuditOptions}
use Rattle.command_options.specs.declared.ExplainOptions.{ExplainOptions}
use Rattle.command_options.specs.declared.ExtractOptions.{ExtractOptions}
use Rattle.command_options.specs.declared.FollowOptions.{FollowOptions}
use Rattle.command_options.specs.declared.MeasureOptions.{MeasureOptions}
use Rattle.capture_file.specs.Name.{interface_name}
use Rattle.command_line.specs.Limit.{limit_of}
use Rattle.command_line.specs.Number.{domain_of}
use Rattle.command_line.specs.Options.{is_used, readings_of, said}
use Rattle.command_line.specs.PortText.{port_identity_of}
use Rattle.command_line.specs.Program.{Row, flag, program_of, with_value}
use Rattle.command_line.specs.TapText.{tap_besides}

-- the subcommands of `ptpx`, in the order of the help
abbrev pub subcommands : List Row
subcommands =
    (codes "show", [])
    ∷ (codes "replay", [])
    ∷ (codes "check", [])
    ∷ (codes "extract", flag (codes "octets") ∷ flag (codes "list") ∷ with_value (codes "interface") ∷ [])
    ∷ (
      codes "measure",
      with_value (codes "slave") ∷ with_value (codes "master") ∷ with_value (codes "domain") ∷ with_value (codes "interface")
          ∷ with_value (codes "readings") ∷ with_value (codes "limit") ∷ flag (codes "csv") ∷ flag (codes "full") ∷ flag (codes "strict") ∷ flag (codes "sum") ∷ [],
    )
    ∷ (
      codes "audit",
      with_value (codes "slave") ∷ with_value (codes "master") ∷ with_value (codes "domain") ∷ with_value (codes "interface")
          ∷ with_value (codes "readings") ∷ with_value (codes "tolerance") ∷ flag (codes "csv") ∷ flag (codes "offset-only") ∷ [],
    )
    ∷ (
      codes "follow",
      with_value (codes "from") ∷ with_value (codes "to") ∷ with_value (codes "slave") ∷ with_value (codes "master")
          ∷ with_value (codes "domain") ∷ with_value (codes "limit") ∷ flag (codes "csv") ∷ flag (codes "sum") ∷ [],
    )
    ∷ (codes "explain", flag (codes "first") ∷ flag (codes "json") ∷ [])
    ∷ []

-- the options of `extract`, where the value is one
abbrev pub extract_options_of : List matches.Row → Option ExtractOptions
extract_options_of rows = option_map (λ interface.
    record { interface = interface; octets = is_used (codes "octets") rows; list = is_used (codes "list") rows })
    (said interface_name (codes "interface") rows)

-- whether sums are asked for, unless CSV or what reports were made of is, too
abbrev pub sum_alone : (csv full sum : Bool) → Option Bool
sum_alone csv full sum = if (csv || full) && sum then None else Some sum

-- the options of `measure`, where each value is one, and sums are asked for alone
abbrev pub measure_options_of : List matches.Row → Option MeasureOptions
measure_options_of rows = option_and_then (λ slave. option_and_then (λ master. option_and_then (λ domain.
    option_and_then (λ interface. option_and_then (λ readings. option_and_then (λ limit. option_map (λ sum. record {
      slave = slave;
      master = master;
      domain = domain;
      interface = interface;
      readings = readings;
      limit = limit;
      csv = is_used (codes "csv") rows;
      full = is_used (codes "full") rows;
      strict = is_used (codes "strict") rows;
      sum = sum;
    })
    (sum_alone (is_used (codes "csv") rows) (is_used (codes "full") rows) (is_used (codes "sum") rows)))
    (said limit_of (codes "limit") rows))
    (said readings_of (codes "readings") rows))
    (said interface_name (codes "interface") rows))
    (said domain_of (codes "domain") rows))
    (said port_identity_of (codes "master") rows))
    (said port_identity_of (codes "slave") rows)

-- the options of `audit`, where each value is one
abbrev pub audit_options_of : List matches.Row → Option AuditOptions
audit_options_of rows = option_and_then (λ slave. option_and_then (λ master. option_and_then (λ domain.
    option_and_then (λ interface. option_and_then (λ readings. option_map (λ tolerance. record {
      slave = slave;
      master = master;
      domain = domain;
      interface = interface;
      readings = readings;
      tolerance = tolerance;
      csv = is_used (codes "csv") rows;
      offset_only = is_used (codes "offset-only") rows;
    })
    (said limit_of (codes "tolerance") rows))
    (said readings_of (codes "readings") rows))
    (said interface_name (codes "interface") rows))
    (said domain_of (codes "domain") rows))
    (said port_identity_of (codes "master") rows))
    (said port_identity_of (codes "slave") rows)

-- whether sums are asked for, unless CSV is, too
abbrev pub sum_besides : (csv sum : Bool) → Option Bool
sum_besides csv sum = if csv && sum then None else Some sum

-- the options of `follow`, where each value is one, the two taps aren't the same, and not both CSV and sums are asked for
abbrev pub follow_options_of : List matches.Row → Option FollowOptions
follow_options_of rows = option_and_then (λ from. option_and_then (λ to. option_and_then (λ slave. option_and_then (λ master.
    option_and_then (λ domain. option_and_then (λ limit. option_map (λ sum. record {
      from = from;
      to = to;
      slave = slave;
      master = master;
      domain = domain;
      limit = limit;
      csv = is_used (codes "csv") rows;
      sum = sum;
    })
    (sum_besides (is_used (codes "csv") rows) (is_used (codes "sum") rows)))
    (said limit_of (codes "limit") rows))
    (said domain_of (codes "domain") rows))
    (said port_identity_of (codes "master") rows))
    (said port_identity_of (codes "slave") rows))
    (said (tap_besides from) (codes "to") rows))
    (said (tap_besides None) (codes "from") rows)

-- the options of `explain`
abbrev pub explain_options_of : List matches.Row → ExplainOptions
explain_options_of rows = record { first = is_used (codes "first") rows; json = is_used (codes "json") rows }

-- the subcommand of a name, with the options that its rows say
abbrev pub chosen : Text → List matches.Row → Option Subcommand
chosen name rows =
    if bytes_eq name (codes "show") then Some Show
    else if bytes_eq name (codes "replay") then Some Replay
    else if bytes_eq name (codes "check") then Some Check
    else if bytes_eq name (codes "extract") then option_map (λ options. Extract options) (extract_options_of rows)
    else if bytes_eq name (codes "measure") then option_map (λ options. Measure options) (measure_options_of rows)
    else if bytes_eq name (codes "audit") then option_map (λ options. Audit options) (audit_options_of rows)
    else if bytes_eq name (codes "follow") then option_map (λ options. Follow options) (follow_options_of rows)
    else if bytes_eq name (codes "explain") then Some (Explain (explain_options_of rows))
    else None

-- the subcommand that was met under its name, with its rows
abbrev pub chosen_of : Option (Text × List matches.Row) → Option Subcommand
chosen_of met = option_and_then (λ m. chosen m.0 m.1) met

-- `ptpx`
abbrev pub program : App
program = program_of subcommands
