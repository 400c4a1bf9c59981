use Rattle.std.proofs.Common.{◌≡◌, ◌∙◌, ℕ, Bool, List, Option, Some, None, ap, refl, sym, codes}
use Rattle.std.specs.Prelude.{option_and_then, option_map}
use Rattle.event_codec.specs.declared.port.PortIdentity.{PortIdentity}
use Rattle.clap.specs.Matches.{found_of}
use Rattle.clap.specs.Walk.{Row, rows_of}
use Rattle.capture_file.specs.declared.name.InterfaceName.{InterfaceName}
use Rattle.datagram_source.specs.declared.readings.Readings.{Readings}
use Rattle.capture_file.specs.Name.{interface_name}
use Rattle.command_line.specs.Limit.{limit_of}
use Rattle.command_line.specs.Number.{domain_of}
use Rattle.command_line.specs.Options.{is_used, readings_of, said}
use Rattle.command_line.specs.PortText.{port_identity_of}
use Rattle.command_options.specs.declared.AuditOptions.{AuditOptions}
use Rattle.command_line.proofs.RowOptions.{is_read, no_answer, value_read}
use Rattle.command_line.proofs.commands.audit.audit_options.Goals as goal

-- the options of `audit`, of what each says
abbrev audit_made : Option (Option PortIdentity) → Option (Option PortIdentity) → Option (Option ℕ)
    → Option (Option InterfaceName) → Option (Option Readings) → Option (Option ℕ) → (csv offset_only : Bool) → Option AuditOptions
audit_made slaves masters domains interfaces readings tolerances csv offset_only =
    option_and_then (λ slave. option_and_then (λ master. option_and_then (λ domain. option_and_then (λ interface.
    option_and_then (λ reading. option_map (λ tolerance. record {
      slave = slave;
      master = master;
      domain = domain;
      interface = interface;
      readings = reading;
      tolerance = tolerance;
      csv = csv;
      offset_only = offset_only;
    }) tolerances) readings) interfaces) domains) masters) slaves

-- the same, where what the options say that have no value is of the rows
abbrev made_of_rows : List Row → Option (Option PortIdentity) → Option (Option PortIdentity) → Option (Option ℕ)
    → Option (Option InterfaceName) → Option (Option Readings) → Option (Option ℕ) → Option AuditOptions
made_of_rows rows slaves masters domains interfaces readings tolerances =
    audit_made slaves masters domains interfaces readings tolerances (is_used (codes "csv") rows) (is_used (codes "offset-only") rows)

module _ (rows : List Row) where
  no_master : (slaves : Option (Option PortIdentity)) (domains : Option (Option ℕ)) (interfaces : Option (Option InterfaceName))
      (readings : Option (Option Readings)) (tolerances : Option (Option ℕ))
      → made_of_rows rows slaves None domains interfaces readings tolerances ≡ None
  no_master None domains interfaces readings tolerances = refl
  no_master (Some slave) domains interfaces readings tolerances = refl

  no_domain : (slaves masters : Option (Option PortIdentity)) (interfaces : Option (Option InterfaceName))
      (readings : Option (Option Readings)) (tolerances : Option (Option ℕ))
      → made_of_rows rows slaves masters None interfaces readings tolerances ≡ None
  no_domain None masters interfaces readings tolerances = refl
  no_domain (Some slave) None interfaces readings tolerances = refl
  no_domain (Some slave) (Some master) interfaces readings tolerances = refl

  no_interface : (slaves masters : Option (Option PortIdentity)) (domains : Option (Option ℕ)) (readings : Option (Option Readings))
      (tolerances : Option (Option ℕ)) → made_of_rows rows slaves masters domains None readings tolerances ≡ None
  no_interface None masters domains readings tolerances = refl
  no_interface (Some slave) None domains readings tolerances = refl
  no_interface (Some slave) (Some master) None readings tolerances = refl
  no_interface (Some slave) (Some master) (Some domain) readings tolerances = refl

  no_readings : (slaves masters : Option (Option PortIdentity)) (domains : Option (Option ℕ)) (interfaces : Option (Option InterfaceName))
      (tolerances : Option (Option ℕ)) → made_of_rows rows slaves masters domains interfaces None tolerances ≡ None
  no_readings None masters domains interfaces tolerances = refl
  no_readings (Some slave) None domains interfaces tolerances = refl
  no_readings (Some slave) (Some master) None interfaces tolerances = refl
  no_readings (Some slave) (Some master) (Some domain) None tolerances = refl
  no_readings (Some slave) (Some master) (Some domain) (Some interface) tolerances = refl

  no_tolerance : (slaves masters : Option (Option PortIdentity)) (domains : Option (Option ℕ)) (interfaces : Option (Option InterfaceName))
      (readings : Option (Option Readings)) → made_of_rows rows slaves masters domains interfaces readings None ≡ None
  no_tolerance None masters domains interfaces readings = refl
  no_tolerance (Some slave) None domains interfaces readings = refl
  no_tolerance (Some slave) (Some master) None interfaces readings = refl
  no_tolerance (Some slave) (Some master) (Some domain) None readings = refl
  no_tolerance (Some slave) (Some master) (Some domain) (Some interface) None = refl
  no_tolerance (Some slave) (Some master) (Some domain) (Some interface) (Some reading) = refl

pub returns-in-Err : goal.returns-in-Err
returns-in-Err c =
    let found = found_of c.args.matches.now in
    let rows = rows_of found in
    let slaves = said port_identity_of (codes "slave") rows in
    let masters = said port_identity_of (codes "master") rows in
    let domains = said domain_of (codes "domain") rows in
    let interfaces = said interface_name (codes "interface") rows in
    let tolerances = said limit_of (codes "tolerance") rows in
    sym (no_readings rows slaves masters domains interfaces tolerances)
    ∙ ap (λ readings. made_of_rows rows slaves masters domains interfaces readings tolerances)
    (value_read readings_of found (codes "readings") None c.in-Err.ensures)

pub returns-in-Err-limit_option : goal.returns-in-Err-limit_option
returns-in-Err-limit_option c =
    let found = found_of c.args.matches.now in
    let rows = rows_of found in
    let slaves = said port_identity_of (codes "slave") rows in
    let masters = said port_identity_of (codes "master") rows in
    let domains = said domain_of (codes "domain") rows in
    let interfaces = said interface_name (codes "interface") rows in
    let readings = said readings_of (codes "readings") rows in
    sym (no_tolerance rows slaves masters domains interfaces readings)
    ∙ ap (made_of_rows rows slaves masters domains interfaces readings)
    (value_read limit_of found (codes "tolerance") None c.in-Err-limit_option.ensures)

pub returns-in_err-port_option : goal.returns-in_err-port_option
returns-in_err-port_option c =
    let found = found_of c.args.matches.now in
    let rows = rows_of found in
    let masters = said port_identity_of (codes "master") rows in
    let domains = said domain_of (codes "domain") rows in
    let interfaces = said interface_name (codes "interface") rows in
    let readings = said readings_of (codes "readings") rows in
    let tolerances = said limit_of (codes "tolerance") rows in
    no_answer c.from_residual.result c.from_residual.ensures.0
    ∙ ap (λ slaves. made_of_rows rows slaves masters domains interfaces readings tolerances)
    (value_read port_identity_of found (codes "slave") None c.in_err-port_option.ensures)

pub returns-in_err-port_option-2 : goal.returns-in_err-port_option-2
returns-in_err-port_option-2 c =
    let found = found_of c.args.matches.now in
    let rows = rows_of found in
    let slaves = said port_identity_of (codes "slave") rows in
    let domains = said domain_of (codes "domain") rows in
    let interfaces = said interface_name (codes "interface") rows in
    let readings = said readings_of (codes "readings") rows in
    let tolerances = said limit_of (codes "tolerance") rows in
    no_answer c.from_residual-in_err-port_option-2.result c.from_residual-in_err-port_option-2.ensures.0
    ∙ sym (no_master rows slaves domains interfaces readings tolerances)
    ∙ ap (λ masters. made_of_rows rows slaves masters domains interfaces readings tolerances)
    (value_read port_identity_of found (codes "master") None c.in_err-port_option-2.ensures)

pub returns-in_err-domain_option : goal.returns-in_err-domain_option
returns-in_err-domain_option c =
    let found = found_of c.args.matches.now in
    let rows = rows_of found in
    let slaves = said port_identity_of (codes "slave") rows in
    let masters = said port_identity_of (codes "master") rows in
    let interfaces = said interface_name (codes "interface") rows in
    let readings = said readings_of (codes "readings") rows in
    let tolerances = said limit_of (codes "tolerance") rows in
    no_answer c.from_residual-in_err-domain_option.result c.from_residual-in_err-domain_option.ensures.0
    ∙ sym (no_domain rows slaves masters interfaces readings tolerances)
    ∙ ap (λ domains. made_of_rows rows slaves masters domains interfaces readings tolerances)
    (value_read domain_of found (codes "domain") None c.in_err-domain_option.ensures)

pub returns-in_err-interface_option : goal.returns-in_err-interface_option
returns-in_err-interface_option c =
    let found = found_of c.args.matches.now in
    let rows = rows_of found in
    let slaves = said port_identity_of (codes "slave") rows in
    let masters = said port_identity_of (codes "master") rows in
    let domains = said domain_of (codes "domain") rows in
    let readings = said readings_of (codes "readings") rows in
    let tolerances = said limit_of (codes "tolerance") rows in
    no_answer c.from_residual-in_err-interface_option.result c.from_residual-in_err-interface_option.ensures.0
    ∙ sym (no_interface rows slaves masters domains readings tolerances)
    ∙ ap (λ interfaces. made_of_rows rows slaves masters domains interfaces readings tolerances)
    (value_read interface_name found (codes "interface") None c.in_err-interface_option.ensures)

pub returns : goal.returns
returns c =
    let found = found_of c.args.matches.now in
    let rows = rows_of found in
    let slave = c.in_ok-port_option.field-0 in
    let master = c.in_ok-port_option-2.field-0 in
    let domain = c.in_ok-domain_option.field-0 in
    let interface = c.in_ok-interface_option.field-0 in
    let reading = c.in-Ok.readings in
    let tolerance = c.in-Ok-limit_option.tolerance in
    let masters = said port_identity_of (codes "master") rows in
    let domains = said domain_of (codes "domain") rows in
    let interfaces = said interface_name (codes "interface") rows in
    let readings = said readings_of (codes "readings") rows in
    let tolerances = said limit_of (codes "tolerance") rows in
    (λ i. audit_made (Some slave) (Some master) (Some domain) (Some interface) (Some reading) (Some tolerance)
    (is_read found (codes "csv") c.is_used.result c.is_used.ensures i)
    (is_read found (codes "offset-only") c.is_used-2.result c.is_used-2.ensures i))
    ∙ ap (made_of_rows rows (Some slave) (Some master) (Some domain) (Some interface) (Some reading))
    (value_read limit_of found (codes "tolerance") (Some tolerance) c.in-Ok-limit_option.ensures)
    ∙ ap (λ said. made_of_rows rows (Some slave) (Some master) (Some domain) (Some interface) said tolerances)
    (value_read readings_of found (codes "readings") (Some reading) c.in-Ok.ensures)
    ∙ ap (λ said. made_of_rows rows (Some slave) (Some master) (Some domain) said readings tolerances)
    (value_read interface_name found (codes "interface") (Some interface) c.in_ok-interface_option.ensures)
    ∙ ap (λ said. made_of_rows rows (Some slave) (Some master) said interfaces readings tolerances)
    (value_read domain_of found (codes "domain") (Some domain) c.in_ok-domain_option.ensures)
    ∙ ap (λ said. made_of_rows rows (Some slave) said domains interfaces readings tolerances)
    (value_read port_identity_of found (codes "master") (Some master) c.in_ok-port_option-2.ensures)
    ∙ ap (λ said. made_of_rows rows said masters domains interfaces readings tolerances)
    (value_read port_identity_of found (codes "slave") (Some slave) c.in_ok-port_option.ensures)
