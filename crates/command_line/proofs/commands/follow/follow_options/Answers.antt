use Rattle.std.proofs.Common.{◌≡◌, ◌∙◌, ℕ, Bool, List, Option, Some, None, ap, refl, sym, codes}
use Rattle.std.specs.Prelude.{option_and_then, option_map}
use Rattle.event_codec.specs.declared.port.PortIdentity.{PortIdentity}
use Rattle.clap.specs.Matches.{found_of}
use Rattle.clap.specs.Walk.{Row, rows_of}
use Rattle.command_line.specs.Commands.{follow_options_of, sum_besides}
use Rattle.command_line.specs.Limit.{limit_of}
use Rattle.command_line.specs.Number.{domain_of}
use Rattle.command_line.specs.Options.{is_used, said}
use Rattle.command_line.specs.PortText.{port_identity_of}
use Rattle.command_line.specs.TapText.{tap_besides}
use Rattle.command_options.specs.declared.FollowOptions.{FollowOptions}
use Rattle.command_line.proofs.RowOptions.{is_read, no_answer, value_read}
use Rattle.command_line.proofs.commands.follow.follow_options.Goals as goal

-- the options of `follow` behind the two taps, of what each says
abbrev others_made : Option (List ℕ) → Option (List ℕ) → Option (Option PortIdentity) → Option (Option PortIdentity) → Option (Option ℕ)
    → Option (Option ℕ) → (csv : Bool) → (sums : Option Bool) → Option FollowOptions
others_made from to slaves masters domains limits csv sums =
    option_and_then (λ slave. option_and_then (λ master. option_and_then (λ domain. option_and_then (λ limit. option_map (λ sum. record {
      from = from;
      to = to;
      slave = slave;
      master = master;
      domain = domain;
      limit = limit;
      csv = csv;
      sum = sum;
    }) sums) limits) domains) masters) slaves

-- all of them, of what the first ones say and of the rows
abbrev with_to : List Row → Option (List ℕ) → Option (Option (List ℕ)) → Option FollowOptions
with_to rows from tos = option_and_then (λ to. others_made from to (said port_identity_of (codes "slave") rows)
    (said port_identity_of (codes "master") rows) (said domain_of (codes "domain") rows) (said limit_of (codes "limit") rows) (is_used (codes "csv") rows)
    (sum_besides (is_used (codes "csv") rows) (is_used (codes "sum") rows))) tos

abbrev with_from : List Row → Option (Option (List ℕ)) → Option FollowOptions
with_from rows froms = option_and_then (λ from. with_to rows from (said (tap_besides from) (codes "to") rows)) froms

no_master : (from to : Option (List ℕ)) (slaves : Option (Option PortIdentity)) (domains limits : Option (Option ℕ)) (csv : Bool)
    (sum : Option Bool)
    → others_made from to slaves None domains limits csv sum ≡ None
no_master from to None domains limits csv sum = refl
no_master from to (Some slave) domains limits csv sum = refl

no_domain : (from to : Option (List ℕ)) (slaves masters : Option (Option PortIdentity)) (limits : Option (Option ℕ)) (csv : Bool)
    (sum : Option Bool)
    → others_made from to slaves masters None limits csv sum ≡ None
no_domain from to None masters limits csv sum = refl
no_domain from to (Some slave) None limits csv sum = refl
no_domain from to (Some slave) (Some master) limits csv sum = refl

no_limit : (from to : Option (List ℕ)) (slaves masters : Option (Option PortIdentity)) (domains : Option (Option ℕ)) (csv : Bool)
    (sum : Option Bool)
    → others_made from to slaves masters domains None csv sum ≡ None
no_limit from to None masters domains csv sum = refl
no_limit from to (Some slave) None domains csv sum = refl
no_limit from to (Some slave) (Some master) None csv sum = refl
no_limit from to (Some slave) (Some master) (Some domain) csv sum = refl

no_sum : (from to : Option (List ℕ)) (slaves masters : Option (Option PortIdentity)) (domains limits : Option (Option ℕ)) (csv : Bool)
    → others_made from to slaves masters domains limits csv None ≡ None
no_sum from to None masters domains limits csv = refl
no_sum from to (Some slave) None domains limits csv = refl
no_sum from to (Some slave) (Some master) None limits csv = refl
no_sum from to (Some slave) (Some master) (Some domain) None csv = refl
no_sum from to (Some slave) (Some master) (Some domain) (Some limit) csv = refl

pub returns-in-Err : goal.returns-in-Err
returns-in-Err c =
    let found = found_of c.args.matches.now in
    let rows = rows_of found in
    ap (with_from rows) (value_read (tap_besides None) found (codes "from") None c.in-Err.ensures)

pub returns-in-Err-tap_option : goal.returns-in-Err-tap_option
returns-in-Err-tap_option c =
    let found = found_of c.args.matches.now in
    let rows = rows_of found in
    let from = c.in-Ok.from in
    ap (with_to rows from) (value_read (tap_besides from) found (codes "to") None c.in-Err-tap_option.ensures)
    ∙ ap (with_from rows) (value_read (tap_besides None) found (codes "from") (Some from) c.in-Ok.ensures)

-- of the rows, once the two taps are read
taps_read : (rows : List Row) (from to : Option (List ℕ)) → Some from ≡ said (tap_besides None) (codes "from") rows
    → Some to ≡ said (tap_besides from) (codes "to") rows
    → others_made from to (said port_identity_of (codes "slave") rows) (said port_identity_of (codes "master") rows)
    (said domain_of (codes "domain") rows) (said limit_of (codes "limit") rows) (is_used (codes "csv") rows)
    (sum_besides (is_used (codes "csv") rows) (is_used (codes "sum") rows)) ≡ follow_options_of rows
taps_read rows from to from_is to_is = ap (with_to rows from) to_is ∙ ap (with_from rows) from_is

pub returns-in_err-port_option : goal.returns-in_err-port_option
returns-in_err-port_option c =
    let found = found_of c.args.matches.now in
    let rows = rows_of found in
    let from = c.in-Ok.from in
    let to = c.in-Ok-tap_option.to in
    let masters = said port_identity_of (codes "master") rows in
    let domains = said domain_of (codes "domain") rows in
    let limits = said limit_of (codes "limit") rows in
    let csv = is_used (codes "csv") rows in
    let sum = sum_besides csv (is_used (codes "sum") rows) in
    no_answer c.from_residual.result c.from_residual.ensures.0
    ∙ ap (λ slaves. others_made from to slaves masters domains limits csv sum)
    (value_read port_identity_of found (codes "slave") None c.in_err-port_option.ensures)
    ∙ taps_read rows from to (value_read (tap_besides None) found (codes "from") (Some from) c.in-Ok.ensures)
    (value_read (tap_besides from) found (codes "to") (Some to) c.in-Ok-tap_option.ensures)

pub returns-in_err-port_option-2 : goal.returns-in_err-port_option-2
returns-in_err-port_option-2 c =
    let found = found_of c.args.matches.now in
    let rows = rows_of found in
    let from = c.in-Ok.from in
    let to = c.in-Ok-tap_option.to in
    let slaves = said port_identity_of (codes "slave") rows in
    let domains = said domain_of (codes "domain") rows in
    let limits = said limit_of (codes "limit") rows in
    let csv = is_used (codes "csv") rows in
    let sum = sum_besides csv (is_used (codes "sum") rows) in
    no_answer c.from_residual-in_err-port_option-2.result c.from_residual-in_err-port_option-2.ensures.0
    ∙ sym (no_master from to slaves domains limits csv sum)
    ∙ ap (λ masters. others_made from to slaves masters domains limits csv sum)
    (value_read port_identity_of found (codes "master") None c.in_err-port_option-2.ensures)
    ∙ taps_read rows from to (value_read (tap_besides None) found (codes "from") (Some from) c.in-Ok.ensures)
    (value_read (tap_besides from) found (codes "to") (Some to) c.in-Ok-tap_option.ensures)

pub returns-in_err-domain_option : goal.returns-in_err-domain_option
returns-in_err-domain_option c =
    let found = found_of c.args.matches.now in
    let rows = rows_of found in
    let from = c.in-Ok.from in
    let to = c.in-Ok-tap_option.to in
    let slaves = said port_identity_of (codes "slave") rows in
    let masters = said port_identity_of (codes "master") rows in
    let limits = said limit_of (codes "limit") rows in
    let csv = is_used (codes "csv") rows in
    let sum = sum_besides csv (is_used (codes "sum") rows) in
    no_answer c.from_residual-in_err-domain_option.result c.from_residual-in_err-domain_option.ensures.0
    ∙ sym (no_domain from to slaves masters limits csv sum)
    ∙ ap (λ domains. others_made from to slaves masters domains limits csv sum)
    (value_read domain_of found (codes "domain") None c.in_err-domain_option.ensures)
    ∙ taps_read rows from to (value_read (tap_besides None) found (codes "from") (Some from) c.in-Ok.ensures)
    (value_read (tap_besides from) found (codes "to") (Some to) c.in-Ok-tap_option.ensures)

pub returns-in-Err-limit_option : goal.returns-in-Err-limit_option
returns-in-Err-limit_option c =
    let found = found_of c.args.matches.now in
    let rows = rows_of found in
    let from = c.in-Ok.from in
    let to = c.in-Ok-tap_option.to in
    let slaves = said port_identity_of (codes "slave") rows in
    let masters = said port_identity_of (codes "master") rows in
    let domains = said domain_of (codes "domain") rows in
    let csv = is_used (codes "csv") rows in
    let sum = sum_besides csv (is_used (codes "sum") rows) in
    sym (no_limit from to slaves masters domains csv sum)
    ∙ ap (λ limits. others_made from to slaves masters domains limits csv sum)
    (value_read limit_of found (codes "limit") None c.in-Err-limit_option.ensures)
    ∙ taps_read rows from to (value_read (tap_besides None) found (codes "from") (Some from) c.in-Ok.ensures)
    (value_read (tap_besides from) found (codes "to") (Some to) c.in-Ok-tap_option.ensures)

pub returns-in_err-sum_besides : goal.returns-in_err-sum_besides
returns-in_err-sum_besides c =
    let found = found_of c.args.matches.now in
    let rows = rows_of found in
    let from = c.in-Ok.from in
    let to = c.in-Ok-tap_option.to in
    let slaves = said port_identity_of (codes "slave") rows in
    let masters = said port_identity_of (codes "master") rows in
    let domains = said domain_of (codes "domain") rows in
    let limits = said limit_of (codes "limit") rows in
    let csv = is_used (codes "csv") rows in
    no_answer c.from_residual-in_err-sum_besides.result c.from_residual-in_err-sum_besides.ensures.0
    ∙ sym (no_sum from to slaves masters domains limits csv)
    ∙ ap (λ sums. others_made from to slaves masters domains limits csv sums)
    (c.in_err-sum_besides.ensures
    ∙ ap (λ used. sum_besides used c.is_used-3.result) (is_read found (codes "csv") c.is_used-2.result c.is_used-2.ensures)
    ∙ ap (sum_besides csv) (is_read found (codes "sum") c.is_used-3.result c.is_used-3.ensures))
    ∙ taps_read rows from to (value_read (tap_besides None) found (codes "from") (Some from) c.in-Ok.ensures)
    (value_read (tap_besides from) found (codes "to") (Some to) c.in-Ok-tap_option.ensures)

pub returns : goal.returns
returns c =
    let found = found_of c.args.matches.now in
    let rows = rows_of found in
    let from = c.in-Ok.from in
    let to = c.in-Ok-tap_option.to in
    let slave = c.in_ok-port_option.field-0 in
    let master = c.in_ok-port_option-2.field-0 in
    let domain = c.in_ok-domain_option.field-0 in
    let limit = c.in-Ok-limit_option.limit in
    let masters = said port_identity_of (codes "master") rows in
    let domains = said domain_of (codes "domain") rows in
    let limits = said limit_of (codes "limit") rows in
    let csv = is_used (codes "csv") rows in
    let sum = sum_besides csv (is_used (codes "sum") rows) in
    ap (λ used. others_made from to (Some slave) (Some master) (Some domain) (Some limit) used (Some c.in_ok-sum_besides.field-0))
    (is_read found (codes "csv") c.is_used.result c.is_used.ensures)
    ∙ ap (λ sums. others_made from to (Some slave) (Some master) (Some domain) (Some limit) csv sums)
    (c.in_ok-sum_besides.ensures
    ∙ ap (λ used. sum_besides used c.is_used-3.result) (is_read found (codes "csv") c.is_used-2.result c.is_used-2.ensures)
    ∙ ap (sum_besides csv) (is_read found (codes "sum") c.is_used-3.result c.is_used-3.ensures))
    ∙ ap (λ said. others_made from to (Some slave) (Some master) (Some domain) said csv sum)
    (value_read limit_of found (codes "limit") (Some limit) c.in-Ok-limit_option.ensures)
    ∙ ap (λ said. others_made from to (Some slave) (Some master) said limits csv sum)
    (value_read domain_of found (codes "domain") (Some domain) c.in_ok-domain_option.ensures)
    ∙ ap (λ said. others_made from to (Some slave) said domains limits csv sum)
    (value_read port_identity_of found (codes "master") (Some master) c.in_ok-port_option-2.ensures)
    ∙ ap (λ said. others_made from to said masters domains limits csv sum)
    (value_read port_identity_of found (codes "slave") (Some slave) c.in_ok-port_option.ensures)
    ∙ taps_read rows from to (value_read (tap_besides None) found (codes "from") (Some from) c.in-Ok.ensures)
    (value_read (tap_besides from) found (codes "to") (Some to) c.in-Ok-tap_option.ensures)
