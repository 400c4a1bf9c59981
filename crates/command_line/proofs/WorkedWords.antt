-- Words, and what they name: a subcommand with its options, help, or nothing.
use Rattle.std.proofs.Common.{◌≡◌, false, true, refl, List, [], ◌∷◌, ℕ, Some, None, codes, sym, ◌∙◌, ◌*◌}
use Rattle.std.specs.Str.{chars}
use Rattle.hex.proofs.OnLiterals.{hex_on_literals}
use Rattle.clap.proofs.OnLiterals.{clap_on_literals}
use Rattle.clap.specs.Faults.{walk_fault}
use Rattle.clap.specs.Kinds.{Kinds}
use Rattle.clap.specs.Walk.{walked}
use Rattle.clap.specs.declared.error.kind.ErrorKind.{ErrorKind}
use Rattle.clap.specs.declared.error.kind.ErrorKind.TheVariants as kind
use Rattle.command_line.specs.Arguments.{HasHelpFlag, Names, NamesNothing, faults_in, named_in}
use Rattle.capture_file.specs.Name.{interface_name}
use Rattle.command_line.specs.Limit.{limit_of}
use Rattle.command_line.specs.Number.{domain_of}
use Rattle.command_line.specs.PortText.{port_identity_of}
use Rattle.command_line.specs.declared.commands.Subcommand.TheVariants.{Show, Replay, Check, Extract, Measure, Audit, Follow, Explain}

-- ---- words of the program

-- words of which clap refuses one name no subcommand
refused : (words : List (List ℕ)) (k : ErrorKind) (ks : Kinds) → faults_in words ≡ k ∷ ks → NamesNothing words
refused words k ks is s named = let both : k ∷ ks ≡ [] = sym is ∙ named.0 in cc

-- a value that writes nothing
no_options : (words : List (List ℕ)) → named_in words ≡ None → NamesNothing words
no_options words is s named = let both : None ≡ Some s = sym is ∙ named.1 in cc

name_alone : Names (codes "ptpx" ∷ codes "show" ∷ [])
    (Show)
unfolding clap_on_literals walk_fault walked hex_on_literals chars faults_in named_in
name_alone = (refl, refl)

name_and_mark : Names (codes "ptpx" ∷ codes "show" ∷ codes "--" ∷ [])
    (Show)
unfolding clap_on_literals walk_fault walked hex_on_literals chars faults_in named_in
name_and_mark = (refl, refl)

measured : Names (codes "ptpx" ∷ codes "measure" ∷ codes "--csv" ∷ codes "--slave" ∷ codes "00aabbfffeccddee/1" ∷ [])
    (Measure (record {
      slave = Some (record { clock = 0 ∷ 170 ∷ 187 ∷ 255 ∷ 254 ∷ 204 ∷ 221 ∷ 238 ∷ []; port = 1 });
      master = None;
      domain = None;
      interface = None;
      readings = None;
      limit = None;
      csv = true;
      full = false;
      strict = false;
      sum = false;
    }))
unfolding clap_on_literals walk_fault walked hex_on_literals chars faults_in named_in
measured = (refl, refl)

followed : Names (codes "ptpx" ∷ codes "follow" ∷ codes "--to=right" ∷ codes "--from" ∷ codes "left" ∷ [])
    (Follow (record {
      from = Some (codes "left");
      to = Some (codes "right");
      slave = None;
      master = None;
      domain = None;
      limit = None;
      csv = false;
      sum = false;
    }))
unfolding clap_on_literals walk_fault walked hex_on_literals chars faults_in named_in
followed = (refl, refl)

one_tap : NamesNothing (codes "ptpx" ∷ codes "follow" ∷ codes "--from" ∷ codes "left" ∷ codes "--to" ∷ codes "left" ∷ [])
unfolding clap_on_literals walk_fault walked hex_on_literals chars faults_in named_in
one_tap = no_options (codes "ptpx" ∷ codes "follow" ∷ codes "--from" ∷ codes "left" ∷ codes "--to" ∷ codes "left" ∷ []) refl

summed : Names (codes "ptpx" ∷ codes "follow" ∷ codes "--limit=12.5" ∷ codes "--sum" ∷ [])
    (Follow (record {
      from = None;
      to = None;
      slave = None;
      master = None;
      domain = None;
      limit = Some 819200000000000;
      csv = false;
      sum = true;
    }))
unfolding clap_on_literals walk_fault walked hex_on_literals chars faults_in named_in
summed = (refl, refl)

measured_sums : Names (codes "ptpx" ∷ codes "measure" ∷ codes "--sum" ∷ codes "--strict" ∷ [])
    (Measure (record {
      slave = None;
      master = None;
      domain = None;
      interface = None;
      readings = None;
      limit = None;
      csv = false;
      full = false;
      strict = true;
      sum = true;
    }))
unfolding clap_on_literals walk_fault walked hex_on_literals chars faults_in named_in
measured_sums = (refl, refl)

sums_in_full : NamesNothing (codes "ptpx" ∷ codes "measure" ∷ codes "--sum" ∷ codes "--full" ∷ [])
unfolding clap_on_literals walk_fault walked hex_on_literals chars faults_in named_in
sums_in_full = no_options (codes "ptpx" ∷ codes "measure" ∷ codes "--sum" ∷ codes "--full" ∷ []) refl

rows_of_sums : NamesNothing (codes "ptpx" ∷ codes "follow" ∷ codes "--sum" ∷ codes "--csv" ∷ [])
unfolding clap_on_literals walk_fault walked hex_on_literals chars faults_in named_in
rows_of_sums = no_options (codes "ptpx" ∷ codes "follow" ∷ codes "--sum" ∷ codes "--csv" ∷ []) refl

limit_below_0 : NamesNothing (codes "ptpx" ∷ codes "follow" ∷ codes "--limit=-1" ∷ [])
unfolding clap_on_literals walk_fault walked hex_on_literals chars faults_in named_in
limit_below_0 = no_options (codes "ptpx" ∷ codes "follow" ∷ codes "--limit=-1" ∷ []) refl

audited : Names (codes "ptpx" ∷ codes "audit" ∷ codes "--offset-only" ∷ codes "--tolerance=0.5" ∷ codes "--slave" ∷ codes "00aabbfffeccddee/1" ∷ [])
    (Audit (record {
      slave = Some (record { clock = 0 ∷ 170 ∷ 187 ∷ 255 ∷ 254 ∷ 204 ∷ 221 ∷ 238 ∷ []; port = 1 });
      master = None;
      domain = None;
      interface = None;
      readings = None;
      tolerance = Some 32768000000000;
      csv = false;
      offset_only = true;
    }))
unfolding clap_on_literals walk_fault walked hex_on_literals chars faults_in named_in
audited = (refl, refl)

limit_of_audit : NamesNothing (codes "ptpx" ∷ codes "audit" ∷ codes "--limit" ∷ codes "1" ∷ [])
unfolding clap_on_literals walk_fault walked hex_on_literals chars faults_in named_in
limit_of_audit = refused (codes "ptpx" ∷ codes "audit" ∷ codes "--limit" ∷ codes "1" ∷ []) kind.UnknownArgument [] refl

explained : Names (codes "ptpx" ∷ codes "explain" ∷ codes "--json" ∷ codes "--first" ∷ [])
    (Explain (record { first = true; json = true }))
unfolding clap_on_literals walk_fault walked hex_on_literals chars faults_in named_in
explained = (refl, refl)

explained_whole : Names (codes "ptpx" ∷ codes "explain" ∷ [])
    (Explain (record { first = false; json = false }))
unfolding clap_on_literals walk_fault walked hex_on_literals chars faults_in named_in
explained_whole = (refl, refl)

extracted : Names (codes "ptpx" ∷ codes "extract" ∷ codes "--octets" ∷ [])
    (Extract (record { interface = None; octets = true; list = false }))
unfolding clap_on_literals walk_fault walked hex_on_literals chars faults_in named_in
extracted = (refl, refl)

listed : Names (codes "ptpx" ∷ codes "extract" ∷ codes "--interface" ∷ codes "eth0" ∷ codes "--list" ∷ [])
    (Extract (record { interface = interface_name (codes "eth0"); octets = false; list = true }))
unfolding clap_on_literals walk_fault walked hex_on_literals chars faults_in named_in
listed = (refl, refl)

empty_interface : NamesNothing (codes "ptpx" ∷ codes "extract" ∷ codes "--interface=" ∷ [])
unfolding clap_on_literals walk_fault walked hex_on_literals chars faults_in named_in
empty_interface = no_options (codes "ptpx" ∷ codes "extract" ∷ codes "--interface=" ∷ []) refl

second_name : Names (codes "ptpx" ∷ codes "replay" ∷ []) Replay
unfolding clap_on_literals walk_fault walked hex_on_literals chars faults_in named_in
second_name = (refl, refl)

third_name : Names (codes "ptpx" ∷ codes "check" ∷ []) Check
unfolding clap_on_literals walk_fault walked hex_on_literals chars faults_in named_in
third_name = (refl, refl)

values_behind_both : Names (codes "ptpx" ∷ codes "measure" ∷ codes "--master=00aabb.fffe.ccddee-2" ∷ codes "--domain" ∷ codes "7" ∷ [])
    (Measure (record {
      slave = None;
      master = Some (record { clock = 0 ∷ 170 ∷ 187 ∷ 255 ∷ 254 ∷ 204 ∷ 221 ∷ 238 ∷ []; port = 2 });
      domain = Some 7;
      interface = None;
      readings = None;
      limit = None;
      csv = false;
      full = false;
      strict = false;
      sum = false;
    }))
unfolding clap_on_literals walk_fault walked hex_on_literals chars faults_in named_in
values_behind_both = (refl, refl)

mark_behind_option : Names (codes "ptpx" ∷ codes "measure" ∷ codes "--csv" ∷ codes "--" ∷ [])
    (Measure (record { slave = None; master = None; domain = None; interface = None; readings = None; limit = None; csv = true; full = false; strict = false; sum = false }))
unfolding clap_on_literals walk_fault walked hex_on_literals chars faults_in named_in
mark_behind_option = (refl, refl)

strictly : Names (codes "ptpx" ∷ codes "measure" ∷ codes "--limit" ∷ codes "12.5" ∷ codes "--strict" ∷ [])
    (Measure (record {
      slave = None;
      master = None;
      domain = None;
      interface = None;
      readings = None;
      limit = Some 819200000000000;
      csv = false;
      full = false;
      strict = true;
      sum = false;
    }))
unfolding clap_on_literals walk_fault walked hex_on_literals chars faults_in named_in
strictly = (refl, refl)

in_full : Names (codes "ptpx" ∷ codes "measure" ∷ codes "--full" ∷ [])
    (Measure (record { slave = None; master = None; domain = None; interface = None; readings = None; limit = None; csv = false; full = true; strict = false; sum = false }))
unfolding clap_on_literals walk_fault walked hex_on_literals chars faults_in named_in
in_full = (refl, refl)

empty_value : NamesNothing (codes "ptpx" ∷ codes "measure" ∷ codes "--slave=" ∷ [])
unfolding clap_on_literals walk_fault walked hex_on_literals chars faults_in named_in
empty_value = no_options (codes "ptpx" ∷ codes "measure" ∷ codes "--slave=" ∷ []) refl

repeated_before_help : NamesNothing (codes "ptpx" ∷ codes "measure" ∷ codes "--csv" ∷ codes "--csv" ∷ codes "--help" ∷ [])
unfolding clap_on_literals walk_fault walked hex_on_literals chars faults_in named_in
repeated_before_help = refused (codes "ptpx" ∷ codes "measure" ∷ codes "--csv" ∷ codes "--csv" ∷ codes "--help" ∷ []) kind.ArgumentConflict [] refl

help_with_more_letters : HasHelpFlag (codes "ptpx" ∷ codes "show" ∷ codes "-hx" ∷ [])
unfolding clap_on_literals walk_fault walked hex_on_literals chars faults_in named_in
help_with_more_letters = refl

no_name : NamesNothing (codes "ptpx" ∷ [])
unfolding clap_on_literals walk_fault walked hex_on_literals chars faults_in named_in
no_name = refused (codes "ptpx" ∷ []) kind.MissingSubcommand [] refl

no_such_name : NamesNothing (codes "ptpx" ∷ codes "shown" ∷ [])
unfolding clap_on_literals walk_fault walked hex_on_literals chars faults_in named_in
no_such_name = refused (codes "ptpx" ∷ codes "shown" ∷ []) kind.UnknownArgument (kind.InvalidSubcommand ∷ []) refl

word_past_name : NamesNothing (codes "ptpx" ∷ codes "replay" ∷ codes "x" ∷ [])
unfolding clap_on_literals walk_fault walked hex_on_literals chars faults_in named_in
word_past_name = refused (codes "ptpx" ∷ codes "replay" ∷ codes "x" ∷ []) kind.UnknownArgument [] refl

flag_with_value : NamesNothing (codes "ptpx" ∷ codes "explain" ∷ codes "--first=x" ∷ [])
unfolding clap_on_literals walk_fault walked hex_on_literals chars faults_in named_in
flag_with_value = refused (codes "ptpx" ∷ codes "explain" ∷ codes "--first=x" ∷ []) kind.TooManyValues [] refl

repeated : NamesNothing (codes "ptpx" ∷ codes "measure" ∷ codes "--csv" ∷ codes "--csv" ∷ [])
unfolding clap_on_literals walk_fault walked hex_on_literals chars faults_in named_in
repeated = refused (codes "ptpx" ∷ codes "measure" ∷ codes "--csv" ∷ codes "--csv" ∷ []) kind.ArgumentConflict [] refl

word_past_mark : NamesNothing (codes "ptpx" ∷ codes "measure" ∷ codes "--" ∷ codes "--csv" ∷ [])
unfolding clap_on_literals walk_fault walked hex_on_literals chars faults_in named_in
word_past_mark = refused (codes "ptpx" ∷ codes "measure" ∷ codes "--" ∷ codes "--csv" ∷ []) kind.UnknownArgument [] refl

option_of_the_other : NamesNothing (codes "ptpx" ∷ codes "explain" ∷ codes "--csv" ∷ [])
unfolding clap_on_literals walk_fault walked hex_on_literals chars faults_in named_in
option_of_the_other = refused (codes "ptpx" ∷ codes "explain" ∷ codes "--csv" ∷ []) kind.UnknownArgument [] refl

help_in_front : HasHelpFlag (codes "ptpx" ∷ codes "--help" ∷ [])
unfolding clap_on_literals walk_fault walked hex_on_literals chars faults_in named_in
help_in_front = refl

help_of_measure : HasHelpFlag (codes "ptpx" ∷ codes "measure" ∷ codes "-h" ∷ [])
unfolding clap_on_literals walk_fault walked hex_on_literals chars faults_in named_in
help_of_measure = refl

help_after_option : HasHelpFlag (codes "ptpx" ∷ codes "explain" ∷ codes "--first" ∷ codes "--help" ∷ codes "y" ∷ [])
unfolding clap_on_literals walk_fault walked hex_on_literals chars faults_in named_in
help_after_option = refl

help_or_mistake : faults_in (codes "ptpx" ∷ codes "help" ∷ [])
    ≡ kind.DisplayHelp ∷ kind.InvalidSubcommand ∷ []
unfolding clap_on_literals walk_fault walked hex_on_literals chars faults_in named_in
help_or_mistake = refl

-- ---- values

shown_port : port_identity_of (codes "00aabbfffeccddee/1")
    ≡ Some (record { clock = 0 ∷ 170 ∷ 187 ∷ 255 ∷ 254 ∷ 204 ∷ 221 ∷ 238 ∷ []; port = 1 })
unfolding hex_on_literals
shown_port = refl

port_of_pmc : port_identity_of (codes "00AAbb.FFfe.ccddee-00319")
    ≡ Some (record { clock = 0 ∷ 170 ∷ 187 ∷ 255 ∷ 254 ∷ 204 ∷ 221 ∷ 238 ∷ []; port = 319 })
unfolding hex_on_literals
port_of_pmc = refl

half_and_half : port_identity_of (codes "00aabb.fffe.ccddee/1") ≡ None
unfolding hex_on_literals
half_and_half = refl

too_high_port : port_identity_of (codes "00aabbfffeccddee/65536") ≡ None
unfolding hex_on_literals
too_high_port = refl

no_port_number : port_identity_of (codes "00aabbfffeccddee/") ≡ None
unfolding hex_on_literals
no_port_number = refl

signed_port_number : port_identity_of (codes "00aabbfffeccddee/+1") ≡ None
unfolding hex_on_literals
signed_port_number = refl

padded_domain : domain_of (codes "007") ≡ Some 7
padded_domain = refl

last_domain : domain_of (codes "255") ≡ Some 255
last_domain = refl

too_high_domain : domain_of (codes "256") ≡ None
too_high_domain = refl

long_domain : domain_of (codes "0000") ≡ None
long_domain = refl

-- nanoseconds are told as so many seconds, in units of 2^-16 ns
whole_limit : limit_of (codes "1000") ≡ Some 65536000000000000
whole_limit = refl

limit_of_nothing : limit_of (codes "0") ≡ Some 0
limit_of_nothing = refl

finest_limit : limit_of (codes "0.000000001") ≡ Some 65536
finest_limit = refl

longest_limit : limit_of (codes "281474976710655.999999999") ≡ Some (281474976710655999999999 * 65536)
longest_limit = refl

too_great_limit : limit_of (codes "281474976710656") ≡ None
too_great_limit = refl

padded_limit : limit_of (codes "01") ≡ None
padded_limit = refl

empty_limit : limit_of [] ≡ None
empty_limit = refl

limit_with_octets : limit_of (codes "1 00") ≡ None
limit_with_octets = refl

limit_and_blank : limit_of (codes "1 ") ≡ None
limit_and_blank = refl
