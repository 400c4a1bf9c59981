-- Whom an input is of, in words.
use Rattle.std.specs.Prelude.{ℕ, Bool, List, ◌++◌, codes, is_some, Option, Some, None, if◌then◌else◌}
use Rattle.std.specs.Fmt.{decimal}
use Rattle.datagram_text.specs.Shown.{identity_text}
use Rattle.event_codec.specs.declared.port.PortIdentity.{PortIdentity}
use Rattle.recording_summary.specs.declared.whom.Known.{Known}
use Rattle.recording_summary.specs.declared.whom.Whom.{Whom}
use Rattle.recording_words.specs.declared.unit.InputUnit.{InputUnit}
use Rattle.recording_words.specs.Unit.{unit_name}

-- how something is known: by the line or packet of a number, if not by what was asked for
unfoldable pub source_text : InputUnit → (number : Option ℕ) → List ℕ
source_text unit (Some number) = codes "told by " ++ unit_name unit ++ codes " " ++ decimal number
source_text unit None = codes "as asked for"

-- which message would have told the domain
abbrev pub domain_teller : (is_master_known : Bool) → List ℕ
domain_teller is_master_known = if is_master_known then codes "Sync of the master" else codes "Sync"

-- the domain and how it is known, or which message would have told it
unfoldable pub domain_line : InputUnit → Option (Known ℕ) → (is_master_known : Bool) → List ℕ
domain_line unit (Some known) is_master_known =
    codes "ptpx: domain " ++ decimal known.value ++ codes ", " ++ source_text unit known.line ++ codes "\n"
domain_line unit None is_master_known = codes "ptpx: no " ++ domain_teller is_master_known ++ codes " tells the domain\n"

-- which message would have told the master
abbrev pub master_teller : (is_domain_known : Bool) → List ℕ
master_teller is_domain_known = if is_domain_known then codes "Sync of the domain" else codes "Sync"

-- the master, the same way
unfoldable pub master_line : InputUnit → Option (Known PortIdentity) → (is_domain_known : Bool) → List ℕ
master_line unit (Some known) is_domain_known =
    codes "ptpx: master " ++ identity_text known.value ++ codes ", " ++ source_text unit known.line ++ codes "\n"
master_line unit None is_domain_known = codes "ptpx: no " ++ master_teller is_domain_known ++ codes " tells the master\n"

-- the slave, which a Delay_Req of the domain tells
unfoldable pub slave_line : InputUnit → Option (Known PortIdentity) → List ℕ
slave_line unit (Some known) =
    codes "ptpx: slave " ++ identity_text known.value ++ codes ", " ++ source_text unit known.line ++ codes "\n"
slave_line unit None = codes "ptpx: no Delay_Req of the domain tells the slave\n"

-- the domain, the master and the slave, a line each
unfoldable pub whom_text : InputUnit → Whom → List ℕ
whom_text unit whom =
    domain_line unit whom.domain (is_some whom.master) ++ master_line unit whom.master (is_some whom.domain)
    ++ slave_line unit whom.slave
