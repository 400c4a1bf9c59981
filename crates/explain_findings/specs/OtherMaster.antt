-- What breaks 703, in a sentence: which master the slave was told, of which one the Sync is, and which one answered.
use Rattle.std.specs.Prelude.{ℕ, List, [], ◌++◌, reverse, codes, Option, Some, None, option_map, option_and_then}
use Rattle.std.specs.Fmt.{decimal}
use Rattle.slave_port.specs.declared.heard.Report.{Report}
use Rattle.network_model.specs.declared.event.Event.{Event}
use Rattle.network_model.specs.Kinds.{named_master}
use Rattle.network_model.specs.Network.{NodeName}
use Rattle.network_model.specs.Run.{site_of}
use Rattle.trace_model.specs.declared.finding.Part.{Part}
use Rattle.exchange_check.specs.declared.exchange.Exchange.{Exchange}
use Rattle.exchange_check.specs.KeptLine.{master_told}
use Rattle.exchange_check.specs.Transcript.{Transcript}
use Rattle.explain_findings.specs.declared.known.Named.{Named}
use Rattle.explain_findings.specs.declared.known.Port.{Port}
use Rattle.explain_findings.specs.declared.other_master.OtherMaster.{OtherMaster}
use Rattle.explain_findings.specs.declared.reported.Reported.{Reported}
use Rattle.explain_findings.specs.Heard.{name_text, tag_of}
use Rattle.explain_findings.specs.Known.{event_at, named_at, named_if_at, named_text, port_at, port_text}

-- ---- which sentence it is

-- the master that an event tells, and this event
abbrev pub master_in : Option Event → Named → Option (NodeName × Named)
master_in event named = option_map (λ master. (master, named)) (option_and_then named_master event)

-- that of an event of a number that there may be
abbrev pub master_by : Transcript → (told : Option ℕ) → Option (NodeName × Named)
master_by transcript told =
    option_and_then (λ number. master_in (event_at transcript number) (named_at transcript number)) told

-- the master that a slave was told last
abbrev pub master_at : Transcript → (slave : NodeName) → Option (NodeName × Named)
master_at transcript slave = master_by transcript (master_told transcript.network (reverse transcript.lines) slave)

-- the port that sent the Sync of an exchange, and the event by which the Delay_Req was answered
abbrev pub answered_at : Transcript → Option Exchange → Option (Port × Named)
answered_at transcript exchange = option_map
    (λ x. (port_at transcript (site_of x.sync.departed.event), named_at transcript x.request.arrived.number))
    exchange

-- the message that came before the event of a number, with the event of its tag
abbrev pub early_in : Option (Part × ℕ) → Option Named → Option (Part × Named × ℕ)
early_in None named = None
early_in (Some early) None = None
early_in (Some early) (Some named) = Some (early.0, named, early.1)

abbrev pub early_tag : Report → Option (Part × ℕ) → Option ℕ
early_tag report early = option_and_then (λ found. tag_of report found.0) early

abbrev pub early_at : Transcript → Report → Option (Part × ℕ) → Option (Part × Named × ℕ)
early_at transcript report early = early_in early (named_if_at transcript (early_tag report early))

-- which master the slave of a report was told, of which one the Sync is, which one answered, and which message came too early
abbrev pub other_master_at : Transcript → Reported → Option Exchange → (early : Option (Part × ℕ)) → OtherMaster
other_master_at transcript reported exchange early = record {
  slave = port_at transcript reported.node;
  told = record { 0 = master_at transcript reported.node };
  answered = record { 0 = answered_at transcript exchange };
  early = record { 0 = early_at transcript reported.report early };
}

-- ---- its text

abbrev pub told_text : Option (NodeName × Named) → List ℕ
told_text None = codes "no master"
told_text (Some told) = codes "the master " ++ (told.0 ++ (codes " by " ++ named_text told.1))

abbrev pub answered_text : Option (Port × Named) → List ℕ
answered_text None = []
answered_text (Some answered) =
    codes "\n    the Sync is of " ++ (port_text answered.0 ++ (codes "; the Delay_Req was answered by "
    ++ named_text answered.1))

abbrev pub early_text : Option (Part × Named × ℕ) → List ℕ
early_text None = []
early_text (Some early) =
    codes "\n    the " ++ (name_text early.0 ++ (codes " of " ++ (named_text early.1 ++ (codes ", is earlier than event "
    ++ decimal early.2))))

abbrev pub other_master_text : OtherMaster → List ℕ
other_master_text other =
    port_text other.slave ++ (codes ", was told " ++ (told_text other.told.0 ++ (answered_text other.answered.0
    ++ early_text other.early.0)))
