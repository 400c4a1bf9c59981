-- Whom an input is of, and which of its lines or packets told that. Lists of datagrams have the newest in front.
use Rattle.std.specs.Prelude.{ℕ, Bool, List, Option, Some, None, option_map, option_and_then}
use Rattle.std.specs.Option.{option_or, option_map_or}
use Rattle.event_codec.specs.declared.message.Body.{Body}
use Rattle.event_codec.specs.declared.port.PortIdentity.{PortIdentity}
use Rattle.recording_model.specs.Recorded.{Recorded}
use Rattle.recording_model.specs.Told.{is_sync}
use Rattle.recording_summary.specs.declared.whom.Known.{Known}
use Rattle.recording_measure.specs.declared.watch.WantedPorts.{WantedPorts}
use Rattle.recording_summary.specs.declared.whom.Whom.{Whom}
use Rattle.recording_measure.specs.Watch.{is_request, first_told, source_told, domain_told, domain_in}
use Rattle.recording_measure.specs.Row.{datagrams}
use Rattle.recording_measure.specs.Places.{PlacedRow, rows_at, rows_looked_at}
use Rattle.recording_measure.specs.Chosen.{chosen}

-- what a line told, if it did
abbrev pub known_at : {T : Type 0} → (line : ℕ) → Option T → Option (Known T)
known_at line told = option_map (λ value. record { value = value; line = Some line }) told

-- what a datagram tells, and by which line
abbrev pub told_at : {T : Type 0} → (Recorded → Option T) → Recorded → Option (Known T)
told_at tells d = known_at d.line (tells d)

-- what is asked for, which no line told
abbrev pub asked_for : {T : Type 0} → Option T → Option (Known T)
asked_for asked = option_map (λ value. record { value = value; line = None }) asked

-- the domain: the one that is asked for, or that of the first Sync that tells it
abbrev pub known_domain : WantedPorts → List Recorded → Option (Known ℕ)
known_domain w ds = option_or (asked_for w.domain) (first_told (told_at (domain_told w.master)) ds)

-- a port: the one that is asked for, or the source of the first message of a kind in the domain
abbrev pub known_port : (Body → Bool) → (asked : Option PortIdentity) → (domain : Option ℕ) → List Recorded
    → Option (Known PortIdentity)
known_port kind asked domain ds =
    option_or (asked_for asked) (option_and_then (λ known. first_told (told_at (source_told kind known)) ds) domain)

-- whom datagrams are of, as far as that is known, and by which line each of the three
abbrev pub whom_in : WantedPorts → List Recorded → Whom
whom_in w ds = record {
  domain = known_domain w ds;
  master = known_port is_sync w.master (domain_in w ds) ds;
  slave = known_port is_request w.slave (domain_in w ds) ds;
}

-- the same of all that was read: of what was met at the place that is measured; while none is, of what was met at none that has a
-- name
abbrev pub told_whom : WantedPorts → List PlacedRow → Whom
told_whom w rows = whom_in w (datagrams (option_map_or (λ place. rows_at place rows) (chosen w rows) (rows_looked_at None rows)))
