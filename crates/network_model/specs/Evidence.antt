-- What an accepted run shows of each report, exact or not: the order of the events that its tags name, and of what they
-- are. `laws::runs_show_evidence` promises it.
use Rattle.std.specs.Prelude.{◌≡◌, ℕ, ◌<◌, ◌≤◌, ◌⊎◌, int_lt, Bool, true, false, count_by, Option, Some, None, IfSome}
use Rattle.std.specs.Prelude.{IsTrue, Ok, Err, Result}
use Rattle.ptp_units.specs.Interval.{too_big}
use Rattle.event_codec.specs.Packet.{Contents}
use Rattle.slave_port.specs.declared.heard.Heard.{Heard}
use Rattle.slave_port.specs.declared.heard.Heard.TheVariants as answers
use Rattle.slave_port.specs.declared.heard.Report.{Report}
use Rattle.network_model.specs.declared.event.Event.TheVariants.{Follow, Stamped}
use Rattle.network_model.specs.declared.refusal.WorldRefusal.{WorldRefusal}
use Rattle.network_model.specs.declared.stepped.Outcome.{Outcome}
use Rattle.network_model.specs.declared.stepped.Outcome.TheVariants as outcomes
use Rattle.network_model.specs.Network.{Network, NodeName, PortSetup}
use Rattle.network_model.specs.Run.{Run, Place, IsIn, place_at, tag_of, until, site_of, events_after}
use Rattle.network_model.specs.Kinds.{is_at, is_sync, is_one_step_sync, is_request, is_leave_of}
use Rattle.network_model.specs.Journey.{Journey}
use Rattle.network_model.specs.Truth.{master_at, slave_at, message_after}
use Rattle.network_model.specs.Outcome.{outcome_of, IsRun}
use Rattle.network_model.specs.Present.{present_master}
use Rattle.network_model.specs.Premises.{Premise, IsAcceptedRun, is_used}
use Rattle.network_model.specs.Reported.{Reports}
use Rattle.network_model.specs.Exact.{Arrives, HearsOf, IsMeasurement}

-- a message that a slave hears completes a Sync or a request
abbrev pub is_complete : Heard → Bool
is_complete answers.Held = false
is_complete answers.Completed = true
is_complete (answers.Report report) = true
is_complete (answers.Ignored reason) = false

-- a slave heard a message that completed a Sync or a request
abbrev pub is_completing : Result Outcome WorldRefusal → Bool
is_completing (Ok outcomes.Done) = false
is_completing (Ok outcomes.Made) = false
is_completing (Ok outcomes.Entered) = false
is_completing (Ok (outcomes.Heard heard)) = is_complete heard
is_completing (Ok (outcomes.Refused code)) = false
is_completing (Err refusal) = false

-- the event of this tag has an outcome of this kind
pub record HasOutcome (network : Network) (run : Run) (kind : Result Outcome WorldRefusal → Bool) (tag : ℕ) : Type 0 where
  pub p : Place
  pub there : place_at run tag ≡ Some p
  pub outcome : IsTrue (kind (outcome_of network p.earlier p.event))

-- what a report's Sync did when it arrived: it was used, and a one-step one completed by itself
abbrev pub SyncWasUsed : Network → Run → Option ℕ → (sync_tag : ℕ) → Type 0
SyncWasUsed network run None sync_tag = HasOutcome network run is_completing sync_tag
SyncWasUsed network run (Some follow_tag) sync_tag = HasOutcome network run is_used sync_tag

-- a report's tags aren't later than its own event, one of its messages is heard there, and the request is before the
-- Delay_Resp
pub record TagsInOrder (tag : ℕ) (report : Report) : Type 0 where
  pub sync : report.sync_tag ≤ tag
  pub follow : IfSome report.follow_tag (λ follow. follow ≤ tag)
  pub response : report.response_tag ≤ tag
  pub heard_now : (report.sync_tag ≡ tag) ⊎ ((report.follow_tag ≡ Some tag) ⊎ (report.response_tag ≡ tag))
  pub request : report.request_tag < report.response_tag

-- between a request and its Delay_Resp the slave learnt when the request departed, and it sent no other request before
-- that
pub record WasStamped (network : Network) (run : Run) (slave : NodeName) (report : Report) : Type 0 where
  pub stamped : Place
  pub there : IsIn run stamped
  pub event : stamped.event ≡ Stamped slave
  pub done : outcome_of network stamped.earlier stamped.event ≡ Ok outcomes.Done
  pub after_request : report.request_tag < tag_of stamped
  pub before_response : tag_of stamped < report.response_tag
  pub no_other : count_by (is_at is_request slave) (events_after report.request_tag stamped.earlier) ≡ 0

-- a slave and a master are of one domain
pub record ShareDomain (network : Network) (slave master : NodeName) : Type 0 where
  pub own : PortSetup
  pub other : PortSetup
  pub slave_port : slave_at network slave ≡ Some own
  pub master_port : master_at network master ≡ Some other
  pub domain : own.config.domain ≡ other.config.domain

-- the correction of a message at the end of its journey isn't too big
pub record IsRepresented (network : Network) (journey : Journey) : Type 0 where
  pub message : Contents
  pub arrived : message_after network journey ≡ Some message
  pub small : IsTrue (int_lt message.header.correction.0 too_big)

-- the event of this tag is the hearing of a Follow_Up of this master
pub record HearsFollow (run : Run) (slave master : NodeName) (tag : ℕ) : Type 0 where
  pub follow : Place
  pub hears : HearsOf run tag slave follow
  pub event : follow.event ≡ Follow master

-- by which kind of messages a report's Sync of a master came: a two-step one with a Follow_Up of the same master, or a
-- one-step one
abbrev pub IsOfKind : Run → (slave master : NodeName) → Option ℕ → (origin : Place) → Type 0
IsOfKind run slave master None origin = IsTrue (is_at is_one_step_sync master origin.event)
IsOfKind run slave master (Some follow_tag) origin =
    IsTrue (is_at is_sync master origin.event) × HearsFollow run slave master follow_tag

-- The Sync of a report's tag: a copy arrived at the slave, after this journey, of a Sync that a master of the slave's
-- domain drew; it is a two-step one, and the Follow_Up of the report's tag is one of this master, or it is a one-step
-- one; and its correction isn't too big.
pub record HasSync (network : Network) (run : Run) (slave : NodeName) (report : Report) : Type 0 where
  pub arrival : Place
  pub journey : Journey
  pub arrives : Arrives run report.sync_tag slave arrival journey
  pub kind : IsOfKind run slave (site_of journey.origin.event) report.follow_tag journey.origin
  pub domain : ShareDomain network slave (site_of journey.origin.event)
  pub small : IsRepresented network journey

-- The Delay_Req of a report's tags: the event of the request's tag is a Request of the slave. The Delay_Resp was made
-- by the arrival of a Delay_Req of the slave, after this journey, at a master of the slave's domain, and the correction
-- of that Delay_Req isn't too big.
pub record HasRequest (network : Network) (run : Run) (slave : NodeName) (report : Report) : Type 0 where
  pub requested : Place
  pub there : place_at run report.request_tag ≡ Some requested
  pub asked : IsTrue (is_at is_request slave requested.event)
  pub master : NodeName
  pub arrival : Place
  pub journey : Journey
  pub hears : HearsOf run report.response_tag slave arrival
  pub arrives : Arrives run (tag_of arrival) master arrival journey
  pub drawn : IsTrue (is_at is_request slave journey.origin.event)
  pub domain : ShareDomain network slave master
  pub small : IsRepresented network journey

-- all this of a report that an event answers, and that both halves are of the slave's present master
pub record HasEvidence (network : Network) (answered : Place) (slave : NodeName) (report : Report) : Type 0 where
  pub order : TagsInOrder (tag_of answered) report
  pub sync_used : SyncWasUsed network (until answered) report.follow_tag report.sync_tag
  pub follow_used : IfSome report.follow_tag (HasOutcome network (until answered) is_used)
  pub response_completes : HasOutcome network (until answered) is_completing report.response_tag
  pub stamped : WasStamped network (until answered) slave report
  pub sync : HasSync network (until answered) slave report
  pub request : HasRequest network (until answered) slave report
  pub present : present_master slave (until answered) ≡ Some (site_of sync.journey.origin.event)
  pub one_master : request.master ≡ site_of sync.journey.origin.event

-- Each report has its evidence in the run.
abbrev pub EachReportHasEvidence : Premise → Type 0
EachReportHasEvidence premise =
    (network : Network) (answered : Place) (report : Report)
    → premise network (until answered) → Reports network answered report
    → HasEvidence network answered (site_of answered.event) report

-- a report's evidence and a measurement of it are of one master and of the same messages
pub record AreOfOne {run : Run} {slave : NodeName} {report : Report} {network : Network}
    (sync : HasSync network run slave report) (request : HasRequest network run slave report)
    (measured : IsMeasurement run slave report) : Type 0 where
  pub master : site_of sync.journey.origin.event ≡ measured.one_sync.master
  pub sync_arrival : sync.arrival ≡ measured.one_sync.arrival
  pub sync_journey : sync.journey ≡ measured.one_sync.journey
  pub answered_by : request.master ≡ measured.one_request.master
  pub request_arrival : request.arrival ≡ measured.one_request.arrival
  pub request_journey : request.journey ≡ measured.one_request.journey

-- The tags of a report leave no choice: what there is evidence of is what was measured.
abbrev pub EvidenceIsOfMeasurements : Type 0
EvidenceIsOfMeasurements =
    (network : Network) (run : Run) (slave : NodeName) (report : Report)
    → (sync : HasSync network run slave report) → (request : HasRequest network run slave report)
    → (measured : IsMeasurement run slave report)
    → AreOfOne sync request measured

-- No stay in a clock is left twice: no two events of a run leave one stay.
abbrev pub EachStayIsLeftOnce : Type 0
EachStayIsLeftOnce =
    (network : Network) (run : Run) (transit : ℕ) → IsRun network run → count_by (is_leave_of transit) run ≤ 1

-- What every accepted run shows.
pub record ShowsEvidence : Type 0 where
  pub reports : EachReportHasEvidence IsAcceptedRun
  pub measurements : EvidenceIsOfMeasurements
  pub stays : EachStayIsLeftOnce
